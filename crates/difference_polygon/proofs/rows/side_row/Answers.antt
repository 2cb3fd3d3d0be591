use Rattle.std.proofs.Common.{◌≡◌, ◌∙◌, ap, rules, FitsSigned, w64, to_z-of_z, ℕ, ℤ}
use Rattle.seq_model.specs.Systems.{pair_row}
use Rattle.seq_model.specs.declared.job.Job.{Job}
use Rattle.difference_polygon.proofs.rows.side_row.Goals as goal

same_row : (job : Job) (c g x v y w : ℤ) (i j : ℕ) → c ≡ g → x ≡ v → y ≡ w → pair_row job c x y i j ≡ pair_row job g v w i j
same_row job c g x v y w i j p q r = ap (λ t. pair_row job t x y i j) p ∙ ap (λ t. pair_row job g t y i j) q ∙ ap (λ t. pair_row job g v t i j) r

pub returns-clause-constant : goal.returns-clause-constant
returns-clause-constant c =
    let fits : FitsSigned w64 c.constant_along.result = search rules in
    λ e. to_z-of_z fits ∙ c.constant_along.ensures.value e

pub returns-clause-row : goal.returns-clause-row
returns-clause-row c =
    let fits : FitsSigned w64 c.constant_along.result = search rules in
    let x_fits : FitsSigned w64 c.args.dir.x = search rules in
    let y_fits : FitsSigned w64 c.args.dir.y = search rules in
    λ e. same_row c.args.job.now _ _ _ _ _ _ c.args.contact.now.i c.args.contact.now.j (to_z-of_z fits ∙ c.constant_along.ensures.value e) (to_z-of_z x_fits) (to_z-of_z y_fits)
