use Rattle.std.proofs.Common.{ℕ, ◌≤◌, ◌≡◌, ◌+ℤ◌, ap, sym, ◌∙◌, arith, rules, FitsSigned, w64, to_z-of_z}
use Rattle.integer_laws.specs.Laws.Steps.{steps}
use Rattle.seq_model.specs.Sides.{greatest_along}
use Rattle.outline_laws.specs.Laws.Clear.{add_three, greatest_sum}
use Rattle.difference_polygon.proofs.values.support_along.Goals as goal

pub returns-clause-value : goal.returns-clause-value
returns-clause-value c =
    let value : c.sum_of_three.result ≡ (c.greatest_value-of_a.result +ℤ c.greatest_value-of_b.result) +ℤ c.greatest_value-of_f.result = grind (arith, steps) in
    let fits : FitsSigned w64 c.sum_of_three.result = search rules in
    to_z-of_z fits
    ∙ value
    ∙ add_three c.greatest_value-of_a.ensures.value (c.greatest_value-of_b.ensures.value ∙ ap (λ d. greatest_along d c.args.b.now) c.opposite-back.ensures.value) (c.greatest_value-of_f.ensures.value ∙ ap (λ d. greatest_along d c.args.f.now) c.opposite-back.ensures.value)
    ∙ sym (greatest_sum c.args.dir.now c.args.a.now c.args.b.now c.args.f.now (weak c.requires.outlines.a_area) (weak c.requires.outlines.b_area) c.requires.outlines.f_some)
  where
    weak : {n : ℕ} → 3 ≤ n → 1 ≤ n
    weak h = omega (arith, h)
