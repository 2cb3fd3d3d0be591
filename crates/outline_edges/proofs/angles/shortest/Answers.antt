use Rattle.std.proofs.Common.{◌≡◌, rules, sym, ℤ, ◌<◌, ◌^◌, unsigned_abs, subst₂, FitsSigned, w64, to_z-of_z}
use Rattle.integer_laws.specs.Divisors.{Reduces}
use Rattle.seq_model.specs.declared.tree.Dir.{Dir}
use Rattle.outline_laws.specs.Laws.Clear.{short_reduced}
use Rattle.outline_laws.specs.Laws.InOrder.{short, short_is}
use Rattle.outline_edges.proofs.angles.shortest.Goals as goal

abbrev dir_of : ℤ → ℤ → Dir
dir_of x y = record { x = x; y = y }

pub returns-clause-short : goal.returns-clause-short
returns-clause-short c =
    let x_fits : FitsSigned w64 c.args.dir.now.x = search rules in
    let y_fits : FitsSigned w64 c.args.dir.now.y = search rules in
    let r = subst₂ (λ x y. Reduces x y c.primitive-x.result.0 c.primitive-x.result.1) (to_z-of_z x_fits) (to_z-of_z y_fits) c.primitive-x.ensures in
    let p_fits : FitsSigned w64 c.primitive-x.result.0 = search rules in
    let q_fits : FitsSigned w64 c.primitive-x.result.1 = search rules in
    subst₂ (λ x y. (unsigned_abs x < 2 ^ 22) × (unsigned_abs y < 2 ^ 22)) (sym (to_z-of_z p_fits)) (sym (to_z-of_z q_fits))
    (short_reduced c.args.dir.now (record { x = c.primitive-x.result.0; y = c.primitive-x.result.1 }) r c.requires.short)

pub returns-clause-same : goal.returns-clause-same
returns-clause-same c =
    let x_fits : FitsSigned w64 c.args.dir.now.x = search rules in
    let y_fits : FitsSigned w64 c.args.dir.now.y = search rules in
    let r = subst₂ (λ x y. Reduces x y c.primitive-x.result.0 c.primitive-x.result.1) (to_z-of_z x_fits) (to_z-of_z y_fits) c.primitive-x.ensures in
    let p_fits : FitsSigned w64 c.primitive-x.result.0 = search rules in
    let q_fits : FitsSigned w64 c.primitive-x.result.1 = search rules in
    subst₂ (λ x y. dir_of x y ≡ short c.args.dir.now) (sym (to_z-of_z p_fits)) (sym (to_z-of_z q_fits))
    (short_is c.args.dir.now (dir_of c.primitive-x.result.0 c.primitive-x.result.1) c.requires.direction r)
