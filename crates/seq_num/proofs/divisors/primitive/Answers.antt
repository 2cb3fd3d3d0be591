use Rattle.std.proofs.Common.{◌≡◌, int_div, sym, ◌∙◌, subst₂, rules}
use Rattle.std.proofs.lemmas.Int.{to_z-of_z}
use Rattle.std.specs.Int.{w64, w128}
use Rattle.std.specs.Prelude.{FitsSigned}
use Rattle.integer_laws.specs.Divisors.{IsGcdOf, Reduces}
use Rattle.integer_laws.specs.Laws.Divisors.{reduces_by_gcd}
use Rattle.seq_num.proofs.divisors.primitive.Goals as goal

pub returns : goal.returns
returns c =
    let x = c.args.x in
    let y = c.args.y in
    let g = c.gcd-divisor.result in
    let x_fits = c.ranges.x in
    let y_fits = c.ranges.y in
    let g_fits : FitsSigned w128 g = search rules in
    let p_fits : FitsSigned w64 c.quotient.result = search rules in
    let q_fits : FitsSigned w64 c.quotient-2.result = search rules in
    let from_x : c.from.result ≡ x = simp to_z-of_z at c.from.ensures in
    let from_y : c.from-2.result ≡ y = simp to_z-of_z at c.from-2.ensures in
    let from_x_fits : FitsSigned w128 c.from.result = search rules in
    let from_y_fits : FitsSigned w128 c.from-2.result = search rules in
    let is_from : IsGcdOf c.from.result c.from-2.result g = simp to_z-of_z at c.gcd-divisor.ensures.is in
    let is : IsGcdOf x y g = subst₂ (λ s t. IsGcdOf s t g) from_x from_y is_from in
    let p_is : c.quotient.result ≡ int_div x g = simp to_z-of_z at c.quotient.ensures.value in
    let q_is : c.quotient-2.result ≡ int_div y g = simp to_z-of_z at c.quotient-2.ensures.value in
    subst₂ (Reduces x y) (sym (to_z-of_z w64 c.quotient.result p_fits ∙ p_is)) (sym (to_z-of_z w64 c.quotient-2.result q_fits ∙ q_is)) (reduces_by_gcd x y g is c.requires.direction)
