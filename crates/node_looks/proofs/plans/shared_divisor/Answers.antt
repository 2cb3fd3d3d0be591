use Rattle.std.proofs.Common.{FitsSigned, rules, ◌≤ℤ◌, pos}
use Rattle.std.proofs.lemmas.Int.{to_z-of_z}
use Rattle.integer_laws.specs.Divisors.{IsGcdOf}
use Rattle.node_looks.proofs.Scaling.{positive, shared}
use Rattle.node_looks.proofs.plans.shared_divisor.Goals as goal

pub returns-clause-shared : goal.returns-clause-shared
returns-clause-shared c =
    let p = c.args.place.now in
    let fits_divisor = c.ranges.divisor in
    let fits_x : FitsSigned mir.Syntax.w128 p.x = search rules in
    let fits_y : FitsSigned mir.Syntax.w128 p.y = search rules in
    let fits_first : FitsSigned mir.Syntax.w128 c.gcd.result = search rules in
    let first : IsGcdOf c.args.divisor p.x c.gcd.result = simp to_z-of_z at c.gcd.ensures.is in
    let second : IsGcdOf c.gcd.result p.y c.gcd-2.result = simp to_z-of_z at c.gcd-2.ensures.is in
    let fits_last : FitsSigned mir.Syntax.w128 c.gcd-2.result = search rules in
    let one : pos 1 ≤ℤ c.gcd-2.result = positive c.args.divisor p.x p.y c.gcd.result c.gcd-2.result c.requires.positive first second in
    rw (to_z-of_z mir.Syntax.w128 c.gcd-2.result fits_last) (shared c.args.divisor c.gcd.result c.gcd-2.result p one first second)
