use Rattle.std.proofs.Common.{◌≡◌, ℤ, pos, neg_ℤ, ◌≤ℤ◌, ◌<ℤ◌, ◌-ℤ◌, to_z, of_z, unsigned_abs, sym, arith, subst}
use Rattle.std.proofs.lemmas.Int.{ints, to_z-of_z, to_z_pos}
use Rattle.std.specs.Int.{w128}
use Rattle.seq_num.specs.Nearest.{IsNearest}
use Rattle.seq_num.proofs.Rounding.{nearest_below, nearest_above}
use Rattle.seq_num.proofs.nearest.near_div.Goals as goal

pub returns-then-a-lt0-clause-nearest : goal.returns-then-a-lt0-clause-nearest
returns-then-a-lt0-clause-nearest c =
    let a = c.args.a in
    let d = c.args.d in
    let a_fits = c.ranges.a in
    let d_fits = c.ranges.d in
    let below : a <ℤ pos 0 = grind (arith, ints) in
    let size_a : c.unsigned_abs.result ≡ unsigned_abs a = simp to_z-of_z at c.unsigned_abs.ensures.value in
    let size_d : c.unsigned_abs-2.result ≡ unsigned_abs d = simp to_z-of_z at c.unsigned_abs-2.ensures.value in
    let u = c.half_up-size.result in
    let value : to_z w128 (of_z w128 (pos 0 -ℤ to_z w128 u)) ≡ neg_ℤ (pos u) = omega (arith, ints) in
    let P : ℤ → Type 0 = IsNearest a d in
    subst P (sym value) (nearest_below a d _ _ u c.requires.positive below size_a size_d c.half_up-size.ensures.value)

pub returns-else-a-lt0-clause-nearest : goal.returns-else-a-lt0-clause-nearest
returns-else-a-lt0-clause-nearest c =
    let a = c.args.a in
    let d = c.args.d in
    let a_fits = c.ranges.a in
    let d_fits = c.ranges.d in
    let above : pos 0 ≤ℤ a = grind (arith, ints) in
    let size_a : c.unsigned_abs.result ≡ unsigned_abs a = simp to_z-of_z at c.unsigned_abs.ensures.value in
    let size_d : c.unsigned_abs-2.result ≡ unsigned_abs d = simp to_z-of_z at c.unsigned_abs-2.ensures.value in
    let u = c.half_up-size.result in
    let P : ℤ → Type 0 = IsNearest a d in
    subst P (sym (to_z_pos w128 u (omega arith))) (nearest_above a d _ _ u c.requires.positive above size_a size_d c.half_up-size.ensures.value)
