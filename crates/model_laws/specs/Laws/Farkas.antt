-- Where all rows hold, so does any sum of them with multipliers of at least 0: so a contradiction has no point.
use Rattle.std.proofs.Common.{List, [], ◌∷◌, arith, ℤ, pos, ◌+ℤ◌, ◌*ℤ◌, ◌≤ℤ◌, All}
use Rattle.std.proofs.lemmas.Int.{ints}
use Rattle.std.proofs.lemmas.List.Elements.{All-head, All-tail, All-get_or}
use Rattle.integer_laws.specs.Laws.Order.{mul_nonneg, le_from, add_le, mul_le, mul_lt}
use Rattle.integer_laws.specs.Laws.Ring.{expand}
use Rattle.integer_laws.specs.Vectors.{dot}
use Rattle.integer_laws.specs.Laws.Vectors.{dot-plus, dot-scale}
use Rattle.seq_model.specs.declared.row.Row.{Row}
use Rattle.seq_model.specs.Systems.{row_value, MeetsRows, no_row, row_at, sum_constant, sum_coefficients, IsTaken, Contradiction}
use Rattle.seq_model.specs.declared.tree.Mult.{Mult}

-- a vector with no positive entry has no positive product with one that has no negative entry
dot_not_positive : (a u : List ℤ) → All (λ x. x ≤ℤ pos 0) a → All (λ x. pos 0 ≤ℤ x) u → dot a u ≤ℤ pos 0
dot_not_positive [] u h k = omega (arith, ints)
dot_not_positive (x ∷ a) [] h k = omega (arith, ints)
dot_not_positive (x ∷ a) (v ∷ u) h k =
    let first = mul_le v {a = x} {b = pos 0} (All-head (λ y. pos 0 ≤ℤ y) v u k) (All-head (λ y. y ≤ℤ pos 0) x a h) in
    let rest = dot_not_positive a u (All-tail (λ y. y ≤ℤ pos 0) x a h) (All-tail (λ y. pos 0 ≤ℤ y) v u k) in
    le_from (add_le first rest) (simp expand (omega (arith, ints)))

sum_holds : (rows : List Row) (d : ℤ) (u : List ℤ) → All (λ row. pos 0 ≤ℤ row_value d u row) rows → (mults : List Mult) → All (IsTaken rows) mults
    → pos 0 ≤ℤ (d *ℤ sum_constant rows mults +ℤ dot (sum_coefficients rows mults) u)
sum_holds rows d u h [] k = simp expand (omega (arith, ints))
sum_holds rows d u h (m ∷ mults) k =
    let taken = All-head (IsTaken rows) m mults k in
    let row = row_at rows m.row in
    let first = mul_nonneg m.times (row_value d u row) taken.times (All-get_or (λ r. pos 0 ≤ℤ row_value d u r) rows m.row no_row taken.row h) in
    let rest = sum_holds rows d u h mults (All-tail (IsTaken rows) m mults k) in
    le_from (add_le first rest) (simp (dot-plus, dot-scale, expand) (omega (arith, ints)))

pub no_point : (rows : List Row) (mults : List Mult) → Contradiction rows mults → (d : ℤ) (u : List ℤ) → MeetsRows rows d u → ⊥
no_point rows mults c d u m =
    let held = sum_holds rows d u m.each mults c.each in
    let low = dot_not_positive (sum_coefficients rows mults) u c.coefficients m.coordinates in
    let negative = mul_lt d {a = sum_constant rows mults} {b = pos 0} (omega (arith, ints, m.positive)) c.constant in
    omega (arith, ints, held, low, negative)
