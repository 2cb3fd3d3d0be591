-- The sums of the rows that a bound takes.
use Rattle.std.proofs.Common.{◌≡◌, ℕ, ℤ, pos, ◌+ℤ◌, ◌*ℤ◌, ◌≤ℤ◌, List, [], ◌∷◌, length, refl, sym, ap, subst, ◌∙◌, arith, All, ◌↔◌, Bool, true, false, ltb}
use Rattle.std.proofs.lemmas.Int.{ints}
use Rattle.std.proofs.lemmas.List.{get_or_default}
use Rattle.std.proofs.Math.ListN.{get_or-eq_default}
use Rattle.std.proofs.lemmas.Bool.Decides.{nat_tests}
use Rattle.integer_laws.specs.Vectors.{scale}
use Rattle.integer_laws.specs.Laws.Vectors.{get_or-plus, get_or-scale}
use Rattle.seq_model.specs.declared.row.Row.{Row}
use Rattle.seq_model.specs.Systems.{row_at, sum_constant, sum_coefficients}
use Rattle.seq_model.specs.declared.tree.Mult.{Mult}
use Rattle.bound_sums.specs.Sparse.{entry, AreAdded}

-- of the first rows the sums are made, the others are still to come
pub record AreSums (rows : List Row) (mults left : List Mult) (sums : List ℤ) (constant : ℤ) : Type 0 where
  pub coefficients : (v : ℕ) → entry sums v +ℤ entry (sum_coefficients rows left) v ≡ entry (sum_coefficients rows mults) v
  pub constants : constant +ℤ sum_constant rows left ≡ sum_constant rows mults

pub one_summed : (rows : List Row) (mults left : List Mult) (m : Mult) (sums more : List ℤ) (constant now : ℤ) → AreSums rows mults (m ∷ left) sums constant
    → AreAdded m.times sums (row_at rows m.row).a more → now ≡ constant +ℤ m.times *ℤ (row_at rows m.row).c → AreSums rows mults left more now
one_summed rows mults left m sums more constant now s added is = record {
  coefficients = λ v.
      (let e : entry (sum_coefficients rows (m ∷ left)) v ≡ m.times *ℤ entry (row_at rows m.row).a v +ℤ entry (sum_coefficients rows left) v =
      get_or-plus (scale m.times (row_at rows m.row).a) (sum_coefficients rows left) v ∙ ap (λ z. z +ℤ entry (sum_coefficients rows left) v) (get_or-scale m.times (row_at rows m.row).a v) in
      let f = s.coefficients v in
      let g = added v in
      omega (arith, ints, e, f, g));
  constants = (let f = s.constants in omega (arith, ints, is, f));
}

-- at the end the sums are those of a contradiction
low_entry : (a : List ℤ) → All (λ x. x ≤ℤ pos 0) a → (k : ℕ) → entry a k ≤ℤ pos 0
low_entry a all k = by (ltb k (length a)) refl
  where
    by : (b : Bool) → ltb k (length a) ≡ b → entry a k ≤ℤ pos 0
    by true e = all k (pos 0) (grind (arith, nat_tests, e))
    by false e = subst (λ z. z ≤ℤ pos 0) (sym (get_or-eq_default a (pos 0) (grind (arith, nat_tests, e)))) (omega (arith, ints))

entries_low : (a : List ℤ) → ((k : ℕ) → entry a k ≤ℤ pos 0) → All (λ x. x ≤ℤ pos 0) a
entries_low a each k d within = subst (λ z. z ≤ℤ pos 0) (sym (get_or_default a k d (pos 0) within)) (each k)

pub all_summed : (rows : List Row) (mults : List Mult) (sums : List ℤ) (constant : ℤ) → AreSums rows mults [] sums constant
    → ((All (λ a. a ≤ℤ pos 0) sums) ↔ All (λ a. a ≤ℤ pos 0) (sum_coefficients rows mults)) × (constant ≡ sum_constant rows mults)
all_summed rows mults sums constant s = (
  (
    λ h. entries_low (sum_coefficients rows mults) (λ k. subst (λ z. z ≤ℤ pos 0) (same k) (low_entry sums h k)),
    λ h. entries_low sums (λ k. subst (λ z. z ≤ℤ pos 0) (sym (same k)) (low_entry (sum_coefficients rows mults) h k)),
  ),
  (let f = s.constants in omega (arith, ints, f)),
)
  where
    same : (v : ℕ) → entry sums v ≡ entry (sum_coefficients rows mults) v
    same v = let f = s.coefficients v in omega (arith, ints, f)
