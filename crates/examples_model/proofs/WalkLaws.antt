-- The walks of two small systems.
use Rattle.std.proofs.lemmas.Option.{same_Some}
use Rattle.std.proofs.Common.{◌≡◌, List, ◌++◌, length, ap, ℕ, zero, suc, ◌<◌, ◌≤◌, [], ◌∷◌, refl, sym, subst, arith, pos, negsuc, ◌-ℤ◌, ◌*ℤ◌, Bool, true, false, Some, None, inl, inr, IsTrue, lit<}
use Rattle.std.proofs.Math.Nat.{lt_of_not-le, eq-one_of_dvd-one}
use Rattle.std.specs.Prelude.{slice_get, nat_eq, if◌then◌else◌}
use lib.Dec.{T}
use lib.Signed.{le_z_yes}
use Rattle.examples_model.specs.Solving.{FormIs, one_row, row_of, edge, big, wide_rows, two_wide_rows}
use Rattle.row_laws.specs.Computed.{is_wide, line_of}
use Rattle.row_laws.specs.Laws.Pivots.{next_is}
use Rattle.row_laws.specs.Laws.Wide.{wide_decided}
use Rattle.seq_model.specs.Dictionaries.{Form, WideAt}
use Rattle.seq_model.specs.Walks.{Pivots, Stops, IsWide, Follow, Walk, EndsWide, WalkWide}

-- ---- no walk begins with what is no basis: each basis on the way has as many variables as there are rows
first_many : (before : List (List ℕ)) (last next : List ℕ) → slice_get (before ++ last ∷ []) 0 ≡ Some [] → Follow 2 wide_rows (before ++ last ∷ []) → Pivots 2 wide_rows last next → ⊥
first_many [] last next e f p = let some : length last ≡ 2 = p.form.many in absurd (omega (arith, some, ap length (same_Some last [] e)))
first_many (b ∷ []) last next e f p = let some : length b ≡ 2 = f.0.form.many in absurd (omega (arith, some, ap length (same_Some b [] e)))
first_many (b ∷ d ∷ before) last next e f p = let some : length b ≡ 2 = f.0.form.many in absurd (omega (arith, some, ap length (same_Some b [] e)))

pub from_nowhere : EndsWide 2 wide_rows [] (0 ∷ 3 ∷ []) 3 → ⊥
from_nowhere w =
    first_many w.walk.before w.walk.last (0 ∷ 3 ∷ []) (subst (λ t. slice_get t 0 ≡ Some []) w.walk.bases_are w.walk.begins) (subst (Follow 2 wide_rows) w.walk.bases_are w.walk.follow) w.next

-- ---- one row
slack_form : Form 1 one_row (1 ∷ [])
slack_form = record { d = pos 1; lines = (negsuc 0 ∷ pos 2 ∷ []) ∷ []; many = refl; rising = lit< tt; positive = le_z_yes tt; says = ((refl, refl), tt); reduced = λ k h. eq-one_of_dvd-one h.0 }

half_form : Form 1 one_row (0 ∷ [])
half_form = record { d = pos 2; lines = (pos 1 ∷ pos 1 ∷ []) ∷ []; many = refl; rising = lit< tt; positive = le_z_yes tt; says = ((refl, refl), tt); reduced = λ k h. eq-one_of_dvd-one (h.1 0 [] (lit< tt) 0 (pos 0) (lit< tt)) }

pub first_form : FormIs 1 one_row (1 ∷ []) (pos 1) ((negsuc 0 ∷ pos 2 ∷ []) ∷ [])
unfolding slack_form
first_form = record { form = slack_form; d_is = refl; lines_are = refl }

pub last_form : FormIs 1 one_row (0 ∷ []) (pos 2) ((pos 1 ∷ pos 1 ∷ []) ∷ [])
unfolding half_form
last_form = record { form = half_form; d_is = refl; lines_are = refl }

narrow : (b : Bool) → IsTrue (is_wide (pos 2) (if b then Some (pos 1 ∷ pos 1 ∷ []) else None)) → ⊥
narrow true t = subst T (sym t) tt
narrow false t = subst T (sym t) tt

never_wide : IsWide 1 one_row (0 ∷ []) → ⊥
unfolding half_form
never_wide w = narrow (nat_eq w.0 0) ((wide_decided 1 one_row (0 ∷ []) half_form w.0).0 w.1)

goes_on : Pivots 1 one_row (1 ∷ []) (0 ∷ [])
unfolding slack_form
goes_on = (next_is 1 one_row (1 ∷ []) slack_form (Some (0 ∷ []))).0 refl

stops : Stops 1 one_row (0 ∷ [])
unfolding half_form
stops = (next_is 1 one_row (0 ∷ []) half_form None).0 refl

pub walk_of_one : Walk 1 one_row (1 ∷ []) ((1 ∷ []) ∷ (0 ∷ []) ∷ [])
walk_of_one = record { before = (1 ∷ []) ∷ []; last = 0 ∷ []; bases_are = refl; begins = refl; follow = (goes_on, never_wide, tt); ends = inl stops }

-- ---- even numbers
even_form : Form 1 (row_of (pos 2) (pos 2)) (1 ∷ [])
even_form = record { d = pos 1; lines = (pos 2 ∷ pos 2 ∷ []) ∷ []; many = refl; rising = lit< tt; positive = le_z_yes tt; says = ((refl, refl), tt); reduced = λ k h. eq-one_of_dvd-one h.0 }

pub even : FormIs 1 (row_of (pos 2) (pos 2)) (1 ∷ []) (pos 1) ((pos 2 ∷ pos 2 ∷ []) ∷ [])
unfolding even_form
even = record { form = even_form; d_is = refl; lines_are = refl }

-- ---- a wide row
two_slacks : Form 2 wide_rows (2 ∷ 3 ∷ [])
two_slacks = record { d = pos 1; lines = (negsuc 0 ∷ big ∷ pos 0 ∷ []) ∷ (negsuc 1 ∷ pos 1 ∷ pos 3 ∷ []) ∷ []; many = refl; rising = (lit< tt, lit< tt); positive = le_z_yes tt; says = ((refl, refl), ((refl, refl), tt)); reduced = λ k h. eq-one_of_dvd-one h.0 }

wide_form : Form 2 wide_rows (0 ∷ 3 ∷ [])
wide_form = record {
  d = big;
  lines = (pos 1 ∷ pos 0 ∷ pos 1 ∷ []) ∷ ((pos 1 -ℤ pos 2 *ℤ big) ∷ (pos 3 *ℤ big) ∷ pos 1 ∷ []) ∷ [];
  many = refl;
  rising = (lit< tt, lit< tt);
  positive = le_z_yes tt;
  says = ((refl, refl), ((refl, refl), tt));
  reduced = λ k h. eq-one_of_dvd-one (h.1 0 [] (lit< tt) 0 (pos 0) (lit< tt));
}

pub wide_form_is : FormIs 2 wide_rows (0 ∷ 3 ∷ []) big ((pos 1 ∷ pos 0 ∷ pos 1 ∷ []) ∷ ((pos 1 -ℤ pos 2 *ℤ big) ∷ (pos 3 *ℤ big) ∷ pos 1 ∷ []) ∷ [])
unfolding wide_form
wide_form_is = record { form = wide_form; d_is = refl; lines_are = refl }

pub wide_at_3 : WideAt 2 wide_rows (0 ∷ 3 ∷ []) 3
unfolding wide_form
wide_at_3 = (wide_decided 2 wide_rows (0 ∷ 3 ∷ []) wide_form 3).1 refl

pivots : Pivots 2 wide_rows (2 ∷ 3 ∷ []) (0 ∷ 3 ∷ [])
unfolding two_slacks
pivots = (next_is 2 wide_rows (2 ∷ 3 ∷ []) two_slacks (Some (0 ∷ 3 ∷ []))).0 refl

narrow_below : (r : ℕ) → r < 3 → IsTrue (is_wide wide_form.d (line_of r (0 ∷ 3 ∷ []) wide_form.lines)) → ⊥
unfolding wide_form
narrow_below zero l t = subst T (sym t) tt
narrow_below (suc zero) l t = subst T (sym t) tt
narrow_below (suc (suc zero)) l t = subst T (sym t) tt
narrow_below (suc (suc (suc r))) l t = absurd (omega (arith, l))

pub walk_wide : WalkWide 2 wide_rows (0 ∷ 3 ∷ []) 3
walk_wide = record {
  bases = (2 ∷ 3 ∷ []) ∷ [];
  walk = record { before = []; last = 2 ∷ 3 ∷ []; bases_are = refl; begins = refl; follow = tt; ends = inr (0 ∷ 3 ∷ [], pivots, (3, wide_at_3)) };
  next = pivots;
  wide = wide_at_3;
  least = λ r w. le_from_not r 3 (λ l. narrow_below r l ((wide_decided 2 wide_rows (0 ∷ 3 ∷ []) wide_form r).0 w));
}
  where
    le_from_not : (r n : ℕ) → (r < n → ⊥) → n ≤ r
    le_from_not r n f = omega (arith, lt_of_not-le {n = suc r} {m = n} f)

-- ---- two wide rows
low_form : Form 1 two_wide_rows (1 ∷ 2 ∷ [])
low_form = record { d = pos 1; lines = (negsuc 0 ∷ edge ∷ []) ∷ (pos 1 ∷ pos 0 ∷ []) ∷ []; many = refl; rising = (lit< tt, lit< tt); positive = le_z_yes tt; says = ((refl, refl), ((refl, refl), tt)); reduced = λ k h. eq-one_of_dvd-one h.0 }

high_form : Form 1 two_wide_rows (0 ∷ 2 ∷ [])
high_form = record {
  d = edge;
  lines = (pos 1 ∷ pos 1 ∷ []) ∷ (edge ∷ pos 0 ∷ []) ∷ [];
  many = refl;
  rising = (lit< tt, lit< tt);
  positive = le_z_yes tt;
  says = ((refl, refl), ((refl, refl), tt));
  reduced = λ k h. eq-one_of_dvd-one (h.1 0 [] (lit< tt) 0 (pos 0) (lit< tt));
}

pub wide_at_0 : WideAt 1 two_wide_rows (0 ∷ 2 ∷ []) 0
unfolding high_form
wide_at_0 = (wide_decided 1 two_wide_rows (0 ∷ 2 ∷ []) high_form 0).1 refl

pub wide_at_2 : WideAt 1 two_wide_rows (0 ∷ 2 ∷ []) 2
unfolding high_form
wide_at_2 = (wide_decided 1 two_wide_rows (0 ∷ 2 ∷ []) high_form 2).1 refl

low_pivots : Pivots 1 two_wide_rows (1 ∷ 2 ∷ []) (0 ∷ 2 ∷ [])
unfolding low_form
low_pivots = (next_is 1 two_wide_rows (1 ∷ 2 ∷ []) low_form (Some (0 ∷ 2 ∷ []))).0 refl

pub least_named : WalkWide 1 two_wide_rows (0 ∷ 2 ∷ []) 0
least_named = record {
  bases = (1 ∷ 2 ∷ []) ∷ [];
  walk = record { before = []; last = 1 ∷ 2 ∷ []; bases_are = refl; begins = refl; follow = tt; ends = inr (0 ∷ 2 ∷ [], low_pivots, (0, wide_at_0)) };
  next = low_pivots;
  wide = wide_at_0;
  least = λ r w. omega arith;
}

pub other_not_named : WalkWide 1 two_wide_rows (0 ∷ 2 ∷ []) 2 → ⊥
other_not_named w = let least = w.least 0 wide_at_0 in absurd (omega (arith, least))
