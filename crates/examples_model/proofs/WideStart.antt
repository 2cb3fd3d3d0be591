use Rattle.std.proofs.Common.{ℕ, ◌≤◌, [], ◌∷◌, refl, arith, pos, negsuc, ◌-ℤ◌, ◌*ℤ◌, Some, inr, lit<}
use Rattle.std.proofs.Math.Nat.{eq-one_of_dvd-one}
use lib.Signed.{le_z_yes}
use Rattle.examples_model.specs.Solving.{big, wide_rows}
use Rattle.row_laws.specs.Laws.Pivots.{next_is}
use Rattle.row_laws.specs.Laws.Wide.{wide_decided}
use Rattle.seq_model.specs.Dictionaries.{Form, WideAt}
use Rattle.seq_model.specs.Walks.{Pivots, EndsWide}

start_form : Form 2 wide_rows (1 ∷ 2 ∷ [])
start_form = record { d = pos 3; lines = (pos 2 ∷ negsuc 0 ∷ pos 1 ∷ []) ∷ (negsuc 2 ∷ (pos 3 *ℤ big) ∷ pos 0 ∷ []) ∷ []; many = refl; rising = (lit< tt, lit< tt); positive = le_z_yes tt; says = ((refl, refl), ((refl, refl), tt)); reduced = λ k h. eq-one_of_dvd-one (h.1 0 [] (lit< tt) 2 (pos 0) (lit< tt)) }

last_form : Form 2 wide_rows (0 ∷ 1 ∷ [])
last_form = record { d = pos 3 *ℤ big; lines = (pos 3 ∷ pos 3 ∷ pos 0 ∷ []) ∷ ((pos 2 *ℤ big -ℤ pos 1) ∷ negsuc 0 ∷ big ∷ []) ∷ []; many = refl; rising = (lit< tt, lit< tt); positive = le_z_yes tt; says = ((refl, refl), ((refl, refl), tt)); reduced = λ k h. eq-one_of_dvd-one (h.1 1 [] (lit< tt) 1 (pos 0) (lit< tt)) }

pivots : Pivots 2 wide_rows (1 ∷ 2 ∷ []) (0 ∷ 1 ∷ [])
unfolding start_form
pivots = (next_is 2 wide_rows (1 ∷ 2 ∷ []) start_form (Some (0 ∷ 1 ∷ []))).0 refl

wide_at_0 : WideAt 2 wide_rows (0 ∷ 1 ∷ []) 0
unfolding last_form
wide_at_0 = (wide_decided 2 wide_rows (0 ∷ 1 ∷ []) last_form 0).1 refl

none_less : (r : ℕ) → 0 ≤ r
none_less r = omega (arith)

pub from_a_wide_start : EndsWide 2 wide_rows (1 ∷ 2 ∷ []) (0 ∷ 1 ∷ []) 0
from_a_wide_start = record {
  bases = (1 ∷ 2 ∷ []) ∷ [];
  walk = record { before = []; last = 1 ∷ 2 ∷ []; bases_are = refl; begins = refl; follow = tt; ends = inr (0 ∷ 1 ∷ [], pivots, (0, wide_at_0)) };
  next = pivots;
  wide = wide_at_0;
  least = λ r w. none_less r;
}
