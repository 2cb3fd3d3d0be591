-- Where one row with one variable is wide: by an entry, by its constant, and by the denominator alone.
use Rattle.std.proofs.Common.{[], ◌∷◌, refl, sym, subst, pos, negsuc, lit<}
use Rattle.std.proofs.Math.Nat.{eq-one_of_dvd-one}
use Rattle.std.specs.Prelude.{neg_ℤ}
use lib.Dec.{T}
use lib.Signed.{le_z_yes}
use Rattle.examples_model.specs.Solving.{edge, below_edge, row_of}
use Rattle.row_laws.specs.Laws.Wide.{wide_decided}
use Rattle.seq_model.specs.Dictionaries.{Form, WideAt}

-- where the slack is basic, its line is the row
entry_form : Form 1 (row_of (negsuc 0) edge) (1 ∷ [])
entry_form = record { d = pos 1; lines = (negsuc 0 ∷ edge ∷ []) ∷ []; many = refl; rising = lit< tt; positive = le_z_yes tt; says = ((refl, refl), tt); reduced = λ k h. eq-one_of_dvd-one h.0 }

low_entry_form : Form 1 (row_of (negsuc 0) below_edge) (1 ∷ [])
low_entry_form = record { d = pos 1; lines = (negsuc 0 ∷ below_edge ∷ []) ∷ []; many = refl; rising = lit< tt; positive = le_z_yes tt; says = ((refl, refl), tt); reduced = λ k h. eq-one_of_dvd-one h.0 }

sized_form : Form 1 (row_of (negsuc 0) (neg_ℤ edge)) (1 ∷ [])
sized_form = record { d = pos 1; lines = (negsuc 0 ∷ neg_ℤ edge ∷ []) ∷ []; many = refl; rising = lit< tt; positive = le_z_yes tt; says = ((refl, refl), tt); reduced = λ k h. eq-one_of_dvd-one h.0 }

constant_form : Form 1 (row_of (neg_ℤ edge) (pos 1)) (1 ∷ [])
constant_form = record { d = pos 1; lines = (neg_ℤ edge ∷ pos 1 ∷ []) ∷ []; many = refl; rising = lit< tt; positive = le_z_yes tt; says = ((refl, refl), tt); reduced = λ k h. eq-one_of_dvd-one h.0 }

low_constant_form : Form 1 (row_of (neg_ℤ below_edge) (pos 1)) (1 ∷ [])
low_constant_form = record { d = pos 1; lines = (neg_ℤ below_edge ∷ pos 1 ∷ []) ∷ []; many = refl; rising = lit< tt; positive = le_z_yes tt; says = ((refl, refl), tt); reduced = λ k h. eq-one_of_dvd-one h.0 }

-- where u is basic, the coefficient times u is 1 plus the slack
denominator_form : Form 1 (row_of (negsuc 0) edge) (0 ∷ [])
denominator_form = record { d = edge; lines = (pos 1 ∷ pos 1 ∷ []) ∷ []; many = refl; rising = lit< tt; positive = le_z_yes tt; says = ((refl, refl), tt); reduced = λ k h. eq-one_of_dvd-one (h.1 0 [] (lit< tt) 0 (pos 0) (lit< tt)) }

low_denominator_form : Form 1 (row_of (negsuc 0) below_edge) (0 ∷ [])
low_denominator_form = record { d = below_edge; lines = (pos 1 ∷ pos 1 ∷ []) ∷ []; many = refl; rising = lit< tt; positive = le_z_yes tt; says = ((refl, refl), tt); reduced = λ k h. eq-one_of_dvd-one (h.1 0 [] (lit< tt) 0 (pos 0) (lit< tt)) }

pub entry : WideAt 1 (row_of (negsuc 0) edge) (1 ∷ []) 1
unfolding entry_form
entry = (wide_decided 1 (row_of (negsuc 0) edge) (1 ∷ []) entry_form 1).1 refl

pub entry_below : WideAt 1 (row_of (negsuc 0) below_edge) (1 ∷ []) 1 → ⊥
unfolding low_entry_form
entry_below w = subst T (sym ((wide_decided 1 (row_of (negsuc 0) below_edge) (1 ∷ []) low_entry_form 1).0 w)) tt

pub entry_of_this_size : WideAt 1 (row_of (negsuc 0) (neg_ℤ edge)) (1 ∷ []) 1
unfolding sized_form
entry_of_this_size = (wide_decided 1 (row_of (negsuc 0) (neg_ℤ edge)) (1 ∷ []) sized_form 1).1 refl

pub constant : WideAt 1 (row_of (neg_ℤ edge) (pos 1)) (1 ∷ []) 1
unfolding constant_form
constant = (wide_decided 1 (row_of (neg_ℤ edge) (pos 1)) (1 ∷ []) constant_form 1).1 refl

pub constant_below : WideAt 1 (row_of (neg_ℤ below_edge) (pos 1)) (1 ∷ []) 1 → ⊥
unfolding low_constant_form
constant_below w = subst T (sym ((wide_decided 1 (row_of (neg_ℤ below_edge) (pos 1)) (1 ∷ []) low_constant_form 1).0 w)) tt

pub denominator : WideAt 1 (row_of (negsuc 0) edge) (0 ∷ []) 0
unfolding denominator_form
denominator = (wide_decided 1 (row_of (negsuc 0) edge) (0 ∷ []) denominator_form 0).1 refl

pub denominator_below : WideAt 1 (row_of (negsuc 0) below_edge) (0 ∷ []) 0 → ⊥
unfolding low_denominator_form
denominator_below w = subst T (sym ((wide_decided 1 (row_of (negsuc 0) below_edge) (0 ∷ []) low_denominator_form 0).0 w)) tt

pub of_no_line : WideAt 1 (row_of (negsuc 0) edge) (0 ∷ []) 1 → ⊥
unfolding denominator_form
of_no_line w = subst T (sym ((wide_decided 1 (row_of (negsuc 0) edge) (0 ∷ []) denominator_form 1).0 w)) tt
