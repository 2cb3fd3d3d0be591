-- Where a walk begins and what is read off where it ends.
--
--   slack_lines rows                the lines of all slacks: the rows themselves
--   Small x                       x is below 2^62 in size
--   point vars basis lines          the value of each variable, times d: its constant, 0 where it is free
--   NoEntry free line               no entry is positive
--   weight d out free line z        where nothing enters in the line of `out`: d for it, minus the entry of a free variable, 0 for others
--   mults vars w n                  the first n rows, each with the weight of its slack, but for those of weight 0
use Rattle.std.proofs.Common.{ℕ, zero, suc, ◌+◌, ◌<◌, ◌^◌, List, [], ◌∷◌, ◌++◌, map, ℤ, pos, neg_ℤ, ◌≤ℤ◌, unsigned_abs}
use Rattle.std.specs.Int.Signed.{lt_z}
use Rattle.std.specs.List.{range_with_len}
use Rattle.std.specs.Prelude.{nat_eq, if◌then◌else◌}
use Rattle.integer_laws.specs.Members.{In}
use Rattle.row_pivots.specs.Tables.{line_or, entry_of}
use Rattle.seq_model.specs.Walks.{constant, entries}
use Rattle.seq_model.specs.declared.row.Row.{Row}
use Rattle.seq_model.specs.declared.tree.Mult.{Mult}

abbrev pub slack_lines : List Row → List (List ℤ)
slack_lines rows = map (λ (row : Row). row.c ∷ row.a) rows

abbrev pub Small : ℤ → Type 0
Small x = unsigned_abs x < 2 ^ 62

abbrev pub point : ℕ → List ℕ → List (List ℤ) → List ℤ
point vars basis lines = map (λ z. constant (line_or z basis lines)) (range_with_len 0 vars)

abbrev pub weight : ℤ → ℕ → List ℕ → List ℤ → ℕ → ℤ
weight d out free line z = if nat_eq z out then d else neg_ℤ (entry_of z free (entries line))

abbrev pub one_mult : ℕ → ℤ → List Mult
one_mult r t = if lt_z (pos 0) t then record { row = r; times = t } ∷ [] else []

abbrev pub mults : ℕ → (ℕ → ℤ) → ℕ → List Mult
mults vars w zero = []
mults vars w (suc n) = mults vars w n ++ one_mult n (w (vars + n))

abbrev pub NoEntry : List ℕ → List ℤ → Type 0
NoEntry free line = (y : ℕ) → In y free → entry_of y free (entries line) ≤ℤ pos 0
