-- A list that a loop rewrites in place, from the front.
--
--   rewritten i new old      the first i members of the new list, and the rest of the old one: what the loop has after i steps
use Rattle.std.proofs.Common.{ℕ, List, ◌++◌, take, drop}

abbrev pub rewritten : {A : Type 0} → ℕ → List A → List A → List A
rewritten i new old = take i new ++ drop i old
