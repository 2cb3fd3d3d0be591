-- Membership as a sum, for proofs by recursion on a list, and the way from and to std's words.
--
--   In x xs                              x is the first member, or one of the rest
use Rattle.std.proofs.Common.{◌≡◌, List, [], ◌∷◌, ◌⊎◌}

abbrev pub In : {A : Type 0} → A → List A → Type 0
In x [] = ⊥
In x (y ∷ ys) = (x ≡ y) ⊎ In x ys
