-- The least and the greatest of a list of numbers, and of a function over a list.
--
--   least xs             the least member, 0 of no member
--   greatest xs          the greatest member, 0 of no member
--   IsGreatest f xs g    each member's value is at most g, and a member reaches it
use Rattle.std.proofs.Common.{◌≡◌, List, [], ◌∷◌, fold, ℤ, pos, ◌≤ℤ◌}
use Rattle.std.specs.Int.{int_min, int_max}
use Rattle.integer_laws.specs.Members.{In}

abbrev pub least : List ℤ → ℤ
least [] = pos 0
least (x ∷ xs) = fold int_min x xs

abbrev pub greatest : List ℤ → ℤ
greatest [] = pos 0
greatest (x ∷ xs) = fold int_max x xs

pub record IsGreatest {A : Type 0} (f : A → ℤ) (xs : List A) (g : ℤ) : Type 0 where
  pub bound : (x : A) → In x xs → f x ≤ℤ g
  pub at : A
  pub member : In at xs
  pub reached : f at ≡ g
