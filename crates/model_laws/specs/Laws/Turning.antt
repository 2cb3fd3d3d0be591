-- Corners by recursion on their list.
--
--   before_cases                   what is before has the lesser x, or the same x and the lesser y
--   before_from_cases              and back
--   least_by_list, left_by_list    corners of a convex outline start with the least and turn left, by their list
--   corners_by_list                and what does both is the corners of one
--   by_the_list                    both ways
use Rattle.std.proofs.Common.{◌≡◌, ℕ, zero, suc, ◌<◌, ◌≤◌, List, [], ◌∷◌, length, arith, ℤ, pos, ◌≤ℤ◌, ◌<ℤ◌, ◌⊎◌, inl, inr}
use Rattle.std.specs.Prelude.{◌↔◌}
use Rattle.std.proofs.lemmas.Int.{ints, by_lt_z}
use Rattle.std.proofs.lemmas.List.Elements.{All-get_or, All-from_get_or}
use Rattle.seq_model.specs.Corners.{turn, IsBefore, no_spot, corner_at, AreCorners}
use Rattle.seq_model.specs.declared.printer.Spot.{Spot}
use Rattle.model_laws.specs.Turning.{StartsLeast, LeftAbout, TurnsLeft}

-- ---- before
pub before_cases : (a b : Spot) → IsBefore a b → (a.x <ℤ b.x) ⊎ ((a.x ≡ b.x) × (a.y <ℤ b.y))
before_cases a b h = by_lt_z a.x b.x (λ k. inl k) (λ k. level (omega (arith, ints, h.0, k)))
  where
    level : a.x ≡ b.x → (a.x <ℤ b.x) ⊎ ((a.x ≡ b.x) × (a.y <ℤ b.y))
    level e = inr (e, h.1 e)

pub before_from_cases : (a b : Spot) → (a.x <ℤ b.x) ⊎ ((a.x ≡ b.x) × (a.y <ℤ b.y)) → IsBefore a b
before_from_cases a b (inl h) = (omega (arith, ints), λ e. absurd (never a.x b.x h e))
  where
    never : (x y : ℤ) → x <ℤ y → x ≡ y → ⊥
    never x y h e = omega (arith, ints)
before_from_cases a b (inr h) = (at_most a.x b.x h.0, λ e. h.1)
  where
    at_most : (x y : ℤ) → x ≡ y → x ≤ℤ y
    at_most x y e = omega (arith, ints)

-- ---- by the list
pub least_by_list : (C : List Spot) → AreCorners C → StartsLeast C
least_by_list [] are = tt
least_by_list (c ∷ cs) are = All-from_get_or (IsBefore c) cs no_spot (λ k h. are.least (suc k) (omega arith) (omega arith))

about : (a : Spot) (C : List Spot) → ((j k : ℕ) → j < k → k < length C → pos 0 <ℤ turn a (corner_at C j) (corner_at C k)) → LeftAbout a C
about a [] left = tt
about a (b ∷ cs) left = (
  All-from_get_or (λ c. pos 0 <ℤ turn a b c) cs no_spot (λ k h. left 0 (suc k) (omega arith) (omega arith)),
  about a cs (λ j k h l. left (suc j) (suc k) (omega arith) (omega arith)),
)

turning : (C : List Spot) → ((i j k : ℕ) → i < j → j < k → k < length C → pos 0 <ℤ turn (corner_at C i) (corner_at C j) (corner_at C k)) → TurnsLeft C
turning [] left = tt
turning (a ∷ bs) left = (
  about a bs (λ j k h l. left 0 (suc j) (suc k) (omega arith) (omega arith) (omega arith)),
  turning bs (λ i j k h l m. left (suc i) (suc j) (suc k) (omega arith) (omega arith) (omega arith)),
)

pub left_by_list : (C : List Spot) → AreCorners C → TurnsLeft C
left_by_list C are = turning C are.left

-- ---- by the numbers
least_at : (C : List Spot) → StartsLeast C → (k : ℕ) → 1 ≤ k → k < length C → IsBefore (corner_at C 0) (corner_at C k)
least_at [] s k h l = absurd (omega arith)
least_at (c ∷ cs) s zero h l = absurd (omega arith)
least_at (c ∷ cs) s (suc k) h l = All-get_or (IsBefore c) cs k no_spot (omega arith) s

about_at : (a : Spot) (C : List Spot) → LeftAbout a C → (j k : ℕ) → j < k → k < length C → pos 0 <ℤ turn a (corner_at C j) (corner_at C k)
about_at a [] left j k h l = absurd (omega arith)
about_at a (b ∷ cs) left j zero h l = absurd (omega arith)
about_at a (b ∷ cs) left zero (suc k) h l = All-get_or (λ c. pos 0 <ℤ turn a b c) cs k no_spot (omega arith) left.0
about_at a (b ∷ cs) left (suc j) (suc k) h l = about_at a cs left.1 j k (omega arith) (omega arith)

left_at : (C : List Spot) → TurnsLeft C → (i j k : ℕ) → i < j → j < k → k < length C → pos 0 <ℤ turn (corner_at C i) (corner_at C j) (corner_at C k)
left_at [] left i j k g h l = absurd (omega arith)
left_at (a ∷ bs) left i zero k g h l = absurd (omega arith)
left_at (a ∷ bs) left i (suc j) zero g h l = absurd (omega arith)
left_at (a ∷ bs) left zero (suc j) (suc k) g h l = about_at a bs left.0 j k (omega arith) (omega arith)
left_at (a ∷ bs) left (suc i) (suc j) (suc k) g h l = left_at bs left.1 i j k (omega arith) (omega arith) (omega arith)

pub corners_by_list : (C : List Spot) → StartsLeast C → TurnsLeft C → AreCorners C
corners_by_list C least left = record { least = least_at C least; left = left_at C left }

pub by_the_list : (C : List Spot) → AreCorners C ↔ (StartsLeast C × TurnsLeft C)
by_the_list C = (λ are. (least_by_list C are, left_by_list C are), λ both. corners_by_list C both.0 both.1)
