-- Orders as sets of objects, one for each object: those that are ordered before it. A set is a number of 16 bits.
--
--   HasMember set k                  bit k of the set is 1
--   HasBefore before a b             the set of b has a
--   AreBefore orders b set           the set has just what is ordered before b
--   AreNoted orders before           each object has the set of what is ordered before it
--   AreFormer held former            for each order its second object's set as it was before that order was held
use Rattle.std.specs.Prelude.{◌≡◌, ◌↔◌, ℕ, ◌<◌, List, length, slice_index_or, take}
use Rattle.std.specs.Int.{bit_at}
use Rattle.object_orders.specs.Orders.{IsOrdered}

abbrev pub HasMember : ℕ → ℕ → Type 0
HasMember set k = bit_at set k ≡ 1

abbrev pub HasBefore : List ℕ → ℕ → ℕ → Type 0
HasBefore before a b = HasMember (slice_index_or before b 0) a

abbrev pub AreBefore : List (ℕ × ℕ) → ℕ → ℕ → Type 0
AreBefore orders b set = (a : ℕ) → HasMember set a ↔ IsOrdered orders a b

abbrev pub AreNoted : List (ℕ × ℕ) → List ℕ → Type 0
AreNoted orders before = (b : ℕ) → AreBefore orders b (slice_index_or before b 0)

abbrev pub AreFormer : List (ℕ × ℕ) → List ℕ → Type 0
AreFormer held former =
    (k : ℕ) → k < length held → AreBefore (take k held) (slice_index_or held k (0, 0)).1 (slice_index_or former k 0)
