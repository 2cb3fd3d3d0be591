-- What the searches behind `add` and `complete` find. Each of 16 objects has a next object or none, and a set `before`
-- of those that are ordered before it.
--
--   IsNext next a b                     b is the next object of a
--   IsNextBelow n next                  each next object is below n
--   IsWalk next start way               from start over each one's next object to one that has none, each once
--   ComesRound next objects             each once, each one's next one follows it in the list, and the last one's is the first
--   Follows next start trail            the trail is the walk from start, or goes round
--
--   IsKnown next goal a                 a is the goal, or has a next object
--   AllKnown before next goal           what is ordered before a known object is known
--   LeadsOn before goal next            next objects are ordered after, known, and nearer to the goal by some rank
--
--   IsFree before left k                k is left to be placed, and nothing that is left is ordered before it
--   NoneFree before left                before each object that is left another one is ordered
--   LeadsBack before left next          for each object that is left the next one is left and ordered before it
use Rattle.std.specs.Prelude.{◌≡◌, ◌≢◌, ℕ, ◌<◌, List, [], ◌∷◌, ◌++◌, slice_index, slice_index_or, Option, Some, None, IsSome}
use Rattle.object_orders.specs.Orders.{IsOnce, EachNext}
use Rattle.order_graph.specs.Sets.{HasMember, HasBefore}
use Rattle.order_graph.specs.declared.walk.Trail.{Trail}
use Rattle.order_graph.specs.declared.walk.Trail.TheVariants as Trails

abbrev pub IsNext : List (Option ℕ) → ℕ → ℕ → Type 0
IsNext next a b = slice_index_or next a None ≡ Some b

abbrev pub IsNextBelow : ℕ → List (Option ℕ) → Type 0
IsNextBelow n next = (a b : ℕ) → IsNext next a b → b < n

pub record IsWalk (next : List (Option ℕ)) (start : ℕ) (way : List ℕ) : Type 0 where
  pub front : List ℕ
  pub last : ℕ
  pub whole : way ≡ front ++ last ∷ []
  pub once : IsOnce way
  pub starts : slice_index way 0 ≡ start
  pub steps : EachNext (IsNext next) way
  pub ends : slice_index_or next last None ≡ None

pub record ComesRound (next : List (Option ℕ)) (objects : List ℕ) : Type 0 where
  pub first : ℕ
  pub rest : List ℕ
  pub whole : objects ≡ first ∷ rest
  pub once : IsOnce objects
  pub round : EachNext (IsNext next) (first ∷ rest ++ first ∷ [])

abbrev pub Follows : List (Option ℕ) → ℕ → Trail → Type 0
Follows next start (Trails.End way) = IsWalk next start way
Follows next start (Trails.Round objects) = ComesRound next objects

abbrev pub IsKnown : List (Option ℕ) → ℕ → ℕ → Type 0
IsKnown next goal a = a ≢ goal → IsSome (slice_index_or next a None)

abbrev pub AllKnown : List ℕ → List (Option ℕ) → ℕ → Type 0
AllKnown before next goal = (a b : ℕ) → HasBefore before a b → IsKnown next goal b → IsKnown next goal a

pub record LeadsOn (before : List ℕ) (goal : ℕ) (next : List (Option ℕ)) : Type 0 where
  pub rank : ℕ → ℕ
  pub stop : slice_index_or next goal None ≡ None
  pub order : (a b : ℕ) → IsNext next a b → HasBefore before a b
  pub known : (a b : ℕ) → IsNext next a b → IsKnown next goal b
  pub nearer : (a b : ℕ) → IsNext next a b → rank b < rank a

pub record IsFree (before : List ℕ) (left k : ℕ) : Type 0 where
  pub left_over : HasMember left k
  pub first : (a : ℕ) → HasBefore before a k → HasMember left a → ⊥

abbrev pub NoneFree : List ℕ → ℕ → Type 0
NoneFree before left = (k : ℕ) → HasMember left k → (a : ℕ) × HasBefore before a k × HasMember left a

pub record LeadsBack (before : List ℕ) (left : ℕ) (next : List (Option ℕ)) : Type 0 where
  pub step : (b a : ℕ) → IsNext next b a → HasBefore before a b × HasMember left a
  pub some : (b : ℕ) → HasMember left b → IsSome (slice_index_or next b None)
