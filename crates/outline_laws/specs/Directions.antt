-- Directions by their angle, counterclockwise from (1, 0).
--
--   crossed d e             more than 0 where e lies to the left of d
--   IsDirection d           not (0, 0)
--   HaveSameAngle d e       both in one half of a turn, and on one line
--   IsShort d, IsShortOption d     components below 2^22 in size
--   upper d                 whether it points into the first half of a turn
--   lesser d e              whether d has the smaller angle
--   is_zero d               whether it is (0, 0)
--   is_after after d        whether d comes after the direction, or there is none
--   is_ahead d best         whether d comes before the best, or there is none
--   better after best d     d where it comes after `after` and before the best, else the best
--   first_after after best ds      the first of them after a direction
--   angle_cmp d e           by angle, and (0, 0) behind all
--   AllReduced ds dirs      the directions of ds, reduced, each once and by angle
--   After after d           d comes after the direction, or there is none
--   IsNext S after r        r is the first side of S after the direction; None where there is none
--   IsGoodAfter after       it isn't (0, 0)
--   IsReduced long short    the one is the other, reduced
use Rattle.std.specs.Prelude.{◌≡◌, ◌<◌, ◌^◌, List, [], ◌∷◌, ℤ, pos, ◌-ℤ◌, ◌*ℤ◌, ◌⊎◌, ◌↔◌, Bool, true, false, cond, ◌&&◌, ◌||◌, Option, Some, None, unsigned_abs, int_lt, Contains, AllPairs}
use Rattle.std.specs.declared.cmp.Ordering.{Ordering}
use Rattle.std.specs.Ordering.{int_eq, int_cmp, bool_cmp, ordering_then}
use Rattle.integer_laws.specs.Divisors.{Reduces}
use Rattle.seq_model.specs.Sides.{Side, IsUpper, HasLesserAngle}
use Rattle.seq_model.specs.declared.printer.Spot.{Spot}
use Rattle.seq_model.specs.declared.tree.Dir.{Dir}
use Rattle.outline_laws.specs.Edges.{Across}

abbrev pub crossed : Dir → Dir → ℤ
crossed d e = d.x *ℤ e.y -ℤ d.y *ℤ e.x

abbrev pub IsDirection : Dir → Type 0
IsDirection d = d.x ≡ pos 0 → d.y ≡ pos 0 → ⊥

abbrev pub HaveSameAngle : Dir → Dir → Type 0
HaveSameAngle d e = (IsUpper d ↔ IsUpper e) × (crossed d e ≡ pos 0)

abbrev pub IsShort : Dir → Type 0
IsShort d = (unsigned_abs d.x < 2 ^ 22) × (unsigned_abs d.y < 2 ^ 22)

abbrev pub IsShortOption : Option Dir → Type 0
IsShortOption None = Unit {0}
IsShortOption (Some d) = IsShort d

abbrev pub upper : Dir → Bool
upper d = int_lt (pos 0) d.y || (int_eq d.y (pos 0) && int_lt (pos 0) d.x)

abbrev pub lesser : Dir → Dir → Bool
lesser d e = cond (upper d) (cond (upper e) (int_lt (pos 0) (crossed d e)) true) (cond (upper e) false (int_lt (pos 0) (crossed d e)))

abbrev pub is_zero : Dir → Bool
is_zero d = int_eq d.x (pos 0) && int_eq d.y (pos 0)

abbrev pub is_after : Option Dir → Dir → Bool
is_after None d = true
is_after (Some after) d = lesser after d

abbrev pub is_ahead : Dir → Option Dir → Bool
is_ahead d None = true
is_ahead d (Some best) = lesser d best

abbrev pub better : Option Dir → Option Dir → Dir → Option Dir
better after best d = cond (is_zero d) best (cond (is_after after d) (cond (is_ahead d best) (Some d) best) best)

abbrev pub first_after : Option Dir → Option Dir → List Dir → Option Dir
first_after after best [] = best
first_after after best (d ∷ ds) = first_after after (better after best d) ds

abbrev pub angle_cmp : Dir → Dir → Ordering
angle_cmp d e = cond (is_zero d || is_zero e) (bool_cmp (is_zero d) (is_zero e)) (ordering_then (bool_cmp (upper e) (upper d)) (int_cmp (d.y *ℤ e.x) (d.x *ℤ e.y)))

pub record AllReduced (ds dirs : List Dir) : Type 0 where
  pub each : (dir : Dir) → Contains dirs dir ↔ Across ds dir
  pub order : AllPairs HasLesserAngle dirs

abbrev pub After : Option Dir → Dir → Type 0
After None d = Unit {0}
After (Some after) d = HasLesserAngle after d

abbrev pub IsNext : List Spot → Option Dir → Option Dir → Type 0
IsNext S after None = (dir : Dir) → Side S dir → After after dir → ⊥
IsNext S after (Some d) = Side S d × After after d × ((dir : Dir) → Side S dir → After after dir → (dir ≡ d) ⊎ HasLesserAngle d dir)

abbrev pub IsGoodAfter : Option Dir → Type 0
IsGoodAfter None = Unit {0}
IsGoodAfter (Some a) = IsDirection a

abbrev pub IsReduced : Option Dir → Option Dir → Type 0
IsReduced None None = Unit {0}
IsReduced None (Some d) = ⊥
IsReduced (Some l) None = ⊥
IsReduced (Some l) (Some d) = Reduces l.x l.y d.x d.y
