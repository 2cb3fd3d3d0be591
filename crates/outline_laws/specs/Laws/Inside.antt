-- Each point that the edges of a closed way see is within its corners: the fan at the lowest corner.
--
--   FanTurns s o v vs   along v and vs the way goes counterclockwise about o, with s to the right of no edge, and s isn't beyond the last
--   From o b cs         all steps of a chain but the lowest turn left, seen from o
--   from_bottom         those of a chain that rises and bends, seen from its bottom
--   fan_on, fan_low     so the chains make a fan
--   inside              and its points are within
use Rattle.std.proofs.Common.{◌≡◌, List, [], ◌∷◌, map, sym, arith, ℤ, pos, ◌≤ℤ◌, ◌<ℤ◌}
use Rattle.std.proofs.lemmas.Int.{ints}
use Rattle.integer_laws.specs.Laws.Ring.{expand}
use Rattle.seq_model.specs.declared.printer.Spot.{Spot}
use Rattle.seq_model.specs.Outlines.{Within}
use Rattle.outline_laws.specs.Corners.{turn}
use Rattle.seq_model.specs.Points.{at_spot}
use Rattle.outline_laws.specs.Laws.Vectors.{less, cross, corner, height, rises, turn_on, turn_apart, turn_start, strictly_between}
use Rattle.outline_laws.specs.Laws.Wachspress.{from}
use Rattle.outline_laws.specs.Laws.Fan.{Fan, fan, mean_of}
use Rattle.outline_laws.specs.Laws.Polygons.{last_of, next_of, Steps}
use Rattle.outline_laws.specs.Laws.ChainLaws.{StepsUp, StepsRise, Bends, LeftOf, bottom, bottom_below}
use Rattle.outline_laws.specs.Laws.Closing.{rest_of}

abbrev pub FanTurns : Spot → Spot → Spot → List Spot → Type 0
FanTurns s o v [] = turn o v s ≤ℤ pos 0
FanTurns s o v (w ∷ vs) = (pos 0 ≤ℤ turn v w s) × (pos 0 <ℤ turn o v w) × FanTurns s o w vs

abbrev pub FanAfter : Spot → Spot → List Spot → Type 0
FanAfter s o [] = ⊥
FanAfter s o (v ∷ vs) = FanTurns s o v vs

pub fan_on : (s o b : Spot) (cs acc : List Spot) → LeftOf s b cs → StepsUp (λ a b. pos 0 <ℤ turn o a b) b cs → FanTurns s o b acc → FanTurns s o (bottom b cs) (rest_of b cs acc)
fan_on s o b [] acc l h f = f
fan_on s o b (a ∷ cs) acc l h f = fan_on s o a cs (b ∷ acc) l.1 h.1 (l.0, h.0, f)

-- all steps of a chain but the lowest turn left, seen from o
abbrev pub From : Spot → Spot → List Spot → Type 0
From o b [] = Unit {0}
From o b (a ∷ []) = Unit {0}
From o b (a ∷ z ∷ cs) = (pos 0 <ℤ turn o a b) × From o a (z ∷ cs)

pub fan_low : (s o b a : Spot) (cs acc : List Spot) → LeftOf s b (a ∷ cs) → From o b (a ∷ cs) → FanTurns s o b acc → FanAfter s o (rest_of b (a ∷ cs) acc)
fan_low s o b a [] acc l h f = f
fan_low s o b a (z ∷ cs) acc l h f = fan_low s o a z cs (b ∷ acc) l.1 h.1 (l.0, h.0, f)

next_from : (hx hy : ℤ) (o z a b : Spot) → height hx hy o ≤ℤ height hx hy z → height hx hy z <ℤ height hx hy a → height hx hy a <ℤ height hx hy b → pos 0 <ℤ turn o z a → pos 0 <ℤ turn z a b → pos 0 <ℤ turn o a b
next_from hx hy o z a b p q r h k =
    rw (turn_on o a b)
    (strictly_between hx hy (less a o) (less a z) (less b a) (rises hx hy z a q) (weak _ (rises hx hy o a (omega (arith, ints)))) (rises hx hy a b r) (rw (sym (turn_apart o z a)) h) (rw (sym (turn_on z a b)) (weak _ k)))
  where
    weak : (n : ℤ) → pos 0 <ℤ n → pos 0 ≤ℤ n
    weak n h = omega (arith, ints)

pub from_bottom : (hx hy : ℤ) (b a : Spot) (cs : List Spot) → StepsRise hx hy b (a ∷ cs) → Bends b (a ∷ cs) → From (bottom a cs) b (a ∷ cs)
from_bottom hx hy b a [] r h = tt
from_bottom hx hy b a (z ∷ []) r h = (h.0, tt)
from_bottom hx hy b a (z ∷ y ∷ cs) r h =
    let f = from_bottom hx hy a z (y ∷ cs) r.1 h.1 in
    (next_from hx hy (bottom y cs) z a b (bottom_below hx hy z (y ∷ cs) r.1.1) r.1.0 r.0 f.0 h.0, f)

-- ---- to the point itself
cross_spot : (s a b : Spot) → cross (from (at_spot s) a) (from (at_spot s) b) ≡ turn a b s
cross_spot s a b = simp expand (omega (arith, ints))

corner_spot : (s a b c : Spot) → corner (from (at_spot s) a) (from (at_spot s) b) (from (at_spot s) c) ≡ turn a b c
corner_spot s a b c = simp expand (omega (arith, ints))

fan_of : (s o v : Spot) (vs : List Spot) → FanTurns s o v vs → Fan (from (at_spot s) o) (from (at_spot s) v) (map (from (at_spot s)) vs)
fan_of s o v [] f = rw (cross_spot s o v) f
fan_of s o v (w ∷ vs) f = (rw (cross_spot s v w) f.0, rw (corner_spot s o v w) f.1, fan_of s o w vs f.2)

pub inside : (s o : Spot) (D : List Spot) → FanAfter s o D → Steps (λ a b. pos 0 ≤ℤ turn a b s) o D → pos 0 <ℤ turn (last_of o D) o (next_of D o) → Within (o ∷ D) (at_spot s)
inside s o [] f h k = absurd f
inside s o (v ∷ []) f h k = let e = turn_start v o in absurd (omega (arith, ints))
inside s o (v ∷ w ∷ vs) f h k =
    let q = at_spot s in
    mean_of q (record { positive = omega (arith, ints) }) o (v ∷ w ∷ vs) (fan (from q o) (from q v) (from q w) (map (from q) vs) (rw (cross_spot s o v) h.0) (fan_of s o v (w ∷ vs) f))
