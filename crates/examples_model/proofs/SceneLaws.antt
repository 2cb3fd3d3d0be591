-- Walls and a brick that meet or are clear, and spots on the corners of a region.
use Rattle.std.proofs.Common.{◌≡◌, List, [], ◌∷◌, refl, sym, arith, ℤ, pos, negsuc, ◌+ℤ◌, ◌*ℤ◌, ◌≤ℤ◌, ◌<ℤ◌, inl, inr}
use Rattle.std.proofs.lemmas.Int.{ints}
use lib.Signed.{le_z_yes, lt_z_yes}
use Rattle.integer_laws.specs.Members.{In}
use Rattle.integer_laws.specs.Laws.Order.{cancel_lt, le_of_same, lt_from, add_lt_le, mul_lt}
use Rattle.integer_laws.specs.Laws.Ring.{expand}
use Rattle.integer_laws.specs.Weights.{weigh, total}
use Rattle.integer_laws.specs.Laws.Weights.{weigh_below, weigh-linear}
use Rattle.seq_model.specs.Outlines.{Inner}
use Rattle.seq_model.specs.Plates.{region_of}
use Rattle.seq_model.specs.Points.{Point, minus}
use Rattle.seq_model.specs.Scenes.{Overlap, LiesIn}
use Rattle.seq_model.specs.declared.printer.Spot.{Spot}
use Rattle.examples_model.specs.Cubes.{at, half, spot}
use Rattle.examples_model.specs.Plans.{halves}
use Rattle.examples_model.specs.Uneven.{walls, brick_zone, shoe_corners}
use Rattle.examples_model.proofs.Apart.{EachOf, member, west_of, east_of, no_sum}

south_of : (S : List Spot) (q : Point) (g : ℤ) (t : Spot) → Inner S q → EachOf (λ s. s.y ≤ℤ g) S → In t S → t.y <ℤ g → q.y <ℤ (g *ℤ q.d)
south_of S q g t m each i below =
    let w = weigh_below (λ (s : Spot). s.y) g S m.w t m.weights (member (λ s. s.y ≤ℤ g) S each) i below in
    let d : pos 0 <ℤ q.d = omega (arith, ints, m.point.positive) in
    let some : pos 0 <ℤ total S m.w = omega (arith, ints, m.some) in
    let times = mul_lt q.d {a = weigh (λ (s : Spot). s.y) S m.w} {b = g *ℤ total S m.w} d w in
    let less : (total S m.w *ℤ q.y) <ℤ (total S m.w *ℤ (g *ℤ q.d)) = lt_from (add_lt_le times (le_of_same (sym m.y))) (simp expand (omega (arith, ints))) in
    cancel_lt (total S m.w) some less

abbrev mirror : Spot → ℤ
mirror s = negsuc 0 *ℤ s.y +ℤ pos 0 *ℤ s.x

mirror_le : (s : Spot) (g : ℤ) → g ≤ℤ s.y → mirror s ≤ℤ (negsuc 0 *ℤ g)
mirror_le s g h = simp expand (omega (arith, ints))

mirror_lt : (s : Spot) (g : ℤ) → g <ℤ s.y → mirror s <ℤ (negsuc 0 *ℤ g)
mirror_lt s g h = simp expand (omega (arith, ints))

negated : (W X Y g T : ℤ) → W ≡ negsuc 0 *ℤ X +ℤ pos 0 *ℤ Y → W <ℤ ((negsuc 0 *ℤ g) *ℤ T) → (g *ℤ T) <ℤ X
negated W X Y g T e h =
    let same : (negsuc 0 *ℤ g) *ℤ T ≡ negsuc 0 *ℤ (g *ℤ T) = simp expand in
    let zero : pos 0 *ℤ Y ≡ pos 0 = simp expand in
    omega (arith, ints, e, h, same, zero)

north_of : (S : List Spot) (q : Point) (g : ℤ) (t : Spot) → Inner S q → EachOf (λ s. g ≤ℤ s.y) S → In t S → g <ℤ t.y → (g *ℤ q.d) <ℤ q.y
north_of S q g t m each i above =
    let w = weigh_below mirror (negsuc 0 *ℤ g) S m.w t m.weights (λ s j. mirror_le s g (member (λ r. g ≤ℤ r.y) S each s j)) i (mirror_lt t g above) in
    let linear : weigh mirror S m.w ≡ negsuc 0 *ℤ weigh (λ s. s.y) S m.w +ℤ pos 0 *ℤ weigh (λ s. s.x) S m.w = weigh-linear (negsuc 0) (pos 0) (λ (s : Spot). s.y) (λ (s : Spot). s.x) S m.w in
    let d : pos 0 <ℤ q.d = omega (arith, ints, m.point.positive) in
    let some : pos 0 <ℤ total S m.w = omega (arith, ints, m.some) in
    let plain : (g *ℤ total S m.w) <ℤ weigh (λ (s : Spot). s.y) S m.w = negated (weigh mirror S m.w) (weigh (λ s. s.y) S m.w) (weigh (λ s. s.x) S m.w) g (total S m.w) linear w in
    let times = mul_lt q.d {a = g *ℤ total S m.w} {b = weigh (λ s. s.y) S m.w} d plain in
    let less : (total S m.w *ℤ (g *ℤ q.d)) <ℤ (total S m.w *ℤ q.y) = lt_from (add_lt_le times (le_of_same m.y)) (simp expand (omega (arith, ints))) in
    cancel_lt (total S m.w) some less

weak : {a b : ℤ} → a <ℤ b → a ≤ℤ b
weak h = omega (arith, ints)

pub meet : Overlap walls.corners brick_zone.corners shoe_corners (at (pos 10) (pos 20)) (half (pos 57) (pos 65))
meet = record {
  point = record { x = pos 99; y = pos 115; d = pos 4 };
  is_point = record { positive = le_z_yes tt };
  is_place = record { positive = le_z_yes tt };
  of_later = record { x = negsuc 22; y = negsuc 6; d = pos 8 };
  of_part = record { x = negsuc 6; y = negsuc 22; d = pos 8 };
  earlier = record { point = record { positive = le_z_yes tt }; w = pos 1 ∷ pos 63 ∷ pos 2709 ∷ pos 43 ∷ []; weights = (le_z_yes tt, (le_z_yes tt, (le_z_yes tt, (le_z_yes tt, tt)))); some = le_z_yes tt; x = refl; y = refl };
  later = record { point = record { positive = le_z_yes tt }; w = pos 3081 ∷ pos 39 ∷ pos 1 ∷ pos 79 ∷ []; weights = (le_z_yes tt, (le_z_yes tt, (le_z_yes tt, (le_z_yes tt, tt)))); some = le_z_yes tt; x = refl; y = refl };
  moving = record { point = record { positive = le_z_yes tt }; w = pos 1833 ∷ pos 39 ∷ pos 1 ∷ pos 47 ∷ []; weights = (le_z_yes tt, (le_z_yes tt, (le_z_yes tt, (le_z_yes tt, tt)))); some = le_z_yes tt; x = refl; y = refl };
  sum = record { x = refl; y = refl };
}

pub east_clear : Overlap walls.corners brick_zone.corners shoe_corners (at (pos 10) (pos 20)) (at (pos 29) (pos 32)) → ⊥
east_clear o =
    let west = west_of walls.corners (minus o.point (at (pos 10) (pos 20))) (pos 15) (spot (negsuc 0) (negsuc 1)) o.earlier (le_z_yes tt, (le_z_yes tt, (le_z_yes tt, (le_z_yes tt, tt)))) (inl refl) (lt_z_yes tt) in
    let east = east_of brick_zone.corners o.of_later (negsuc 2) (spot (pos 7) (negsuc 0)) o.later (le_z_yes tt, (le_z_yes tt, (le_z_yes tt, (le_z_yes tt, tt)))) (inr (inl refl)) (lt_z_yes tt) in
    let least = east_of shoe_corners o.of_part (negsuc 0) (spot (pos 5) (negsuc 2)) o.moving (le_z_yes tt, (le_z_yes tt, (le_z_yes tt, (le_z_yes tt, tt)))) (inr (inl refl)) (lt_z_yes tt) in
    let d = o.is_point.positive in
    let l = o.later.point.positive in
    let f = o.moving.point.positive in
    no_sum o.point.x o.point.d o.of_later.x o.of_later.d o.of_part.x o.of_part.d (pos 29) (pos 1) (pos 25) (negsuc 2) (negsuc 0) (omega (arith, ints, d)) (omega (arith, ints, l)) (omega (arith, ints, f)) (lt_z_yes tt)
    (lt_from west (simp expand (omega (arith, ints)))) east (weak least) (le_z_yes tt) o.sum.x

pub north_clear : Overlap walls.corners brick_zone.corners shoe_corners (at (pos 10) (pos 20)) (at (pos 28) (pos 33)) → ⊥
north_clear o =
    let west = south_of walls.corners (minus o.point (at (pos 10) (pos 20))) (pos 9) (spot (negsuc 0) (negsuc 1)) o.earlier (le_z_yes tt, (le_z_yes tt, (le_z_yes tt, (le_z_yes tt, tt)))) (inl refl) (lt_z_yes tt) in
    let east = north_of brick_zone.corners o.of_later (negsuc 0) (spot (pos 7) (pos 4)) o.later (le_z_yes tt, (le_z_yes tt, (le_z_yes tt, (le_z_yes tt, tt)))) (inr (inr (inl refl))) (lt_z_yes tt) in
    let least = north_of shoe_corners o.of_part (negsuc 2) (spot (pos 5) (pos 2)) o.moving (le_z_yes tt, (le_z_yes tt, (le_z_yes tt, (le_z_yes tt, tt)))) (inr (inr (inl refl))) (lt_z_yes tt) in
    let d = o.is_point.positive in
    let l = o.later.point.positive in
    let f = o.moving.point.positive in
    no_sum o.point.y o.point.d o.of_later.y o.of_later.d o.of_part.y o.of_part.d (pos 33) (pos 1) (pos 29) (negsuc 0) (negsuc 2) (omega (arith, ints, d)) (omega (arith, ints, l)) (omega (arith, ints, f)) (lt_z_yes tt)
    (lt_from west (simp expand (omega (arith, ints)))) east (weak least) (le_z_yes tt) o.sum.y

pub low_in : LiesIn (region_of (pos 100) (pos 60) 100 46) (pos 2) (halves 1 56 36) (spot (negsuc 0) (negsuc 1))
low_in = record { west = le_z_yes tt; east = le_z_yes tt; south = le_z_yes tt; north = le_z_yes tt }

pub high_in : LiesIn (region_of (pos 100) (pos 60) 100 46) (pos 2) (halves 0 132 78) (spot (pos 7) (pos 4))
high_in = record { west = le_z_yes tt; east = le_z_yes tt; south = le_z_yes tt; north = le_z_yes tt }

pub north_out : LiesIn (region_of (pos 100) (pos 60) 100 46) (pos 2) (halves 0 132 79) (spot (pos 7) (pos 4)) → ⊥
north_out l = (let h = l.north in absurd (omega (arith, ints, h)))

pub west_out : LiesIn (region_of (pos 100) (pos 60) 100 46) (pos 2) (halves 1 55 36) (spot (negsuc 0) (negsuc 1)) → ⊥
west_out l = (let h = l.west in absurd (omega (arith, ints, h)))

pub south_out : LiesIn (region_of (pos 100) (pos 60) 100 46) (pos 2) (halves 1 56 35) (spot (negsuc 0) (negsuc 1)) → ⊥
south_out l = (let h = l.south in absurd (omega (arith, ints, h)))

pub east_out : LiesIn (region_of (pos 100) (pos 60) 100 46) (pos 2) (halves 0 133 78) (spot (pos 7) (pos 4)) → ⊥
east_out l = (let h = l.east in absurd (omega (arith, ints, h)))
