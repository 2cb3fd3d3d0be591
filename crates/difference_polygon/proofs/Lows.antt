-- The low corner of a sound object is as near as the corners of its zones.
use Rattle.std.proofs.Common.{◌≡◌, ◌≤◌, ◌<◌, ◌^◌, List, [], ◌∷◌, length, map, sym, subst, arith, ℤ, unsigned_abs, All, Contains, ◌⊎◌, inl, inr, refl, fold}
use Rattle.std.proofs.lemmas.Int.{fold-int_min_reached}
use Rattle.std.proofs.lemmas.List.{length-append}
use Rattle.std.specs.Int.{int_min}
use Rattle.integer_laws.specs.Extremes.{least}
use Rattle.integer_laws.specs.Members.{In}
use Rattle.integer_laws.specs.Laws.Members.{All-in, In-append_cases, In-from_contains, In-map_cases}
use Rattle.seq_model.specs.Bounds.{IsNearSpot}
use Rattle.seq_model.specs.Soundness.{IsSoundObject, IsSoundZone, corners_of}
use Rattle.seq_model.specs.declared.job.Object.{Object}
use Rattle.seq_model.specs.declared.job.Zone.{Zone}
use Rattle.seq_model.specs.declared.printer.Spot.{Spot}
use Rattle.outline_laws.specs.Corners.{IsNarrow}

near_corners : (zones : List Zone) → ((z : Zone) → In z zones → IsSoundZone z) → (s : Spot) → In s (corners_of zones) → IsNarrow s
near_corners [] each s i = absurd i
near_corners (z ∷ zones) each s i = pick (In-append_cases z.corners (corners_of zones) s i) (λ j. near_corners zones (λ w k. each w (inr k)) s j)
  where
    pick : In s z.corners ⊎ In s (corners_of zones) → (In s (corners_of zones) → IsNarrow s) → IsNarrow s
    pick (inl j) rest = let n = All-in (IsNearSpot 1_001_000) z.corners s (each z (inl refl)).near j in let x = n.x in let y = n.y in (omega (arith, x), omega (arith, y))
    pick (inr j) rest = rest j

reaches : (f : Spot → ℤ) (x : Spot) (xs : List Spot) → (y : Spot) × In y (x ∷ xs) × (f y ≡ least (map f (x ∷ xs)))
reaches f x xs = by (fold-int_min_reached (f x) (map f xs) (fold int_min (f x) (map f xs)) refl)
  where
    by : (fold int_min (f x) (map f xs) ≡ f x) ⊎ Contains (map f xs) (fold int_min (f x) (map f xs)) → (y : Spot) × In y (x ∷ xs) × (f y ≡ least (map f (x ∷ xs)))
    by (inl e) = (x, inl refl, sym e)
    by (inr c) = let m = In-map_cases f xs _ (In-from_contains (map f xs) _ c) in (m.0, inr m.1, sym m.2)

narrow_least : (S : List Spot) → 1 ≤ length S → ((s : Spot) → In s S → IsNarrow s) → (unsigned_abs (least (map (λ s. s.x) S)) < 2 ^ 21) × (unsigned_abs (least (map (λ s. s.y) S)) < 2 ^ 21)
narrow_least [] some near = absurd (omega (arith, some))
narrow_least (c ∷ cs) some near =
    let x = reaches (λ s. s.x) c cs in
    let y = reaches (λ s. s.y) c cs in
    (subst (λ t. unsigned_abs t < 2 ^ 21) x.2 (near x.0 x.1).0, subst (λ t. unsigned_abs t < 2 ^ 21) y.2 (near y.0 y.1).1)

some_corner : (zones : List Zone) → 1 ≤ length zones → All IsSoundZone zones → 1 ≤ length (corners_of zones)
some_corner [] some each = absurd (omega (arith, some))
some_corner (z ∷ zones) some each =
    let area = (All-in IsSoundZone (z ∷ zones) z each (inl refl)).area in
    let both = length-append z.corners (corners_of zones) in
    omega (arith, area, both)

pub low_narrow : (o : Object) → IsSoundObject o → IsNarrow o.low
low_narrow o sound =
    let S = corners_of o.zones in
    let at = narrow_least S (some_corner o.zones sound.zones.some sound.zones.each) (near_corners o.zones (λ z i. All-in IsSoundZone o.zones z sound.zones.each i)) in
    (subst (λ t. unsigned_abs t < 2 ^ 21) (sym sound.extremes.west) at.0, subst (λ t. unsigned_abs t < 2 ^ 21) (sym sound.extremes.south) at.1)
