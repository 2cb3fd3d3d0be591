-- Which outlines of a list lie inside which, and that one contact's difference then lies inside the other's.
--
--   IsOutline C             corners, at least one, near 0
--   outline_at Cs z         outline z of a list
--   is_inside table z y     whether outline z is marked as lying in outline y
--   IsRowOf Cs z row        the marks of outline z: it is outreached by each outline that is marked
--   IsTableOf Cs table      the marks of all
--   corners_of_zones, corners_of_parts     the outlines of zones, of parts
--   AreTablesOf os tables   for each object the table of its zones
--   IsNested job nested     the tables of a job's objects and parts
--   marks nested c d        whether the zones and the part of contact c are marked as lying in those of d
--   covers_inside           then its difference is covered
use Rattle.std.proofs.Common.{◌≡◌, ℕ, ◌≤◌, ◌<◌, ◌^◌, List, [], length, get_or, map, sym, subst, arith, Bool, true, false, ◌&&◌, All}
use Rattle.std.proofs.lemmas.List.{length-map, get_or-map}
use Rattle.std.proofs.lemmas.List.Elements.{All-map, All-weaker}
use Rattle.std.proofs.lemmas.Bool.{and_parts}
use Rattle.outline_laws.specs.Corners.{AreCorners, IsNarrow}
use Rattle.outline_laws.specs.Outlines.{AreOutlines}
use Rattle.search_laws.specs.Covering.{Covers}
use Rattle.search_laws.specs.Laws.Gaps.{outlines_of}
use Rattle.seq_model.specs.Bounds.{IsNearSpot}
use Rattle.seq_model.specs.Contacts.{points_of, IsContact}
use Rattle.seq_model.specs.Jobs.{no_object, no_part, no_zone, part_at, zone_at, zones_of}
use Rattle.seq_model.specs.Parts.{IsSoundPart}
use Rattle.seq_model.specs.Soundness.{IsSoundZone}
use Rattle.seq_model.specs.declared.job.Job.{Job}
use Rattle.seq_model.specs.declared.job.Object.{Object}
use Rattle.seq_model.specs.declared.job.Zone.{Zone}
use Rattle.seq_model.specs.declared.printer.Part.{Part}
use Rattle.seq_model.specs.declared.printer.Spot.{Spot}
use Rattle.seq_model.specs.declared.tree.Contact.{Contact}
use Rattle.pair_constraints.specs.Laws.Numbered.{AreBy}
use Rattle.pair_constraints.specs.Laws.Reaching.{Outreaches, covers_of_reaches, difference_reaches}
use Rattle.pair_constraints.specs.declared.nesting.Nested.{Nested}

pub record IsOutline (C : List Spot) : Type 0 where
  pub corners : AreCorners C
  pub some : 1 ≤ length C
  pub near : All IsNarrow C

abbrev pub outline_at : List (List Spot) → ℕ → List Spot
outline_at outlines z = get_or outlines z []

abbrev pub is_inside : List (List Bool) → ℕ → ℕ → Bool
is_inside table z y = get_or (get_or table z []) y false

pub record IsRowOf (outlines : List (List Spot)) (z : ℕ) (row : List Bool) : Type 0 where
  pub many : length row ≡ length outlines
  pub each : AreBy (λ y marked. marked ≡ true → Outreaches (outline_at outlines y) (outline_at outlines z)) row

pub record IsTableOf (outlines : List (List Spot)) (table : List (List Bool)) : Type 0 where
  pub many : length table ≡ length outlines
  pub each : AreBy (IsRowOf outlines) table

abbrev pub corners_of_zones : List Zone → List (List Spot)
corners_of_zones zones = map (λ (z : Zone). z.corners) zones

abbrev pub corners_of_parts : List Part → List (List Spot)
corners_of_parts parts = map (λ (p : Part). p.corners) parts

pub record AreTablesOf (objects : List Object) (tables : List (List (List Bool))) : Type 0 where
  pub many : length tables ≡ length objects
  pub each : AreBy (λ i table. IsTableOf (corners_of_zones (get_or objects i no_object).zones) table) tables

pub record IsNested (job : Job) (nested : Nested) : Type 0 where
  pub zones : AreTablesOf job.objects nested.zones
  pub parts : IsTableOf (corners_of_parts job.printer.parts) nested.parts

-- ---- sound outlines
narrow : (n : ℕ) (S : List Spot) → n < 2 ^ 21 → All (IsNearSpot n) S → All IsNarrow S
narrow n S h all = All-weaker (IsNearSpot n) IsNarrow (λ s near. (omega (arith, near.x, h), omega (arith, near.y, h))) S all

pub outlines_are_zones : (zones : List Zone) → All IsSoundZone zones → All IsOutline (corners_of_zones zones)
outlines_are_zones zones all = All-map IsOutline (λ (z : Zone). z.corners) zones (All-weaker IsSoundZone (λ (z : Zone). IsOutline z.corners) is zones all)
  where
    is : (z : Zone) → IsSoundZone z → IsOutline z.corners
    is z sound = record { corners = sound.corners; some = omega (arith, sound.area); near = narrow 1_001_000 z.corners (omega arith) sound.near }

pub outlines_are_parts : (parts : List Part) → All IsSoundPart parts → All IsOutline (corners_of_parts parts)
outlines_are_parts parts all = All-map IsOutline (λ (p : Part). p.corners) parts (All-weaker IsSoundPart (λ (p : Part). IsOutline p.corners) is parts all)
  where
    is : (p : Part) → IsSoundPart p → IsOutline p.corners
    is p sound = record { corners = sound.corners; some = sound.some; near = narrow 100_000 p.corners (omega arith) sound.near }

-- ---- what is marked
marked_in : (outlines : List (List Spot)) (table : List (List Bool)) (z y : ℕ) → IsTableOf outlines table → z < length outlines → y < length outlines → is_inside table z y ≡ true
    → Outreaches (outline_at outlines y) (outline_at outlines z)
marked_in outlines table z y is lz ly e =
    let row = is.each z [] (subst (λ n. z < n) (sym is.many) lz) in
    row.each y false (subst (λ n. y < n) (sym row.many) ly) e

marked_zone : (job : Job) (nested : Nested) (i z y : ℕ) → IsNested job nested → i < length job.objects → z < length (zones_of job i) → y < length (zones_of job i)
    → is_inside (get_or nested.zones i []) z y ≡ true → Outreaches (zone_at job i y).corners (zone_at job i z).corners
marked_zone job nested i z y is li lz ly e =
    let zones = zones_of job i in
    let table = is.zones.each i [] (subst (λ n. i < n) (sym is.zones.many) li) in
    let many = length-map zones (λ (z : Zone). z.corners) in
    let out = marked_in (corners_of_zones zones) (get_or nested.zones i []) z y table (subst (λ n. z < n) (sym many) lz) (subst (λ n. y < n) (sym many) ly) e in
    subst (λ t. Outreaches t (zone_at job i z).corners) (get_or-map (λ (z : Zone). z.corners) zones y no_zone [] ly)
    (subst (λ t. Outreaches (outline_at (corners_of_zones zones) y) t) (get_or-map (λ (z : Zone). z.corners) zones z no_zone [] lz) out)

marked_part : (job : Job) (nested : Nested) (k l : ℕ) → IsNested job nested → k < length job.printer.parts → l < length job.printer.parts
    → is_inside nested.parts k l ≡ true → Outreaches (part_at job l).corners (part_at job k).corners
marked_part job nested k l is lk ll e =
    let parts = job.printer.parts in
    let many = length-map parts (λ (p : Part). p.corners) in
    let out = marked_in (corners_of_parts parts) nested.parts k l is.parts (subst (λ n. k < n) (sym many) lk) (subst (λ n. l < n) (sym many) ll) e in
    subst (λ t. Outreaches t (part_at job k).corners) (get_or-map (λ (p : Part). p.corners) parts l no_part [] ll)
    (subst (λ t. Outreaches (outline_at (corners_of_parts parts) l) t) (get_or-map (λ (p : Part). p.corners) parts k no_part [] lk) out)

abbrev pub marks : Nested → Contact → Contact → Bool
marks nested inner outer =
    is_inside nested.parts inner.part outer.part
    && (is_inside (get_or nested.zones inner.i []) inner.zi outer.zi && is_inside (get_or nested.zones inner.j []) inner.zj outer.zj)

pub covers_inside : (job : Job) (nested : Nested) (inner outer : Contact) → IsNested job nested → IsContact job inner → IsContact job outer → outer.i ≡ inner.i → outer.j ≡ inner.j
    → marks nested inner outer ≡ true → Covers (points_of job outer) (points_of job inner)
covers_inside job nested inner outer is ci co si sj e =
    covers_of_reaches (points_of job outer) (points_of job inner) (difference_reaches A B F C D E (some_a oi) (some_b oi) oi.f_some (some_a oo) (some_b oo) oo.f_some earlier later part)
  where
    by_part : (is_inside nested.parts inner.part outer.part ≡ true)
        × ((is_inside (get_or nested.zones inner.i []) inner.zi outer.zi && is_inside (get_or nested.zones inner.j []) inner.zj outer.zj) ≡ true)
    by_part = and_parts _ _ e

    by_zones : (is_inside (get_or nested.zones inner.i []) inner.zi outer.zi ≡ true) × (is_inside (get_or nested.zones inner.j []) inner.zj outer.zj ≡ true)
    by_zones = and_parts _ _ by_part.1

    A : List Spot
    A = (zone_at job inner.i inner.zi).corners

    B : List Spot
    B = (zone_at job inner.j inner.zj).corners

    F : List Spot
    F = (part_at job inner.part).corners

    C : List Spot
    C = (zone_at job outer.i outer.zi).corners

    D : List Spot
    D = (zone_at job outer.j outer.zj).corners

    E : List Spot
    E = (part_at job outer.part).corners

    oi : AreOutlines (zone_at job inner.i inner.zi).corners (zone_at job inner.j inner.zj).corners (part_at job inner.part).corners
    oi = outlines_of job inner ci

    oo : AreOutlines (zone_at job outer.i outer.zi).corners (zone_at job outer.j outer.zj).corners (part_at job outer.part).corners
    oo = outlines_of job outer co

    some_a : {X Y Z : List Spot} → AreOutlines X Y Z → 1 ≤ length X
    some_a o = omega (arith, o.a_area)

    some_b : {X Y Z : List Spot} → AreOutlines X Y Z → 1 ≤ length Y
    some_b o = omega (arith, o.b_area)

    earlier : Outreaches (zone_at job outer.i outer.zi).corners (zone_at job inner.i inner.zi).corners
    earlier =
        subst (λ i. Outreaches (zone_at job i outer.zi).corners (zone_at job inner.i inner.zi).corners) (sym si)
        (marked_zone job nested inner.i inner.zi outer.zi is ci.i_in ci.zi_in (subst (λ i. outer.zi < length (zones_of job i)) si co.zi_in) by_zones.0)

    later : Outreaches (zone_at job outer.j outer.zj).corners (zone_at job inner.j inner.zj).corners
    later =
        subst (λ j. Outreaches (zone_at job j outer.zj).corners (zone_at job inner.j inner.zj).corners) (sym sj)
        (marked_zone job nested inner.j inner.zj outer.zj is ci.j_in ci.zj_in (subst (λ j. outer.zj < length (zones_of job j)) sj co.zj_in) by_zones.1)

    part : Outreaches (part_at job outer.part).corners (part_at job inner.part).corners
    part = marked_part job nested inner.part outer.part is ci.part_in co.part_in by_part.0
