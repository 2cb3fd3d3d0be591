-- The gap of a contact's two places, and the sides of its difference.
--
--   outlines_of, area_of_contact   the difference of a contact is of three outlines, and has area
--   gap_is_inner            a contact collides at a point just where the gap is inner to its difference
--   beyond_is_clear         so it doesn't where the gap is beyond a side
--   some_beyond, listed_beyond     and a point that isn't inner is beyond one of the sides
use Rattle.std.proofs.Common.{◌≡◌, ◌<◌, ◌^◌, All, Contains, ℕ, ◌≤◌, List, [], ◌∷◌, length, refl, subst, arith, ℤ, pos, ◌+ℤ◌, ◌-ℤ◌, ◌*ℤ◌, ◌≤ℤ◌, ◌<ℤ◌, ◌↔◌, ◌⊎◌, inl, inr}
use Rattle.std.proofs.lemmas.Int.{ints, by_lt_z}
use Rattle.std.proofs.lemmas.List.Elements.{All-get_or, All-weaker}
use Rattle.outline_laws.specs.Corners.{HasArea, IsNarrow}
use Rattle.outline_laws.specs.Outlines.{AreOutlines}
use Rattle.outline_laws.specs.Laws.Differences.{area_of_difference}
use Rattle.integer_laws.specs.Members.{In}
use Rattle.integer_laws.specs.Laws.Members.{In-from_contains, Contains-from_in}
use Rattle.integer_laws.specs.Laws.Ring.{expand}
use Rattle.model_laws.specs.Laws.SamePoints.{mean_of_same, minus_is_point}
use Rattle.model_laws.specs.Laws.Turning.{left_by_list}
use Rattle.outline_laws.specs.Laws.Edges.{area_of_turns}
use Rattle.outline_laws.specs.Laws.Sides.{inner_of_free, free_of_inner}
use Rattle.model_laws.specs.Laws.Collisions.{sound_zone}
use Rattle.search_laws.specs.Laws.Places.{contact_is_inner}
use Rattle.plan_laws.specs.Gaps.{gap_at}
use Rattle.seq_model.specs.Bounds.{IsNearSpot}
use Rattle.seq_model.specs.Contacts.{difference, points_of, IsContact}
use Rattle.seq_model.specs.Jobs.{no_part, zone_at, part_at}
use Rattle.seq_model.specs.Outlines.{Inner}
use Rattle.seq_model.specs.Parts.{IsSoundPart}
use Rattle.seq_model.specs.Points.{Point, IsPoint, minus}
use Rattle.seq_model.specs.Sides.{greatest_along, Side, AreSides, Beyond}
use Rattle.seq_model.specs.Splits.{Values, ContactCollidesAt}
use Rattle.seq_model.specs.Systems.{place_of}
use Rattle.seq_model.specs.declared.job.Job.{Job}
use Rattle.seq_model.specs.declared.printer.Spot.{Spot}
use Rattle.seq_model.specs.declared.tree.Contact.{Contact}
use Rattle.seq_model.specs.declared.tree.Dir.{Dir}

pub outlines_of : (job : Job) (c : Contact) → IsContact job c → AreOutlines (zone_at job c.i c.zi).corners (zone_at job c.j c.zj).corners (part_at job c.part).corners
outlines_of job c is =
    let earlier = sound_zone job c.i c.zi is.i_in is.zi_in in
    let later = sound_zone job c.j c.zj is.j_in is.zj_in in
    let part = All-get_or IsSoundPart job.printer.parts c.part no_part is.part_in job.printer.parts_are.sound in
    record {
      a = earlier.corners;
      b = later.corners;
      f = part.corners;
      a_area = earlier.area;
      b_area = later.area;
      f_some = part.some;
      a_near = narrow 1_001_000 (zone_at job c.i c.zi).corners (omega arith) earlier.near;
      b_near = narrow 1_001_000 (zone_at job c.j c.zj).corners (omega arith) later.near;
      f_near = narrow 100_000 (part_at job c.part).corners (omega arith) part.near;
    }
  where
    narrow : (n : ℕ) (S : List Spot) → n < 2 ^ 21 → All (IsNearSpot n) S → All IsNarrow S
    narrow n S h all = All-weaker (IsNearSpot n) IsNarrow (λ s near. (omega (arith, near.x, h), omega (arith, near.y, h))) S all

area : (A B F : List Spot) → AreOutlines A B F → 3 ≤ length A → HasArea (difference A B F)
area [] B F o h = absurd (omega (arith, h))
area (a ∷ []) B F o h = absurd (omega (arith, h))
area (a ∷ b ∷ []) B F o h = absurd (omega (arith, h))
area (a ∷ b ∷ c ∷ cs) [] F o h = absurd (omega (arith, o.b_area))
area (a ∷ b ∷ c ∷ cs) (d ∷ B) [] o h = absurd (omega (arith, o.f_some))
area (a ∷ b ∷ c ∷ cs) (d ∷ B) (f ∷ F) o h = area_of_difference (a ∷ b ∷ c ∷ cs) (d ∷ B) (f ∷ F) d f (area_of_turns a b c cs (left_by_list (a ∷ b ∷ c ∷ cs) o.a)) (inl refl) (inl refl)

pub area_of_contact : (job : Job) (c : Contact) → IsContact job c → HasArea (points_of job c)
area_of_contact job c is =
    area (zone_at job c.i c.zi).corners (zone_at job c.j c.zj).corners (part_at job c.part).corners (outlines_of job c is) (sound_zone job c.i c.zi is.i_in is.zi_in).area

-- ---- the gap, over the point's denominator or over its square
to_gap : (l e d : ℤ) → (l *ℤ d -ℤ e *ℤ d) *ℤ d ≡ (l -ℤ e) *ℤ (d *ℤ d)
to_gap l e d = simp expand (omega (arith, ints))

from_gap : (l e d : ℤ) → (l -ℤ e) *ℤ (d *ℤ d) ≡ (l *ℤ d -ℤ e *ℤ d) *ℤ d
from_gap l e d = simp expand (omega (arith, ints))

pub gap_is_inner : (job : Job) (e : ℕ) (at : Values) (c : Contact) → pos 1 ≤ℤ at.d → ContactCollidesAt job e at c ↔ (IsContact job c × Inner (points_of job c) (gap_at job e at.d at.u c))
gap_is_inner job e at c one =
    let law = contact_is_inner job e at c one in
    let i = place_of job e at.d at.u c.i in
    let j = place_of job e at.d at.u c.j in
    let gap = gap_at job e at.d at.u c in
    let is_gap : IsPoint gap = record { positive = one } in
    let is_less : IsPoint (minus j i) = minus_is_point j i (record { positive = one }) (record { positive = one }) in (
      λ k. (let r = law.0 k in (r.0, mean_of_same (pos 1) (points_of job c) (minus j i) gap is_gap (record { x = to_gap j.x i.x at.d; y = to_gap j.y i.y at.d }) r.1)),
      λ r. law.1 (r.0, mean_of_same (pos 1) (points_of job c) gap (minus j i) is_less (record { x = from_gap j.x i.x at.d; y = from_gap j.y i.y at.d }) r.1),
    )

pub beyond_is_clear : (job : Job) (e : ℕ) (at : Values) (c : Contact) (dir : Dir) → pos 1 ≤ℤ at.d → Side (points_of job c) dir → Beyond (points_of job c) dir (gap_at job e at.d at.u c) → ContactCollidesAt job e at c → ⊥
beyond_is_clear job e at c dir one side beyond k = free_of_inner (points_of job c) (gap_at job e at.d at.u c) (area_of_contact job c k.is) ((gap_is_inner job e at c one).0 k).1 dir side beyond

-- ---- one of the sides
abbrev Found : List Spot → Point → List Dir → Type 0
Found S q ds = (dir : Dir) × In dir ds × Beyond S dir q

search_sides : (S : List Spot) (q : Point) (ds : List Dir) → Found S q ds ⊎ ((dir : Dir) → In dir ds → Beyond S dir q → ⊥)
search_sides S q [] = inr (λ dir i b. i)
search_sides S q (d ∷ ds) =
    by_lt_z (d.x *ℤ q.x +ℤ d.y *ℤ q.y) (greatest_along d S *ℤ q.d) (λ less. later less (search_sides S q ds)) (λ most. inl (d, inl refl, most))
  where
    never : {a b : ℤ} → a <ℤ b → b ≤ℤ a → ⊥
    never h k = absurd (omega (arith, ints))

    none : (d.x *ℤ q.x +ℤ d.y *ℤ q.y) <ℤ (greatest_along d S *ℤ q.d) → ((dir : Dir) → In dir ds → Beyond S dir q → ⊥) → (dir : Dir) → In dir (d ∷ ds) → Beyond S dir q → ⊥
    none less rest dir (inl e) b = never less (subst (λ t. Beyond S t q) e b)
    none less rest dir (inr i) b = rest dir i b

    later : (d.x *ℤ q.x +ℤ d.y *ℤ q.y) <ℤ (greatest_along d S *ℤ q.d) → Found S q ds ⊎ ((dir : Dir) → In dir ds → Beyond S dir q → ⊥) → Found S q (d ∷ ds) ⊎ ((dir : Dir) → In dir (d ∷ ds) → Beyond S dir q → ⊥)
    later less (inl f) = inl (f.0, inr f.1, f.2)
    later less (inr rest) = inr (none less rest)

pub some_beyond : (S : List Spot) (dirs : List Dir) (q : Point) → HasArea S → IsPoint q → AreSides S dirs → (Inner S q → ⊥) → Found S q dirs
some_beyond S dirs q has is sides not_inner = by (search_sides S q dirs)
  where
    by : Found S q dirs ⊎ ((dir : Dir) → In dir dirs → Beyond S dir q → ⊥) → Found S q dirs
    by (inl f) = f
    by (inr none) = absurd (not_inner (inner_of_free S q has is (λ dir side b. none dir (In-from_contains dirs dir ((sides.each dir).1 side)) b)))

pub listed_beyond : (job : Job) (c : Contact) (dirs : List Dir) (q : Point) → IsContact job c → AreSides (points_of job c) dirs → IsPoint q → (Inner (points_of job c) q → ⊥)
    → (dir : Dir) × Contains dirs dir × Beyond (points_of job c) dir q
listed_beyond job c dirs q is sides point free =
    let f = some_beyond (points_of job c) dirs q (area_of_contact job c is) point sides free in
    (f.0, Contains-from_in dirs f.0 f.1, f.2)
