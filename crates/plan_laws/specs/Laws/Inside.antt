-- The bounds of a system hold just where every spot lies in the region.
--
--   HasRoom job e d u o       object o's variables are at least 0, and under the bounds of its rows
--   inside_where_bounded      where the bounds hold, every spot lies in the region
--   bounded_where_inside      and where every spot does, the bounds hold
use Rattle.std.proofs.Common.{◌≡◌, ℕ, zero, suc, ◌+◌, ◌*◌, ◌<◌, ◌≤◌, List, [], ◌∷◌, length, get_or, replicate, refl, sym, subst, arith, ℤ, pos, neg_ℤ, ◌+ℤ◌, ◌-ℤ◌, ◌*ℤ◌, ◌≤ℤ◌, ◌⊎◌, inl, inr, All}
use Rattle.std.proofs.lemmas.Int.{ints}
use Rattle.std.proofs.lemmas.List.{length-replicate}
use Rattle.std.proofs.lemmas.List.Elements.{All-nil, All-cons, All-head, All-tail, All-get_or, All-from_get_or, All-contains, All-weaker}
use Rattle.integer_laws.specs.Laws.Order.{le_from, add_le, mul_le, le_of_same, mul_same}
use Rattle.integer_laws.specs.Laws.Ring.{expand}
use Rattle.integer_laws.specs.Vectors.{dot}
use Rattle.integer_laws.specs.Laws.Vectors.{dot-zeros}
use Rattle.plan_laws.specs.Laws.SideRows.{dot_put, zero_at}
use Rattle.plan_laws.specs.Laws.ObjectSpans.{object_spans}
use Rattle.plan_laws.specs.Inside.{region_at, place_at, IsBounded, IsInside, AreInside}
use Rattle.seq_model.specs.Jobs.{bands_of, no_object, object_at, scene_of_job}
use Rattle.seq_model.specs.Plates.{share_of}
use Rattle.seq_model.specs.Scenes.{Between, LiesIn, SomeSpot}
use Rattle.seq_model.specs.declared.row.Row.{Row}
use Rattle.seq_model.specs.Systems.{at_most, bounds_of, row_value}
use Rattle.seq_model.specs.declared.job.Job.{Job}
use Rattle.seq_model.specs.declared.job.Object.{Object}
use Rattle.seq_model.specs.declared.plate.Region.{Region}
use Rattle.seq_model.specs.declared.printer.Spot.{Spot}

-- ---- a row of the bounds
row_is : (job : Job) (d : ℤ) (u : List ℤ) (v : ℕ) (bound : ℤ) → v < 2 * length job.objects → length u ≡ 2 * length job.objects → row_value d u (at_most job v bound) ≡ d *ℤ bound -ℤ get_or u v (pos 0)
row_is job d u v bound l many =
    let n = 2 * length job.objects in
    let z = dot-zeros n u in
    let p = dot_put v (replicate n (pos 0)) u (neg_ℤ (pos 1)) (omega (arith, l, length-replicate n (pos 0))) (omega (arith, l, many)) (zero_at n v) in
    settle (d *ℤ bound) (dot (replicate n (pos 0)) u) _ (get_or u v (pos 0)) z p
  where
    settle : (c z p v : ℤ) → z ≡ pos 0 → p ≡ z +ℤ neg_ℤ (pos 1) *ℤ v → c +ℤ p ≡ c -ℤ v
    settle c z p v e f = omega (arith, ints, e, f)

over : {a b : ℤ} → pos 0 ≤ℤ (a -ℤ b) → b ≤ℤ a
over h = omega (arith, ints)

under : {a b : ℤ} → b ≤ℤ a → pos 0 ≤ℤ (a -ℤ b)
under h = omega (arith, ints)

abbrev wide : Job → ℕ → Object → ℤ
wide job e o = share_of job.printer.width job.printer.grid e -ℤ (o.high.x -ℤ o.low.x)

abbrev deep : Job → ℕ → Object → ℤ
deep job e o = share_of job.printer.depth job.printer.grid e -ℤ (o.high.y -ℤ o.low.y)

abbrev IsUnder : Job → ℕ → ℤ → List ℤ → ℕ → Object → Type 0
IsUnder job e d u v o = (get_or u v (pos 0) ≤ℤ (d *ℤ wide job e o)) × (get_or u (v + 1) (pos 0) ≤ℤ (d *ℤ deep job e o))

abbrev IsMet : ℤ → List ℤ → Row → Type 0
IsMet d u row = pos 0 ≤ℤ row_value d u row

under_rows : (job : Job) (e : ℕ) (d : ℤ) (u : List ℤ) → length u ≡ 2 * length job.objects → (objects : List Object) (v : ℕ) → v + 2 * length objects ≤ 2 * length job.objects
    → All (IsMet d u) (bounds_of job e v objects) → (k : ℕ) → k < length objects → IsUnder job e d u (v + 2 * k) (get_or objects k no_object)
under_rows job e d u many [] v room all k l = absurd (omega (arith, l))
under_rows job e d u many (o ∷ objects) v room all zero l = subst (λ w. IsUnder job e d u w o) (at_start v) (
  over (subst (λ t. pos 0 ≤ℤ t) (row_is job d u v (wide job e o) (omega (arith, room)) many) first),
  over (subst (λ t. pos 0 ≤ℤ t) (row_is job d u (v + 1) (deep job e o) (omega (arith, room)) many) second),
)
  where
    at_start : (v : ℕ) → v ≡ v + 2 * 0
    at_start v = omega arith

    others : All (IsMet d u) (at_most job (v + 1) (deep job e o) ∷ bounds_of job e (v + 2) objects)
    others = All-tail (IsMet d u) (at_most job v (wide job e o)) (at_most job (v + 1) (deep job e o) ∷ bounds_of job e (v + 2) objects) all

    first : IsMet d u (at_most job v (wide job e o))
    first = All-head (IsMet d u) (at_most job v (wide job e o)) (at_most job (v + 1) (deep job e o) ∷ bounds_of job e (v + 2) objects) all

    second : IsMet d u (at_most job (v + 1) (deep job e o))
    second = All-head (IsMet d u) (at_most job (v + 1) (deep job e o)) (bounds_of job e (v + 2) objects) others
under_rows job e d u many (o ∷ objects) v room all (suc k) l =
    subst (λ w. IsUnder job e d u w (get_or objects k no_object)) (next v k) (under_rows job e d u many objects (v + 2) (omega (arith, room)) rest k (omega (arith, l)))
  where
    next : (v k : ℕ) → (v + 2) + 2 * k ≡ v + 2 * suc k
    next v k = omega arith

    rest : All (IsMet d u) (bounds_of job e (v + 2) objects)
    rest = All-tail (IsMet d u) (at_most job (v + 1) (deep job e o)) (bounds_of job e (v + 2) objects)
        (All-tail (IsMet d u) (at_most job v (wide job e o)) (at_most job (v + 1) (deep job e o) ∷ bounds_of job e (v + 2) objects) all)

rows_under : (job : Job) (e : ℕ) (d : ℤ) (u : List ℤ) → length u ≡ 2 * length job.objects → (objects : List Object) (v : ℕ) → v + 2 * length objects ≤ 2 * length job.objects
    → ((k : ℕ) → k < length objects → IsUnder job e d u (v + 2 * k) (get_or objects k no_object)) → All (IsMet d u) (bounds_of job e v objects)
rows_under job e d u many [] v room h = All-nil (IsMet d u)
rows_under job e d u many (o ∷ objects) v room h =
    All-cons (IsMet d u) (at_most job v (wide job e o)) (at_most job (v + 1) (deep job e o) ∷ bounds_of job e (v + 2) objects)
    (subst (λ t. pos 0 ≤ℤ t) (sym (row_is job d u v (wide job e o) (omega (arith, room)) many)) (under here.0))
    (All-cons (IsMet d u) (at_most job (v + 1) (deep job e o)) (bounds_of job e (v + 2) objects)
    (subst (λ t. pos 0 ≤ℤ t) (sym (row_is job d u (v + 1) (deep job e o) (omega (arith, room)) many)) (under here.1))
    (rows_under job e d u many objects (v + 2) (omega (arith, room)) (λ k l. subst (λ w. IsUnder job e d u w (get_or objects k no_object)) (sym (next v k)) (h (suc k) (omega (arith, l))))))
  where
    at_start : (v : ℕ) → v + 2 * 0 ≡ v
    at_start v = omega arith

    next : (v k : ℕ) → (v + 2) + 2 * k ≡ v + 2 * suc k
    next v k = omega arith

    here : IsUnder job e d u v o
    here = subst (λ w. IsUnder job e d u w o) (at_start v) (h 0 (omega arith))

-- ---- numbers
low_side : (d u hl lx sx : ℤ) → pos 0 ≤ℤ d → pos 0 ≤ℤ u → lx ≤ℤ sx → (d *ℤ hl) ≤ℤ (d *ℤ sx +ℤ (u +ℤ d *ℤ (hl -ℤ lx)))
low_side d u hl lx sx p q h = le_from (add_le q (mul_le d p h)) (simp expand (omega (arith, ints)))

high_side : (d u hl w lx hx sx : ℤ) → pos 0 ≤ℤ d → u ≤ℤ (d *ℤ (w -ℤ (hx -ℤ lx))) → sx ≤ℤ hx → (d *ℤ sx +ℤ (u +ℤ d *ℤ (hl -ℤ lx))) ≤ℤ (d *ℤ (hl +ℤ w))
high_side d u hl w lx hx sx p q h = le_from (add_le q (mul_le d p h)) (simp expand (omega (arith, ints)))

low_back : (d u hl lx sx : ℤ) → sx ≡ lx → (d *ℤ hl) ≤ℤ (d *ℤ sx +ℤ (u +ℤ d *ℤ (hl -ℤ lx))) → pos 0 ≤ℤ u
low_back d u hl lx sx e h = le_from (add_le h (le_of_same (mul_same d e))) (simp expand (omega (arith, ints)))

high_back : (d u hl w lx hx sx : ℤ) → sx ≡ hx → (d *ℤ sx +ℤ (u +ℤ d *ℤ (hl -ℤ lx))) ≤ℤ (d *ℤ (hl +ℤ w)) → u ≤ℤ (d *ℤ (w -ℤ (hx -ℤ lx)))
high_back d u hl w lx hx sx e h = le_from (add_le h (le_of_same (mul_same d (sym e)))) (simp expand (omega (arith, ints)))

at_zero : (k : ℕ) → 0 + 2 * k ≡ 2 * k
at_zero k = omega arith

object_under : (job : Job) (e : ℕ) (d : ℤ) (u : List ℤ) → length u ≡ 2 * length job.objects → All (IsMet d u) (bounds_of job e 0 job.objects) → (o : ℕ) → o < length job.objects → IsUnder job e d u (2 * o) (object_at job o)
object_under job e d u many each o l = subst (λ w. IsUnder job e d u w (object_at job o)) (at_zero o) (under_rows job e d u many job.objects 0 (omega arith) each o l)

pub inside_where_bounded : (job : Job) (e : ℕ) (d : ℤ) (u : List ℤ) → pos 1 ≤ℤ d → length u ≡ 2 * length job.objects → IsBounded job e d u → AreInside job e d u
inside_where_bounded job e d u one many is o l b below =
    All-weaker (Between object.low object.high) (LiesIn region d (place_at job e d u o)) lies ((scene_of_job job).spots o b) ((object_spans job o l).holds b below)
  where
    object : Object
    object = object_at job o

    region : Region
    region = region_at job e

    positive : pos 0 ≤ℤ d
    positive = omega (arith, ints, one)

    room : IsUnder job e d u (2 * o) (object_at job o)
    room = object_under job e d u many is.each o l

    x : pos 0 ≤ℤ get_or u (2 * o) (pos 0)
    x = All-get_or (λ x. pos 0 ≤ℤ x) u (2 * o) (pos 0) (omega (arith, l, many)) is.coordinates

    y : pos 0 ≤ℤ get_or u (2 * o + 1) (pos 0)
    y = All-get_or (λ x. pos 0 ≤ℤ x) u (2 * o + 1) (pos 0) (omega (arith, l, many)) is.coordinates

    lies : (s : Spot) → Between object.low object.high s → LiesIn region d (place_at job e d u o) s
    lies s between = record {
      west = low_side d (get_or u (2 * o) (pos 0)) region.low.x object.low.x s.x positive x between.west;
      east = high_side d (get_or u (2 * o) (pos 0)) region.low.x region.w object.low.x object.high.x s.x positive room.0 between.east;
      south = low_side d (get_or u (2 * o + 1) (pos 0)) region.low.y object.low.y s.y positive y between.south;
      north = high_side d (get_or u (2 * o + 1) (pos 0)) region.low.y region.h object.low.y object.high.y s.y positive room.1 between.north;
    }

-- ---- and back
pub record HasRoom (job : Job) (e : ℕ) (d : ℤ) (u : List ℤ) (o : ℕ) : Type 0 where
  pub x : pos 0 ≤ℤ get_or u (2 * o) (pos 0)
  pub y : pos 0 ≤ℤ get_or u (2 * o + 1) (pos 0)
  pub under : IsUnder job e d u (2 * o) (object_at job o)

has_room : (job : Job) (e : ℕ) (d : ℤ) (u : List ℤ) (o : ℕ) → o < length job.objects → IsInside job e d (place_at job e d u o) → HasRoom job e d u o
has_room job e d u o l inside =
    let spans = object_spans job o l in
    let west = lies (λ s. s.x ≡ object.low.x) spans.west in
    let east = lies (λ s. s.x ≡ object.high.x) spans.east in
    let south = lies (λ s. s.y ≡ object.low.y) spans.south in
    let north = lies (λ s. s.y ≡ object.high.y) spans.north in
    record {
      x = low_back d (get_or u (2 * o) (pos 0)) region.low.x object.low.x spans.west.spot.x spans.west.so west.west;
      y = low_back d (get_or u (2 * o + 1) (pos 0)) region.low.y object.low.y spans.south.spot.y spans.south.so south.south;
      under = (
        high_back d (get_or u (2 * o) (pos 0)) region.low.x region.w object.low.x object.high.x spans.east.spot.x spans.east.so east.east,
        high_back d (get_or u (2 * o + 1) (pos 0)) region.low.y region.h object.low.y object.high.y spans.north.spot.y spans.north.so north.north,
      );
    }
  where
    object : Object
    object = object_at job o

    region : Region
    region = region_at job e

    lies : (P : Spot → Type 0) → (s : SomeSpot (bands_of job o) ((scene_of_job job).spots o) P) → LiesIn region d (place_at job e d u o) s.spot
    lies P s = All-contains (LiesIn region d (place_at job e d u o)) ((scene_of_job job).spots o s.band) s.spot (inside s.band s.below_count) s.member

-- a variable is the x or the y of an object
abbrev OfObject : ℕ → ℕ → Type 0
OfObject n k = (o : ℕ) × (o < n) × ((k ≡ 2 * o) ⊎ (k ≡ 2 * o + 1))

of_object : (n k : ℕ) → k < 2 * n → OfObject n k
of_object zero k l = absurd (omega (arith, l))
of_object (suc n) zero l = (0, omega arith, inl refl)
of_object (suc n) (suc zero) l = (0, omega arith, inr refl)
of_object (suc n) (suc (suc k)) l = by (of_object n k (omega (arith, l)))
  where
    by : OfObject n k → OfObject (suc n) (suc (suc k))
    by r = pick r.2
      where
        pick : (k ≡ 2 * r.0) ⊎ (k ≡ 2 * r.0 + 1) → OfObject (suc n) (suc (suc k))
        pick (inl e) = (suc r.0, omega (arith, r.1), inl (omega (arith, e)))
        pick (inr e) = (suc r.0, omega (arith, r.1), inr (omega (arith, e)))

pub bounded_where_inside : (job : Job) (e : ℕ) (d : ℤ) (u : List ℤ) → length u ≡ 2 * length job.objects → AreInside job e d u → IsBounded job e d u
bounded_where_inside job e d u many inside = record {
  coordinates = All-from_get_or (λ x. pos 0 ≤ℤ x) u (pos 0) (λ k l. number k (of_object (length job.objects) k (omega (arith, l, many))));
  each = rows_under job e d u many job.objects 0 (omega arith) (λ k l. subst (λ w. IsUnder job e d u w (object_at job k)) (sym (at_zero k)) (room k l).under);
}
  where
    room : (o : ℕ) → o < length job.objects → HasRoom job e d u o
    room o l = has_room job e d u o l (inside o l)

    number : (k : ℕ) → OfObject (length job.objects) k → pos 0 ≤ℤ get_or u k (pos 0)
    number k r = pick r.2
      where
        pick : (k ≡ 2 * r.0) ⊎ (k ≡ 2 * r.0 + 1) → pos 0 ≤ℤ get_or u k (pos 0)
        pick (inl e) = subst (λ n. pos 0 ≤ℤ get_or u n (pos 0)) (sym e) (room r.0 r.1).x
        pick (inr e) = subst (λ n. pos 0 ≤ℤ get_or u n (pos 0)) (sym e) (room r.0 r.1).y
