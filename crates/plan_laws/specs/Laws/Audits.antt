-- A plan is valid just where an audit finds no fault.
--
--   in_by_box, box_by_in     an object's spots lie in the region just where its box does
--   no_repeat                no two places are of one object
--   audited_is_valid, valid_is_audited   what an audit looks at is what is valid
use Rattle.std.proofs.Common.{◌≡◌, ◌≢◌, ℕ, ◌<◌, List, length, get_or, refl, subst, arith, ℤ, pos, ◌+ℤ◌, ◌*ℤ◌, ◌≤ℤ◌, All}
use Rattle.std.proofs.lemmas.Int.{ints}
use Rattle.std.proofs.lemmas.List.Elements.{All-get_or, All-from_get_or, All-weaker, All-contains}
use Rattle.std.specs.Prelude.{count_by, nat_eq}
use Rattle.integer_laws.specs.Laws.Order.{mul_le}
use Rattle.plan_laws.specs.Audits.{BoxLiesIn, BoxOf, IsAudited}
use Rattle.model_laws.specs.Laws.Collisions.{contact_collides, collides_by_contact}
use Rattle.plan_laws.specs.Inside.{region_at, IsInside}
use Rattle.plan_laws.specs.Laws.ObjectSpans.{object_spans}
use Rattle.plan_laws.specs.Laws.Ordered.{only_place}
use Rattle.seq_model.specs.Jobs.{bands_of, object_at, scene_of_job, no_place}
use Rattle.seq_model.specs.Points.{place_point}
use Rattle.seq_model.specs.Scenes.{Between, SomeSpot, LiesIn, Collides, Valid}
use Rattle.seq_model.specs.declared.job.Job.{Job}
use Rattle.seq_model.specs.declared.plan.Place.{Place}
use Rattle.seq_model.specs.declared.plan.Plan.{Plan}
use Rattle.seq_model.specs.declared.plate.Region.{Region}
use Rattle.seq_model.specs.declared.printer.Spot.{Spot}

-- ---- boxes
low_number : (d rl l s x : ℤ) → pos 0 ≤ℤ d → l ≤ℤ s → (d *ℤ rl) ≤ℤ (d *ℤ l +ℤ x) → (d *ℤ rl) ≤ℤ (d *ℤ s +ℤ x)
low_number d rl l s x p h k = let m = mul_le d p h in omega (arith, ints, m, k)

high_number : (d rh h s x : ℤ) → pos 0 ≤ℤ d → s ≤ℤ h → (d *ℤ h +ℤ x) ≤ℤ (d *ℤ rh) → (d *ℤ s +ℤ x) ≤ℤ (d *ℤ rh)
high_number d rh h s x p g k = let m = mul_le d p g in omega (arith, ints, m, k)

spot_lies : (region : Region) (d : ℤ) (place : Place) (low high s : Spot) → pos 0 ≤ℤ d → BoxLiesIn region d place low high → Between low high s → LiesIn region d place s
spot_lies region d place low high s p box b = record {
  west = low_number d region.low.x low.x s.x place.x p b.west box.west;
  east = high_number d (region.low.x +ℤ region.w) high.x s.x place.x p b.east box.east;
  south = low_number d region.low.y low.y s.y place.y p b.south box.south;
  north = high_number d (region.low.y +ℤ region.h) high.y s.y place.y p b.north box.north;
}

pub in_by_box : (job : Job) (e : ℕ) (scale : ℤ) (place : Place) → pos 1 ≤ℤ scale → place.object < length job.objects → BoxOf job e scale place → IsInside job e scale place
in_by_box job e scale place one known box b below =
    let o = object_at job place.object in
    All-weaker (Between o.low o.high) (LiesIn (region_at job e) scale place) (λ s between. spot_lies (region_at job e) scale place o.low o.high s (omega (arith, ints, one)) box between)
    ((scene_of_job job).spots place.object b) ((object_spans job place.object known).holds b below)

pub box_by_in : (job : Job) (e : ℕ) (scale : ℤ) (place : Place) → place.object < length job.objects → IsInside job e scale place → BoxOf job e scale place
box_by_in job e scale place known inside =
    let spans = object_spans job place.object known in
    let region = region_at job e in
    record {
      west = subst (λ t. (scale *ℤ region.low.x) ≤ℤ (scale *ℤ t +ℤ place.x)) spans.west.so (lies (λ s. s.x ≡ low.x) spans.west).west;
      east = subst (λ t. (scale *ℤ t +ℤ place.x) ≤ℤ (scale *ℤ (region.low.x +ℤ region.w))) spans.east.so (lies (λ s. s.x ≡ high.x) spans.east).east;
      south = subst (λ t. (scale *ℤ region.low.y) ≤ℤ (scale *ℤ t +ℤ place.y)) spans.south.so (lies (λ s. s.y ≡ low.y) spans.south).south;
      north = subst (λ t. (scale *ℤ t +ℤ place.y) ≤ℤ (scale *ℤ (region.low.y +ℤ region.h))) spans.north.so (lies (λ s. s.y ≡ high.y) spans.north).north;
    }
  where
    low : Spot
    low = (object_at job place.object).low

    high : Spot
    high = (object_at job place.object).high

    lies : (P : Spot → Type 0) → (s : SomeSpot (bands_of job place.object) ((scene_of_job job).spots place.object) P) → LiesIn (region_at job e) scale place s.spot
    lies P s = All-contains (LiesIn (region_at job e) scale place) ((scene_of_job job).spots place.object s.band) s.spot (inside s.band s.below_count) s.member

-- ---- each object once
pub no_repeat : (job : Job) (places : List Place) → All (λ (place : Place). place.object < length job.objects) places
    → ((o : ℕ) → o < length job.objects → count_by (λ (place : Place). nat_eq place.object o) places ≡ 1)
    → (i j : ℕ) (d : Place) → i < j → j < length places → (get_or places i d).object ≢ (get_or places j d).object
no_repeat job places known once i j d less within same =
    let o = (get_or places j d).object in
    let k = All-get_or (λ (p : Place). p.object < length job.objects) places j d within known in
    let first = only_place places i o d (once o k) (omega (arith, less, within)) same in
    let second = only_place places j o d (once o k) within refl in
    omega (arith, first, second, less)

-- ---- plans
pub audited_is_valid : (job : Job) (e : ℕ) (plan : Plan) → IsAudited job e plan → Valid (scene_of_job job) e plan
audited_is_valid job e plan a = record {
  from_one = a.from_one;
  to_grid = a.to_grid;
  scale = a.scale;
  known = a.known;
  once = a.once;
  inside = All-from_get_or (IsInside job e plan.scale) plan.places no_place
      (λ k l. in_by_box job e plan.scale (get_or plan.places k no_place) a.scale (All-get_or (λ (p : Place). p.object < length job.objects) plan.places k no_place l a.known) (All-get_or (BoxOf job e plan.scale) plan.places k no_place l a.boxes));
  apart = λ i j d less within hits.
      (let p = get_or plan.places i d in
      let r = get_or plan.places j d in
      let c = collides_by_contact job p.object r.object (place_point plan.scale p) (place_point plan.scale r) (no_repeat job plan.places a.known a.once i j d less within) hits in
      a.apart i j d less within c.contact c.earlier c.later c.collides);
}

pub valid_is_audited : (job : Job) (e : ℕ) (plan : Plan) → Valid (scene_of_job job) e plan → IsAudited job e plan
valid_is_audited job e plan v = record {
  from_one = v.from_one;
  to_grid = v.to_grid;
  scale = v.scale;
  known = v.known;
  once = v.once;
  boxes = All-from_get_or (BoxOf job e plan.scale) plan.places no_place
      (λ k l. box_by_in job e plan.scale (get_or plan.places k no_place) (All-get_or (λ (p : Place). p.object < length job.objects) plan.places k no_place l v.known) (All-get_or (IsInside job e plan.scale) plan.places k no_place l v.inside));
  apart = λ i j d less within contact earlier later hits.
      (let p = get_or plan.places i d in
      let r = get_or plan.places j d in
      let at_p = place_point plan.scale p in
      let at_r = place_point plan.scale r in
      let k = contact_collides job contact at_p at_r hits in
      v.apart i j d less within (subst (λ a. Collides (scene_of_job job) a at_p r.object at_r) earlier (subst (λ b. Collides (scene_of_job job) contact.i at_p b at_r) later k)));
}
