-- A box lies in the region, or some spot does not.
use Rattle.std.proofs.Common.{◌≡◌, ℕ, ◌<◌, ◌≤◌, List, length, get_or, refl, ap, sym, subst, ◌∙◌, arith, ℤ, pos, ◌+ℤ◌, ◌*ℤ◌, ◌≤ℤ◌, ◌<ℤ◌, Some, None, inl, inr, ◌⊎◌, ◌↔◌, Bool, true, false, ◌||◌}
use Rattle.std.proofs.lemmas.Bool.Decides.{nat_tests}
use Rattle.std.proofs.lemmas.Int.{ints, by_lt_z}
use Rattle.std.proofs.lemmas.List.Elements.{All-contains}
use Rattle.std.specs.Prelude.{int_lt}
use Rattle.model_laws.specs.Laws.Collisions.{any_default}
use Rattle.plan_laws.specs.Audits.{BoxLiesIn, BoxOf}
use Rattle.plan_laws.specs.Inside.{region_at}
use Rattle.plan_laws.specs.Laws.Audits.{in_by_box}
use Rattle.plan_laws.specs.Laws.ObjectSpans.{object_spans}
use Rattle.plan_audit.proofs.SizeLaws.{extremes_near}
use Rattle.seq_model.specs.Bounds.{IsNearSpot}
use Rattle.seq_model.specs.Jobs.{no_object, object_at, bands_of, scene_of_job, no_place}
use Rattle.seq_model.specs.Scenes.{Scene, SomeSpot, Spans, LiesIn}
use Rattle.seq_model.specs.declared.job.Job.{Job}
use Rattle.seq_model.specs.declared.job.Object.{Object}
use Rattle.seq_model.specs.declared.plan.Place.{Place}
use Rattle.seq_model.specs.declared.plate.Region.{Region}
use Rattle.seq_model.specs.declared.printer.Spot.{Spot}
use Rattle.plan_audit.specs.Faults.{HasSpotOff, IsOff}
use Rattle.plan_audit.specs.Firsts.{IsFirst, Less, NumberBelow}
use Rattle.plan_audit.specs.Steps.{is_out}
use Rattle.plan_audit.proofs.FirstLaws.{number_some, number_none}

-- ---- boxes
out : {P : Type 0} (a b : ℤ) → (a ≤ℤ b → P) → (b <ℤ a → P) → P
out {P} a b f g = by_lt_z b a g f

not_less : {a b : ℤ} → a ≤ℤ b → b <ℤ a → ⊥
not_less {a} {b} h k = omega (arith, ints, h, k)

pub off_or_box : (job : Job) (e : ℕ) (scale : ℤ) (place : Place) → place.object < length job.objects → BoxOf job e scale place ⊎ HasSpotOff (scene_of_job job) e scale place
off_or_box job e scale place known =
    out (scale *ℤ region.low.x) (scale *ℤ low.x +ℤ place.x)
    (λ west. out (scale *ℤ high.x +ℤ place.x) (scale *ℤ (region.low.x +ℤ region.w))
    (λ east. out (scale *ℤ region.low.y) (scale *ℤ low.y +ℤ place.y)
    (λ south. out (scale *ℤ high.y +ℤ place.y) (scale *ℤ (region.low.y +ℤ region.h))
    (λ north. inl (record { west = west; east = east; south = south; north = north }))
    (λ less. inr (off (λ s. s.y ≡ high.y) spans.north (λ s so lies. not_less lies.north (subst (λ t. (scale *ℤ (region.low.y +ℤ region.h)) <ℤ (scale *ℤ t +ℤ place.y)) (sym so) less)))))
    (λ less. inr (off (λ s. s.y ≡ low.y) spans.south (λ s so lies. not_less lies.south (subst (λ t. (scale *ℤ t +ℤ place.y) <ℤ (scale *ℤ region.low.y)) (sym so) less)))))
    (λ less. inr (off (λ s. s.x ≡ high.x) spans.east (λ s so lies. not_less lies.east (subst (λ t. (scale *ℤ (region.low.x +ℤ region.w)) <ℤ (scale *ℤ t +ℤ place.x)) (sym so) less)))))
    (λ less. inr (off (λ s. s.x ≡ low.x) spans.west (λ s so lies. not_less lies.west (subst (λ t. (scale *ℤ t +ℤ place.x) <ℤ (scale *ℤ region.low.x)) (sym so) less))))
  where
    region : Region
    region = region_at job e

    low : Spot
    low = (object_at job place.object).low

    high : Spot
    high = (object_at job place.object).high

    spans : Spans (bands_of job place.object) ((scene_of_job job).spots place.object) (object_at job place.object).low (object_at job place.object).high
    spans = object_spans job place.object known

    off : (P : Spot → Type 0) → SomeSpot (bands_of job place.object) ((scene_of_job job).spots place.object) P → ((s : Spot) → P s → LiesIn (region_at job e) scale place s → ⊥) → HasSpotOff (scene_of_job job) e scale place
    off P s not = record { band = s.band; spot = s.spot; below_count = s.below_count; member = s.member; so = not s.spot s.so }

pub no_off_in_box : (job : Job) (e : ℕ) (scale : ℤ) (place : Place) → pos 1 ≤ℤ scale → place.object < length job.objects → BoxOf job e scale place → HasSpotOff (scene_of_job job) e scale place → ⊥
no_off_in_box job e scale place one known box s =
    s.so (All-contains (LiesIn (region_at job e) scale place) ((scene_of_job job).spots place.object s.band) s.spot (in_by_box job e scale place one known box s.band s.below_count) s.member)

-- ---- the test of a box
le_of : (m n : ℤ) → int_lt m n ≡ false → n ≤ℤ m
le_of m n e = grind (arith, ints, nat_tests)

of_le : (m n : ℤ) → n ≤ℤ m → int_lt m n ≡ false
of_le m n h = grind (arith, ints, nat_tests)

clash : true ≡ false → ⊥
clash e = cc

all_false : (a b c d : Bool) → ((a || b) || (c || d)) ≡ false → (a ≡ false) × (b ≡ false) × (c ≡ false) × (d ≡ false)
all_false true b c d e = absurd (clash e)
all_false false true c d e = absurd (clash e)
all_false false false true d e = absurd (clash e)
all_false false false false d e = (refl, refl, refl, e)

box_not_out : (region : Region) (scale : ℤ) (place : Place) (low high : Spot) → BoxLiesIn region scale place low high → is_out region scale place low high ≡ false
box_not_out region scale place low high box =
    rw (
      of_le (scale *ℤ low.x +ℤ place.x) (scale *ℤ region.low.x) box.west,
      of_le (scale *ℤ (region.low.x +ℤ region.w)) (scale *ℤ high.x +ℤ place.x) box.east,
      of_le (scale *ℤ low.y +ℤ place.y) (scale *ℤ region.low.y) box.south,
      of_le (scale *ℤ (region.low.y +ℤ region.h)) (scale *ℤ high.y +ℤ place.y) box.north,
    ) refl

not_out_box : (region : Region) (scale : ℤ) (place : Place) (low high : Spot) → is_out region scale place low high ≡ false → BoxLiesIn region scale place low high
not_out_box region scale place low high e =
    let f = all_false (int_lt (scale *ℤ low.x +ℤ place.x) (scale *ℤ region.low.x)) (int_lt (scale *ℤ (region.low.x +ℤ region.w)) (scale *ℤ high.x +ℤ place.x))
    (int_lt (scale *ℤ low.y +ℤ place.y) (scale *ℤ region.low.y)) (int_lt (scale *ℤ (region.low.y +ℤ region.h)) (scale *ℤ high.y +ℤ place.y)) e in
    record {
      west = le_of (scale *ℤ low.x +ℤ place.x) (scale *ℤ region.low.x) f.0;
      east = le_of (scale *ℤ (region.low.x +ℤ region.w)) (scale *ℤ high.x +ℤ place.x) f.1;
      south = le_of (scale *ℤ low.y +ℤ place.y) (scale *ℤ region.low.y) f.2;
      north = le_of (scale *ℤ (region.low.y +ℤ region.h)) (scale *ℤ high.y +ℤ place.y) f.3;
    }

pub object_is : (job : Job) (o : ℕ) (os : List Object) (x : Object) → o < length job.objects → os ≡ job.objects → x ≡ get_or os o x → x ≡ object_at job o
object_is job o os x l e f = f ∙ (ap (λ (t : List Object). get_or t o x) e ∙ any_default job.objects o x no_object l)

pub extremes_of : (job : Job) (o : ℕ) (x : Object) → o < length job.objects → x ≡ object_at job o → IsNearSpot 1_001_000 x.low × IsNearSpot 1_001_000 x.high
extremes_of job o x l e = subst (λ (t : Object). IsNearSpot 1_001_000 t.low × IsNearSpot 1_001_000 t.high) (sym e) (extremes_near job o l)

pub out_is_off : (job : Job) (e : ℕ) (scale scale' : ℤ) (place : Place) (region : Region) (x : Object) (t : Bool) → place.object < length job.objects → pos 1 ≤ℤ scale → scale' ≡ scale → region ≡ region_at job e → x ≡ object_at job place.object
    → t ≡ is_out region scale' place x.low x.high → (t ≡ true) ↔ HasSpotOff (scene_of_job job) e scale place
out_is_off job e scale scale' place region x t known one f g h same = (λ y. to (sym is ∙ y) (off_or_box job e scale place known), λ s. is ∙ from (is_out (region_at job e) scale place (object_at job place.object).low (object_at job place.object).high) refl s)
  where
    is : t ≡ is_out (region_at job e) scale place (object_at job place.object).low (object_at job place.object).high
    is = same ∙ (ap (λ (z : ℤ). is_out region z place x.low x.high) f ∙ (ap (λ (r : Region). is_out r scale place x.low x.high) g ∙ ap (λ (o : Object). is_out (region_at job e) scale place o.low o.high) h))

    to : is_out (region_at job e) scale place (object_at job place.object).low (object_at job place.object).high ≡ true → BoxOf job e scale place ⊎ HasSpotOff (scene_of_job job) e scale place → HasSpotOff (scene_of_job job) e scale place
    to y (inr s) = s
    to y (inl box) = absurd (clash (sym y ∙ box_not_out (region_at job e) scale place (object_at job place.object).low (object_at job place.object).high box))

    from : (b : Bool) → is_out (region_at job e) scale place (object_at job place.object).low (object_at job place.object).high ≡ b → HasSpotOff (scene_of_job job) e scale place → is_out (region_at job e) scale place (object_at job place.object).low (object_at job place.object).high ≡ true
    from true y s = y
    from false y s = absurd (no_off_in_box job e scale place one known (not_out_box (region_at job e) scale place (object_at job place.object).low (object_at job place.object).high y) s)

pub off_some : (scene : Scene) (e : ℕ) (scale scale' : ℤ) (places : List Place) (k : ℕ) (d : Place) → scale' ≡ scale → NumberBelow (IsOff scene e scale' places) k → k < length places → HasSpotOff scene e scale' (get_or places k d)
    → IsFirst (IsOff scene e scale places) Less (Some k)
off_some scene e scale scale' places k d same below l s =
    subst (λ t. IsFirst (IsOff scene e t places) Less (Some k)) same (number_some (IsOff scene e scale' places) k below (l, subst (HasSpotOff scene e scale') (any_default places k d no_place l) s))

pub off_none : (scene : Scene) (e : ℕ) (scale scale' : ℤ) (places : List Place) (k : ℕ) → scale' ≡ scale → NumberBelow (IsOff scene e scale' places) k → length places ≤ k → IsFirst (IsOff scene e scale places) Less None
off_none scene e scale scale' places k same below l =
    subst (λ t. IsFirst (IsOff scene e t places) Less None) same (number_none (IsOff scene e scale' places) k (λ m p. let n = p.0 in omega (arith, n, l)) below)
