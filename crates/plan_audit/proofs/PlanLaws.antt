-- A plan without a fault is valid, and a valid plan has none; and there is one verdict.
use Rattle.std.proofs.Common.{◌≡◌, ◌≢◌, ℕ, zero, suc, ◌+◌, ◌<◌, ◌≤◌, List, [], ◌∷◌, length, get_or, map, refl, ap, sym, subst, ◌∙◌, arith, ℤ, pos, ◌≤ℤ◌, All, AllPairs, Contains, None, inl, inr, ◌⊎◌, cond, ◌↔◌, Bool, true, false}
use Rattle.std.proofs.lemmas.Bool.{cases_lt}
use Rattle.std.proofs.lemmas.Bool.Decides.{nat_tests}
use Rattle.std.proofs.lemmas.List.{length-map}
use Rattle.std.proofs.lemmas.List.Elements.{All-get_or, All-from_get_or, All-contains}
use Rattle.std.proofs.lemmas.List.Sums.{sum_by-cons}
use Rattle.std.specs.Prelude.{count_by, nat_eq}
use Rattle.integer_laws.specs.Laws.Members.{In-from_contains, Contains-from_in}
use Rattle.model_laws.specs.Laws.Collisions.{any_default}
use Rattle.plan_laws.specs.Audits.{BoxOf}
use Rattle.plan_laws.specs.Inside.{region_at, IsInside}
use Rattle.plan_laws.specs.Laws.Audits.{in_by_box, no_repeat}
use Rattle.plan_laws.specs.Laws.Ordered.{count_one, count_none}
use Rattle.seq_model.specs.Jobs.{no_part, scene_of_job, no_place}
use Rattle.seq_model.specs.Points.{place_point}
use Rattle.seq_model.specs.Scenes.{Scene, LiesIn, Meets, Overlap, Collides, Valid}
use Rattle.seq_model.specs.declared.job.Job.{Job}
use Rattle.seq_model.specs.declared.plan.Place.{Place}
use Rattle.seq_model.specs.declared.plan.Plan.{Plan}
use Rattle.seq_model.specs.declared.printer.Part.{Part}
use Rattle.plan_audit.specs.Faults.{nth, StandsBelow, IsStray, IsAbsent, HasSpotOff, IsOff, IsHit, ComesBefore, FirstStray, FirstAbsent, FirstOff, FirstHit, IsVerdict}
use Rattle.plan_audit.specs.Firsts.{IsFirst, Less, Sooner}
use Rattle.plan_audit.specs.Steps.{hit_by}
use Rattle.plan_audit.specs.declared.verdict.Hit.{Hit}
use Rattle.plan_audit.specs.declared.verdict.Verdict.{Verdict}
use Rattle.plan_audit.specs.declared.verdict.Verdict.TheVariants as Verdicts
use Rattle.plan_audit.proofs.BoxLaws.{off_or_box}
use Rattle.plan_audit.proofs.FirstLaws.{less_total, sooner_total, one_first}

-- ---- each object once

counted : (o : ℕ) (places : List Place) → count_by (λ (p : Place). nat_eq p.object o) places ≡ count_by (λ k. nat_eq k o) (map (λ (p : Place). p.object) places)
counted o [] = refl
counted o (p ∷ places) =
    sum_by-cons (λ (p : Place). cond (nat_eq p.object o) 1 0) p places
    ∙ (ap (λ t. cond (nat_eq p.object o) 1 0 + t) (counted o places) ∙ sym (sum_by-cons (λ (m : ℕ). cond (nat_eq m o) 1 0) p.object (map (λ (p : Place). p.object) places)))

named : (places : List Place) (k d : ℕ) → k < length places → get_or (map (λ (p : Place). p.object) places) k d ≡ (nth places k).object
named [] k d l = absurd (omega (arith, l))
named (p ∷ places) zero d l = refl
named (p ∷ places) (suc k) d l = named places k d (omega (arith, l))

pub all_known : (scene : Scene) (places : List Place) → IsFirst (IsStray scene places) Less None → All (λ (p : Place). p.object < scene.objects) places
all_known scene places f = All-from_get_or (λ (p : Place). p.object < scene.objects) places no_place (λ k l. by k l (cases_lt (nth places k).object scene.objects))
  where
    by : (k : ℕ) → k < length places → ((nth places k).object < scene.objects) ⊎ (scene.objects ≤ (nth places k).object) → (nth places k).object < scene.objects
    by k l (inl h) = h
    by k l (inr h) = absurd (f k (l, inl h))

differ : (scene : Scene) (places : List Place) → IsFirst (IsStray scene places) Less None → AllPairs (λ a b. a ≢ b) (map (λ (p : Place). p.object) places)
differ scene places f i j d less within same =
    let n : j < length places = omega (arith, within, length-map places (λ (p : Place). p.object)) in
    f j (n, inr (record { m = i; below = less; is = sym (named places i d (omega (arith, less, n))) ∙ (same ∙ named places j d n) }))

once_each : (scene : Scene) (places : List Place) → IsFirst (IsStray scene places) Less None → (o : ℕ) → StandsBelow places (length places) o → count_by (λ (p : Place). nat_eq p.object o) places ≡ 1
once_each scene places f o s =
    counted o places ∙ count_one o (map (λ (p : Place). p.object) places) (differ scene places f)
    (In-from_contains (map (λ (p : Place). p.object) places) o (s.m, omega (arith, s.below, length-map places (λ (p : Place). p.object)), named places s.m o s.below ∙ s.is))

stands_or_not : (places : List Place) (n o : ℕ) → StandsBelow places n o ⊎ (StandsBelow places n o → ⊥)
stands_or_not places zero o = inr (λ s. omega (arith, s.below))
stands_or_not places (suc n) o = by (nat_eq (nth places n).object o) refl (stands_or_not places n o)
  where
    yes_eq : (a b : ℕ) → nat_eq a b ≡ true → a ≡ b
    yes_eq a b e = grind (arith, nat_tests)

    no_eq : (a b : ℕ) → nat_eq a b ≡ false → a ≡ b → ⊥
    no_eq a b e f = grind (arith, nat_tests)

    by : (t : Bool) → nat_eq (nth places n).object o ≡ t → StandsBelow places n o ⊎ (StandsBelow places n o → ⊥) → StandsBelow places (suc n) o ⊎ (StandsBelow places (suc n) o → ⊥)
    by true e r = inl (record { m = n; below = omega arith; is = yes_eq (nth places n).object o e })
    by false e (inl s) = inl (record { m = s.m; below = omega (arith, s.below); is = s.is })
    by false e (inr never) = inr (λ s. last s (cases_lt s.m n))
      where
        last : (s : StandsBelow places (suc n) o) → (s.m < n) ⊎ (n ≤ s.m) → ⊥
        last s (inl l) = never (record { m = s.m; below = l; is = s.is })
        last s (inr l) = no_eq (nth places n).object o e (subst (λ k. (nth places k).object ≡ o) (let k : s.m ≡ n = omega (arith, l, s.below) in k) s.is)

-- ---- plans
pub faultless_is_valid : (job : Job) (e : ℕ) (plan : Plan) → 1 ≤ e → e ≤ job.printer.grid → pos 1 ≤ℤ plan.scale
    → FirstStray (scene_of_job job) plan.places None → FirstAbsent (scene_of_job job) plan.places None → FirstOff (scene_of_job job) e plan.scale plan.places None → FirstHit (scene_of_job job) plan.scale plan.places None → Valid (scene_of_job job) e plan
faultless_is_valid job e plan one grid scale stray absent off hit = record {
  from_one = one;
  to_grid = grid;
  scale = scale;
  known = known;
  once = λ o l. once o l (stands_or_not plan.places (length plan.places) o);
  inside = All-from_get_or (IsInside job e plan.scale) plan.places no_place (λ k l. inside k l (All-get_or (λ (p : Place). p.object < length job.objects) plan.places k no_place l known) (off_or_box job e plan.scale (nth plan.places k) (All-get_or (λ (p : Place). p.object < length job.objects) plan.places k no_place l known)));
  apart = λ i j d less within k. apart i j less within (subst (λ (p : Place). Hits p (nth plan.places j)) (any_default plan.places i d no_place (omega (arith, less, within))) (subst (λ (r : Place). Hits (get_or plan.places i d) r) (any_default plan.places j d no_place within) k));
}
  where
    Hits : Place → Place → Type 0
    Hits p r = Collides (scene_of_job job) p.object (place_point plan.scale p) r.object (place_point plan.scale r)

    known : All (λ (p : Place). p.object < length job.objects) plan.places
    known = all_known (scene_of_job job) plan.places stray

    once : (o : ℕ) → o < length job.objects → StandsBelow plan.places (length plan.places) o ⊎ (StandsBelow plan.places (length plan.places) o → ⊥) → count_by (λ (p : Place). nat_eq p.object o) plan.places ≡ 1
    once o l (inl s) = once_each (scene_of_job job) plan.places stray o s
    once o l (inr never) = absurd (absent o (l, never))

    inside : (k : ℕ) → k < length plan.places → (nth plan.places k).object < length job.objects → BoxOf job e plan.scale (nth plan.places k) ⊎ HasSpotOff (scene_of_job job) e plan.scale (nth plan.places k) → IsInside job e plan.scale (nth plan.places k)
    inside k l known (inl box) = in_by_box job e plan.scale (nth plan.places k) scale known box
    inside k l known (inr s) = absurd (off k (l, s))

    apart : (i j : ℕ) → i < j → j < length plan.places → Collides (scene_of_job job) (nth plan.places i).object (place_point plan.scale (nth plan.places i)) (nth plan.places j).object (place_point plan.scale (nth plan.places j)) → ⊥
    apart i j less within k =
        let n = k.part_of_scene.0 in
        let is = any_default job.printer.parts n no_part k.part k.part_of_scene.1 ∙ k.part_of_scene.2 in
        hit (record { earlier = i; later = j; c = k.c; b = k.b; part = n })
        (record {
          in_order = less;
          stands = within;
          band_of_later = k.band_of_later;
          band_of_earlier = k.band_of_earlier;
          part_of_scene = k.part_of_scene.1;
          meets = subst (λ (t : Part). Meets t k.b k.c) (sym is) k.meets;
          overlap = subst (λ (t : Part). Overlap ((scene_of_job job).spots (nth plan.places i).object k.c) ((scene_of_job job).spots (nth plan.places j).object k.b) t.corners
              (place_point plan.scale (nth plan.places i)) (place_point plan.scale (nth plan.places j))) (sym is) k.overlap;
        })

no_one : {n : ℕ} → n ≡ 1 → n ≡ 0 → ⊥
no_one {n} e f = omega (arith, e, f)

pub valid_has_none : (job : Job) (e : ℕ) (plan : Plan) → Valid (scene_of_job job) e plan
    → FirstStray (scene_of_job job) plan.places None × FirstAbsent (scene_of_job job) plan.places None × FirstOff (scene_of_job job) e plan.scale plan.places None × FirstHit (scene_of_job job) plan.scale plan.places None
valid_has_none job e plan v = (
  λ k s. stray k s.0 s.1,
  λ o a. no_one (v.once o a.0) (counted o plan.places ∙ count_none o (map (λ (p : Place). p.object) plan.places) (λ i. a.1 (stands o (Contains-from_in (map (λ (p : Place). p.object) plan.places) o i)))),
  λ k s. off k s.0 s.1,
  λ h x. hit h x,
)
  where
    stray : (k : ℕ) → k < length plan.places → ((length job.objects ≤ (nth plan.places k).object) ⊎ StandsBelow plan.places k (nth plan.places k).object) → ⊥
    stray k l (inl h) = (let g = All-get_or (λ (p : Place). p.object < length job.objects) plan.places k no_place l v.known in omega (arith, g, h))
    stray k l (inr s) = no_repeat job plan.places v.known v.once s.m k no_place s.below l s.is

    stands : (o : ℕ) → Contains (map (λ (p : Place). p.object) plan.places) o → StandsBelow plan.places (length plan.places) o
    stands o c =
        let l : c.0 < length plan.places = omega (arith, c.1, length-map plan.places (λ (p : Place). p.object)) in
        record { m = c.0; below = l; is = sym (named plan.places c.0 o l) ∙ c.2 }

    off : (k : ℕ) → k < length plan.places → HasSpotOff (scene_of_job job) e plan.scale (nth plan.places k) → ⊥
    off k l s =
        s.so (All-contains (LiesIn (region_at job e) plan.scale (nth plan.places k)) ((scene_of_job job).spots (nth plan.places k).object s.band) s.spot (All-get_or (IsInside job e plan.scale) plan.places k no_place l v.inside s.band s.below_count) s.member)

    hit : (h : Hit) → IsHit (scene_of_job job) plan.scale plan.places h → ⊥
    hit h x =
        v.apart h.earlier h.later no_place x.in_order x.stands (record {
          b = h.b;
          c = h.c;
          part = get_or job.printer.parts h.part no_part;
          band_of_later = x.band_of_later;
          band_of_earlier = x.band_of_earlier;
          part_of_scene = (h.part, x.part_of_scene, any_default job.printer.parts h.part _ no_part x.part_of_scene);
          meets = x.meets;
          overlap = x.overlap;
        })

-- a verdict on a valid plan is Good, and a verdict Good says that the plan is valid
pub only_good : (job : Job) (e : ℕ) (plan : Plan) (v : Verdict) → Valid (scene_of_job job) e plan → IsVerdict (scene_of_job job) e plan v → v ≡ Verdicts.Good
only_good job e plan Verdicts.Good valid is = refl
only_good job e plan (Verdicts.Stray k) valid is = absurd ((valid_has_none job e plan valid).0 k is.0)
only_good job e plan (Verdicts.Absent o) valid is = absurd ((valid_has_none job e plan valid).1 o is.1.0)
only_good job e plan (Verdicts.OffPlate k) valid is = absurd ((valid_has_none job e plan valid).2 k is.2.0)
only_good job e plan (Verdicts.Collides h) valid is = absurd ((valid_has_none job e plan valid).3 h is.3.0)

pub good_is_valid : (job : Job) (e : ℕ) (plan : Plan) (v : Verdict) → IsVerdict (scene_of_job job) e plan v → (v ≡ Verdicts.Good) ↔ Valid (scene_of_job job) e plan
good_is_valid job e plan v is = (λ g. subst (IsVerdict (scene_of_job job) e plan) g is, λ valid. only_good job e plan v valid is)

-- ---- one verdict
hits_total : (g h : Hit) → (ComesBefore g h → ⊥) → (ComesBefore h g → ⊥) → g ≡ h
hits_total g h e f =
    ap hit_by (sooner_total (Sooner (Sooner (Sooner Less))) (sooner_total (Sooner (Sooner Less)) (sooner_total (Sooner Less) (sooner_total Less less_total)))
    (g.earlier, (g.later, (g.b, (g.c, g.part)))) (h.earlier, (h.later, (h.b, (h.c, h.part)))) e f)

pub one_verdict : (job : Job) (e : ℕ) (plan : Plan) (v w : Verdict) → IsVerdict (scene_of_job job) e plan v → IsVerdict (scene_of_job job) e plan w → v ≡ w
one_verdict job e plan Verdicts.Good w is that = sym (only_good job e plan w is that)
one_verdict job e plan v Verdicts.Good is that = only_good job e plan v that is
one_verdict job e plan (Verdicts.Stray k) (Verdicts.Stray l) is that = ap Verdicts.Stray (one_first (IsStray (scene_of_job job) plan.places) Less k l less_total is that)
one_verdict job e plan (Verdicts.Stray k) (Verdicts.Absent l) is that = absurd (that.0 k is.0)
one_verdict job e plan (Verdicts.Stray k) (Verdicts.OffPlate l) is that = absurd (that.0 k is.0)
one_verdict job e plan (Verdicts.Stray k) (Verdicts.Collides l) is that = absurd (that.0 k is.0)
one_verdict job e plan (Verdicts.Absent k) (Verdicts.Stray l) is that = absurd (is.0 l that.0)
one_verdict job e plan (Verdicts.Absent k) (Verdicts.Absent l) is that = ap Verdicts.Absent (one_first (IsAbsent (scene_of_job job) plan.places) Less k l less_total is.1 that.1)
one_verdict job e plan (Verdicts.Absent k) (Verdicts.OffPlate l) is that = (let a = is.1 in absurd (that.1 k a.0))
one_verdict job e plan (Verdicts.Absent k) (Verdicts.Collides l) is that = (let a = is.1 in absurd (that.1 k a.0))
one_verdict job e plan (Verdicts.OffPlate k) (Verdicts.Stray l) is that = absurd (is.0 l that.0)
one_verdict job e plan (Verdicts.OffPlate k) (Verdicts.Absent l) is that = (let a = that.1 in absurd (is.1 l a.0))
one_verdict job e plan (Verdicts.OffPlate k) (Verdicts.OffPlate l) is that = ap Verdicts.OffPlate (one_first (IsOff (scene_of_job job) e plan.scale plan.places) Less k l less_total is.2 that.2)
one_verdict job e plan (Verdicts.OffPlate k) (Verdicts.Collides l) is that = (let a = is.2 in absurd (that.2 k a.0))
one_verdict job e plan (Verdicts.Collides k) (Verdicts.Stray l) is that = absurd (is.0 l that.0)
one_verdict job e plan (Verdicts.Collides k) (Verdicts.Absent l) is that = (let a = that.1 in absurd (is.1 l a.0))
one_verdict job e plan (Verdicts.Collides k) (Verdicts.OffPlate l) is that = (let a = that.2 in absurd (is.2 l a.0))
one_verdict job e plan (Verdicts.Collides k) (Verdicts.Collides l) is that = ap Verdicts.Collides (one_first (IsHit (scene_of_job job) plan.scale plan.places) ComesBefore k l hits_total is.3 that.3)

pub verdict_of_plan : (job : Job) (e : ℕ) (plan : Plan) (scale : ℤ) (places : List Place) (v : Verdict) → scale ≡ plan.scale → places ≡ plan.places → IsVerdict (scene_of_job job) e (record { scale = scale; places = places }) v → IsVerdict (scene_of_job job) e plan v
verdict_of_plan job e plan scale places v f g is =
    subst (λ (t : ℤ). IsVerdict (scene_of_job job) e (record { scale = t; places = plan.places }) v) f (subst (λ (t : List Place). IsVerdict (scene_of_job job) e (record { scale = scale; places = t }) v) g is)
