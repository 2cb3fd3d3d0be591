-- Scenes that agree have the same first fault of a plan.
use Rattle.std.proofs.Common.{◌≡◌, ℕ, zero, suc, ◌+◌, ◌<◌, ◌≤◌, ℤ, ◌≤ℤ◌, ◌<ℤ◌, ◌⊎◌, inl, inr, List, [], ◌∷◌, length, All, Option, Some, None, refl, sym, ap, subst, arith}
use Rattle.std.proofs.lemmas.Bool.{cases_lt}
use Rattle.std.proofs.lemmas.Int.{ints, by_lt_z}
use Rattle.std.proofs.lemmas.List.Elements.{All-nil, All-cons}
use Rattle.std.specs.List.{AllZip}
use Rattle.std.specs.Prelude.{MatchOption, slice_index_or}
use Rattle.integer_laws.specs.Members.{In}
use Rattle.integer_laws.specs.Laws.Members.{All-in, Contains-from_in, In-from_contains}
use Rattle.mesh_slices.specs.Agreement.{Agree, SamePart}
use Rattle.mesh_slices.specs.Laws.Agreeing.{agree_back, lies_in_back, overlap_back, same_region, valid_back}
use Rattle.plan_audit.specs.Faults.{FirstAbsent, FirstHit, FirstOff, FirstStray, HasSpotOff, IsAbsent, IsHit, IsOff, IsStray, IsVerdict, ComesBefore, nth, part_of}
use Rattle.plan_audit.specs.Firsts.{IsFirst, Less}
use Rattle.plan_audit.specs.declared.verdict.Hit.{Hit}
use Rattle.plan_audit.specs.declared.verdict.Verdict.{Verdict}
use Rattle.plan_audit.specs.declared.verdict.Verdict.TheVariants as Verdicts
use Rattle.seq_model.specs.Jobs.{no_part}
use Rattle.seq_model.specs.Outlines.{Within}
use Rattle.seq_model.specs.Plates.{region_of}
use Rattle.seq_model.specs.Points.{at_spot, place_point}
use Rattle.seq_model.specs.Scenes.{LiesIn, Meets, Scene}
use Rattle.seq_model.specs.declared.plan.Place.{Place}
use Rattle.seq_model.specs.declared.plan.Plan.{Plan}
use Rattle.seq_model.specs.declared.plate.Region.{Region}
use Rattle.seq_model.specs.declared.printer.Part.{Part}
use Rattle.seq_model.specs.declared.printer.Spot.{Spot}

-- ---- the first of what is the same
first_same : {X : Type 0} (P Q : X → Type 0) (B : X → X → Type 0) → ((x : X) → P x → Q x) → ((x : X) → Q x → P x) → (r : Option X) → IsFirst P B r → IsFirst Q B r
first_same P Q B to from None none = λ x q. none x (from x q)
first_same P Q B to from (Some x) is = (to x is.0, λ y q before. is.1 y (from y q) before)

-- ---- strays and absent objects
stray_back : (s t : Scene) → Agree s t → (places : List Place) (k : ℕ) → IsStray s places k → IsStray t places k
stray_back s t a places k (h, inl far) = (h, inl (subst (λ n. n ≤ (nth places k).object) a.objects far))
stray_back s t a places k (h, inr below) = (h, inr below)

absent_back : (s t : Scene) → Agree s t → (places : List Place) (o : ℕ) → IsAbsent s places o → IsAbsent t places o
absent_back s t a places o (h, none) = (subst (λ n. o < n) a.objects h, none)

known : (s : Scene) (places : List Place) → FirstStray s places None → (k : ℕ) → k < length places → (nth places k).object < s.objects
known s places none k h = by (cases_lt (nth places k).object s.objects)
  where
    by : ((nth places k).object < s.objects) ⊎ (s.objects ≤ (nth places k).object) → (nth places k).object < s.objects
    by (inl less) = less
    by (inr far) = absurd (none k (h, inl far))

-- ---- places off the plate
decide : (region : Region) (scale : ℤ) (place : Place) (spot : Spot) → LiesIn region scale place spot ⊎ (LiesIn region scale place spot → ⊥)
decide region scale place spot =
    by_lt_z _ _ (λ w. inr (λ l. over l.west w)) (λ west.
    by_lt_z _ _ (λ e. inr (λ l. over l.east e)) (λ east.
    by_lt_z _ _ (λ s. inr (λ l. over l.south s)) (λ south.
    by_lt_z _ _ (λ n. inr (λ l. over l.north n)) (λ north.
    inl (record { west = west; east = east; south = south; north = north })))))
  where
    over : {x y : ℤ} → x ≤ℤ y → y <ℤ x → ⊥
    over h l = absurd (omega (arith, ints))

record Off (region : Region) (scale : ℤ) (place : Place) (T : List Spot) : Type 0 where
  spot : Spot
  member : In spot T
  off : LiesIn region scale place spot → ⊥

some_off : (region : Region) (scale : ℤ) (place : Place) (T : List Spot) → (All (LiesIn region scale place) T → ⊥) → Off region scale place T
some_off region scale place [] h = absurd (h (All-nil (LiesIn region scale place)))
some_off region scale place (t ∷ T) h = by (decide region scale place t) (λ g. some_off region scale place T g)
  where
    by : LiesIn region scale place t ⊎ (LiesIn region scale place t → ⊥) → ((All (LiesIn region scale place) T → ⊥) → Off region scale place T) → Off region scale place (t ∷ T)
    by (inl l) later = (let o = later (λ all. h (All-cons (LiesIn region scale place) t T l all)) in record { spot = o.spot; member = inr o.member; off = o.off })
    by (inr off) later = record { spot = t; member = inl refl; off = off }

off_back : (s t : Scene) → Agree s t → (e : ℕ) (scale : ℤ) (place : Place) → place.object < s.objects → HasSpotOff s e scale place → HasSpotOff t e scale place
off_back s t a e scale place h off =
    let o = place.object in
    let S = s.spots o off.band in
    let T = t.spots o off.band in
    let region = region_of s.width s.depth s.grid e in
    let same = a.outlines o off.band h off.below_count in
    let within : Within T (at_spot off.spot) = All-in (λ x. Within T (at_spot x)) S off.spot same.within_second (In-from_contains S off.spot off.member) in
    let found = some_off region scale place T (λ all. off.so (lies_in_back region scale place T off.spot all within)) in
    record {
      band = off.band;
      spot = found.spot;
      below_count = subst (λ n. off.band < n) (a.bands o h) off.below_count;
      member = Contains-from_in T found.spot found.member;
      so = subst (λ (r : Region). LiesIn r scale place found.spot → ⊥) (same_region s t e a) found.off;
    }

-- ---- hits
nth_same : (ps qs : List Part) → AllZip SamePart ps qs → (k : ℕ) → k < length ps → SamePart (slice_index_or ps k no_part) (slice_index_or qs k no_part)
nth_same [] qs z k h = absurd (omega (arith, h))
nth_same (p ∷ ps) [] z k h = absurd z
nth_same (p ∷ ps) (q ∷ qs) z zero h = z.0
nth_same (p ∷ ps) (q ∷ qs) z (suc k) h = nth_same ps qs z.1 k (omega (arith, h))

as_many : (ps qs : List Part) → AllZip SamePart ps qs → length ps ≡ length qs
as_many [] [] z = refl
as_many [] (q ∷ qs) z = absurd z
as_many (p ∷ ps) [] z = absurd z
as_many (p ∷ ps) (q ∷ qs) z = ap suc (as_many ps qs z.1)

meets_back : (p q : Part) (b c : ℕ) → SamePart p q → Meets q b c → Meets p b c
meets_back p q b c s m = record {
  from_low = subst (λ l. b + l ≤ c) (sym s.lo) m.from_low;
  to_high = subst (λ h. MatchOption h (Unit {0}) (λ hi. c ≤ b + hi)) (sym s.hi) m.to_high;
}

-- a hit of the second scene is one of the first
hit_back : (s t : Scene) → Agree s t → (scale : ℤ) (places : List Place) → ((k : ℕ) → k < length places → (nth places k).object < s.objects) → (h : Hit) → IsHit t scale places h → IsHit s scale places h
hit_back s t a scale places known h x =
    let i = (nth places h.earlier).object in
    let j = (nth places h.later).object in
    let known_i = known h.earlier (before x.in_order x.stands) in
    let known_j = known h.later x.stands in
    let part = subst (λ n. h.part < n) (sym (as_many s.parts t.parts a.parts)) x.part_of_scene in
    let b_in = subst (λ n. h.b < n) (sym (a.bands j known_j)) x.band_of_later in
    let c_in = subst (λ n. h.c < n) (sym (a.bands i known_i)) x.band_of_earlier in
    let same = nth_same s.parts t.parts a.parts h.part part in
    record {
      in_order = x.in_order;
      stands = x.stands;
      band_of_later = b_in;
      band_of_earlier = c_in;
      part_of_scene = part;
      meets = meets_back (part_of s h.part) (part_of t h.part) h.b h.c same x.meets;
      overlap = overlap_back (place_point scale (nth places h.earlier)) (place_point scale (nth places h.later)) (a.outlines i h.c known_i c_in) (a.outlines j h.b known_j b_in) same.outline x.overlap;
    }
  where
    before : {m n l : ℕ} → m < n → n < l → m < l
    before p q = omega arith

-- ---- verdicts
module _ (s t : Scene) (a : Agree s t) (e : ℕ) (plan : Plan) where
  strays : (r : Option ℕ) → FirstStray s plan.places r → FirstStray t plan.places r
  strays r f = first_same (IsStray s plan.places) (IsStray t plan.places) Less (stray_back s t a plan.places) (stray_back t s (agree_back s t a) plan.places) r f

  absents : (r : Option ℕ) → FirstAbsent s plan.places r → FirstAbsent t plan.places r
  absents r f = first_same (IsAbsent s plan.places) (IsAbsent t plan.places) Less (absent_back s t a plan.places) (absent_back t s (agree_back s t a) plan.places) r f

  offs : FirstStray s plan.places None → (r : Option ℕ) → FirstOff s e plan.scale plan.places r → FirstOff t e plan.scale plan.places r
  offs none r f = first_same (IsOff s e plan.scale plan.places) (IsOff t e plan.scale plan.places) Less
      (λ k x. (x.0, off_back s t a e plan.scale (nth plan.places k) (known s plan.places none k x.0) x.1))
      (λ k x. (x.0, off_back t s (agree_back s t a) e plan.scale (nth plan.places k) (known t plan.places (strays None none) k x.0) x.1)) r f

  hits : FirstStray s plan.places None → (r : Option Hit) → FirstHit s plan.scale plan.places r → FirstHit t plan.scale plan.places r
  hits none r f = first_same (IsHit s plan.scale plan.places) (IsHit t plan.scale plan.places) ComesBefore
      (λ h x. hit_back t s (agree_back s t a) plan.scale plan.places (known t plan.places (strays None none)) h x)
      (λ h x. hit_back s t a plan.scale plan.places (known s plan.places none) h x) r f

  pub same_verdict : (v : Verdict) → IsVerdict s e plan v → IsVerdict t e plan v
  same_verdict Verdicts.Good is = valid_back s t a e plan is
  same_verdict (Verdicts.Stray k) is = strays (Some k) is
  same_verdict (Verdicts.Absent o) is = (strays None is.0, absents (Some o) is.1)
  same_verdict (Verdicts.OffPlate k) is = (strays None is.0, absents None is.1, offs is.0 (Some k) is.2)
  same_verdict (Verdicts.Collides h) is = (strays None is.0, absents None is.1, offs is.0 None is.2, hits is.0 (Some h) is.3)
