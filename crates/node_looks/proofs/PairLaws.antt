-- By the maximal contacts of two objects: where none of them collides at a point, the objects don't.
use Rattle.std.proofs.Common.{◌≡◌, ◌≢◌, ℕ, ◌+◌, ◌<◌, ◌≤◌, List, length, get_or, Option, Some, None, MatchOption, sym, ap, subst, ◌∙◌, arith, pos, ◌≤ℤ◌, inl, inr, ◌⊎◌}
use Rattle.std.proofs.lemmas.Bool.{cases_lt}
use Rattle.std.proofs.lemmas.List.{get_or_default}
use Rattle.integer_laws.specs.Laws.Members.{In-map_cases, Contains-from_in}
use Rattle.model_laws.specs.Laws.Collisions.{collides_by_contact}
use Rattle.node_looks.specs.Candidates.{IsHit, IsNearest}
use Rattle.node_looks.specs.Sites.{ContactHits, Hits, IsSite, values}
use Rattle.node_looks.specs.declared.hits.Hit.{Hit}
use Rattle.node_looks.specs.declared.site.Site.{Site}
use Rattle.pair_constraints.specs.Maximal.{IsPair}
use Rattle.pair_constraints.specs.declared.kept.Kept.{Kept}
use Rattle.search_laws.specs.Covering.{Covers}
use Rattle.search_laws.specs.Laws.Covering.{inner_of_covered}
use Rattle.search_laws.specs.Laws.Gaps.{area_of_contact}
use Rattle.search_laws.specs.Laws.Places.{overlap_is_inner}
use Rattle.seq_model.specs.Contacts.{ContactCollides, IsContact, points_of}
use Rattle.seq_model.specs.Jobs.{zone_at, part_at}
use Rattle.seq_model.specs.Points.{Point, IsPoint, minus}
use Rattle.seq_model.specs.Splits.{Values, CollidesAt, ContactCollidesAt}
use Rattle.seq_model.specs.Systems.{place_of}
use Rattle.seq_model.specs.declared.job.Job.{Job}
use Rattle.seq_model.specs.declared.tree.Contact.{Contact}

-- ---- what covers a contact that collides, collides
covered_hits : (job : Job) (c k : Contact) (p r : Point) → IsPoint p → IsPoint r → Covers (points_of job k) (points_of job c) → IsContact job k → ContactCollides job c p r → ContactCollides job k p r
covered_hits job c k p r at place covers is hits =
    let inner = (overlap_is_inner (zone_at job c.i c.zi).corners (zone_at job c.j c.zj).corners (part_at job c.part).corners p r at place).0 hits.overlap in
    let covered = inner_of_covered (points_of job c) (points_of job k) (minus r p) (area_of_contact job c hits.is) (area_of_contact job k is) covers inner in
    record { is = is; overlap = (overlap_is_inner (zone_at job k.i k.zi).corners (zone_at job k.j k.zj).corners (part_at job k.part).corners p r at place).1 covered }

none_hits : (job : Job) (e : ℕ) (at : Values) (i j : ℕ) (kept : List Kept) → pos 1 ≤ℤ at.d → IsPair job i j kept → i ≢ j
    → ((m : ℕ) (d : Kept) → m < length kept → ContactCollidesAt job e at (get_or kept m d).contact → ⊥) → CollidesAt job e at i j → ⊥
none_hits job e at i j kept one pair apart none hits =
    let c = collides_by_contact job i j (place_of job e at.d at.u i) (place_of job e at.d at.u j) apart hits in
    let k = pair.enough c.contact (record { is = c.collides.is; earlier = c.earlier; later = c.later }) in
    let x = In-map_cases (λ (k : Kept). k.contact) kept k.by k.member in
    let by = covered_hits job c.contact k.by (place_of job e at.d at.u i) (place_of job e at.d at.u j) (record { positive = one }) (record { positive = one }) k.covers k.is c.collides in
    let place = Contains-from_in kept x.0 x.1 in
    let a : i ≡ x.0.contact.i = sym (ap (λ (t : Contact). t.i) (sym x.2) ∙ k.earlier ∙ c.earlier) in
    let b : j ≡ x.0.contact.j = sym (ap (λ (t : Contact). t.j) (sym x.2) ∙ k.later ∙ c.later) in
    let here : ContactCollides job x.0.contact (place_of job e at.d at.u i) (place_of job e at.d at.u j) = subst (λ t. ContactCollides job t (place_of job e at.d at.u i) (place_of job e at.d at.u j)) x.2 by in
    none place.0 x.0 place.1 (subst (λ (t : Kept). ContactCollidesAt job e at t.contact) (sym place.2)
    (subst (λ t. ContactCollides job x.0.contact (place_of job e at.d at.u t) (place_of job e at.d at.u x.0.contact.j)) a
    (subst (λ t. ContactCollides job x.0.contact (place_of job e at.d at.u i) (place_of job e at.d at.u t)) b here)))

-- ---- one contact more
pub nearest_past : (site : Site) (i j k : ℕ) (kept : List Kept) (best : Option Hit) (x : Kept) → k < length kept → get_or kept k x ≡ x → (ContactHits site x.contact → ⊥)
    → IsNearest site i j k kept best → IsNearest site i j (k + 1) kept best
nearest_past site i j k kept (Some h) x l is clear near = near
nearest_past site i j k kept None x l is clear near = λ m d below. by m d below
  where
    by : (m : ℕ) (d : Kept) → m < k + 1 → ContactHits site (get_or kept m d).contact → ⊥
    by m d below = which (cases_lt m k)
      where
        at_end : k ≤ m → get_or kept m d ≡ x
        at_end h = let same : m ≡ k = omega arith in ap (λ n. get_or kept n d) same ∙ get_or_default kept k d x l ∙ is

        which : (m < k) ⊎ (k ≤ m) → ContactHits site (get_or kept m d).contact → ⊥
        which (inl h) = near m d h
        which (inr h) = λ hits. clear (subst (λ (t : Kept). ContactHits site t.contact) (at_end h) hits)

pub nearest_more : (site : Site) (i j k n : ℕ) (kept : List Kept) (best : Option Hit) (new : Hit) (hit : Hit) → IsHit site i j hit.kept.now → (new ≡ hit) ⊎ (Some new ≡ best)
    → IsNearest site i j k kept best → IsNearest site i j n kept (Some new)
nearest_more site i j k n kept best new hit is (inl same) near = subst (λ (h : Hit). IsHit site i j h.kept.now) (sym same) is
nearest_more site i j k n kept None new hit is (inr same) near = absurd (some_none same)
  where
    some_none : {x : Hit} → Some x ≡ None → ⊥
    some_none e = cc
nearest_more site i j k n kept (Some old) new hit is (inr same) near = subst (λ (h : Hit). IsHit site i j h.kept.now) (sym (some_same same)) near
  where
    some_same : {x y : Hit} → Some x ≡ Some y → x ≡ y
    some_same e = cc

pub nearest_hit : (site : Site) (i j : ℕ) (kept : List Kept) (best : Option Hit) → IsSite site → IsPair site.job.now i j kept → i ≢ j → IsNearest site i j (length kept) kept best
    → MatchOption best (Hits site i j → ⊥) (λ h. IsHit site i j h.kept.now)
nearest_hit site i j kept None is pair apart near = none_hits site.job.now site.extent (values site) i j kept is.point.one pair apart near
nearest_hit site i j kept (Some h) is pair apart near = near
