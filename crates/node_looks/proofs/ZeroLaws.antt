-- The zero point: where some order makes it a valid plan, it is a point of the empty path, and nothing stands against an order there.
use Rattle.std.proofs.Common.{◌≡◌, ◌≢◌, ℕ, zero, suc, ◌+◌, ◌*◌, ◌<◌, ◌≤◌, List, [], ◌∷◌, ◌++◌, length, get_or, replicate, All, Contains, refl, sym, ap, ap₂, subst, ◌∙◌, arith, ℤ, pos, ◌+ℤ◌, ◌-ℤ◌, ◌*ℤ◌, inl, inr, ◌⊎◌}
use Rattle.std.proofs.lemmas.Bool.{cases_lt}
use Rattle.std.proofs.lemmas.Int.{ints}
use Rattle.std.proofs.lemmas.List.{get_or-map, get_or-replicate, length-map}
use Rattle.std.proofs.lemmas.List.Elements.{All-contains}
use Rattle.integer_laws.specs.Members.{In}
use Rattle.integer_laws.specs.Laws.Members.{In-from_contains, In-append_cases, Contains-from_in}
use Rattle.node_looks.specs.Candidates.{IsCandidate, IsForcedOrder}
use Rattle.node_looks.specs.Held.{IsOrderOf}
use Rattle.node_looks.specs.Looks.{HasZeroPlan, zero_point}
use Rattle.node_looks.specs.Sites.{Hits, HoldsAll, IsZeroSite}
use Rattle.node_looks.specs.declared.site.Site.{Site}
use Rattle.node_looks.specs.declared.survey.Candidate.{Candidate}
use Rattle.node_looks.specs.declared.survey.Candidate.TheVariants as Candidates
use Rattle.object_orders.specs.Orders.{Graph, Leads, HasCycle}
use Rattle.plan_laws.specs.Inside.{place_at}
use Rattle.plan_laws.specs.Laws.PlanPoints.{Stands, in_pairs, values_of, place_for, rank_for, valid_stands, on_of_plan, clear_of_plan}
use Rattle.plan_laws.specs.Looking.{OnPath}
use Rattle.plan_laws.specs.Ordered.{IsClear, plan_of}
use Rattle.seq_model.specs.Jobs.{object_at, scene_of_job}
use Rattle.seq_model.specs.Plates.{share_of, half_left}
use Rattle.seq_model.specs.Scenes.{Valid}
use Rattle.seq_model.specs.Splits.{Values, IsOn, CollidesAt}
use Rattle.seq_model.specs.declared.job.Job.{Job}
use Rattle.seq_model.specs.declared.plan.Place.{Place}
use Rattle.seq_model.specs.declared.plan.Plan.{Plan}

-- ---- the point of such a plan
pairs_are_zero : (f g : ℕ → ℤ) (k n : ℕ) → ((o : ℕ) → o < k + n → f o ≡ pos 0) → ((o : ℕ) → o < k + n → g o ≡ pos 0) → in_pairs f g k n ≡ replicate (2 * n) (pos 0)
pairs_are_zero f g k zero hf hg = refl
pairs_are_zero f g k (suc n) hf hg =
    ap₂ (λ x xs. x ∷ xs) (hf k (omega arith)) (ap₂ (λ x xs. x ∷ xs) (hg k (omega arith)) (pairs_are_zero f g (suc k) n (λ o l. hf o (omega arith)) (λ o l. hg o (omega arith))))
    ∙ ap (λ m. replicate m (pos 0)) (twice n)
  where
    twice : (n : ℕ) → suc (suc (2 * n)) ≡ 2 * suc n
    twice n = omega arith

back_to_zero : (u l x : ℤ) → u ≡ pos 0 → x ≡ u +ℤ pos 1 *ℤ l → x -ℤ pos 1 *ℤ l ≡ pos 0
back_to_zero u l x e f = omega (arith, ints, e, f)

abbrev zero_plan : Job → ℕ → List ℕ → Plan
zero_plan job e objects = plan_of job e (zero_point job) objects

stays : (job : Job) (e : ℕ) (objects : List ℕ) → Valid (scene_of_job job) e (zero_plan job e objects) → (o : ℕ) → o < length job.objects
    → place_for (zero_plan job e objects).places o ≡ place_at job e (pos 1) (zero_point job).u o
stays job e objects valid o l = is ∙ ap f (sym (ap (λ (p : Place). p.object) is) ∙ s.object)
  where
    f : ℕ → Place
    f = place_at job e (pos 1) (zero_point job).u

    s : Stands (zero_plan job e objects).places o
    s = valid_stands job e (zero_plan job e objects) valid o l

    r : ℕ
    r = rank_for (zero_plan job e objects).places o

    within : r < length objects
    within = let w = s.within in let m = length-map objects f in omega (arith, w, m)

    is : place_for (zero_plan job e objects).places o ≡ f (get_or objects r 0)
    is = sym (s.there (f 0)) ∙ get_or-map f objects r 0 (f 0) within

values_are : (job : Job) (e : ℕ) (objects : List ℕ) → Valid (scene_of_job job) e (zero_plan job e objects) → values_of job e (zero_plan job e objects) ≡ zero_point job
values_are job e objects valid = ap at (pairs_are_zero (λ o. (place_for (zero_plan job e objects).places o).x -ℤ pos 1 *ℤ (half_left job.printer.width (share_of job.printer.width job.printer.grid e) -ℤ (object_at job o).low.x))
    (λ o. (place_for (zero_plan job e objects).places o).y -ℤ pos 1 *ℤ (half_left job.printer.depth (share_of job.printer.depth job.printer.grid e) -ℤ (object_at job o).low.y))
    0 (length job.objects) (λ o l. x o (below o l)) (λ o l. y o (below o l)))
  where
    at : List ℤ → Values
    at u = record { d = pos 1; u = u }

    below : (o : ℕ) → o < 0 + length job.objects → o < length job.objects
    below o l = omega arith

    x : (o : ℕ) → o < length job.objects
        → (place_for (zero_plan job e objects).places o).x -ℤ pos 1 *ℤ (half_left job.printer.width (share_of job.printer.width job.printer.grid e) -ℤ (object_at job o).low.x) ≡ pos 0
    x o l = back_to_zero (get_or (zero_point job).u (2 * o) (pos 0)) (half_left job.printer.width (share_of job.printer.width job.printer.grid e) -ℤ (object_at job o).low.x) (place_for (zero_plan job e objects).places o).x (get_or-replicate (2 * length job.objects) (2 * o) (pos 0) (pos 0) (omega arith)) (ap (λ (p : Place). p.x) (stays job e objects valid o l))

    y : (o : ℕ) → o < length job.objects
        → (place_for (zero_plan job e objects).places o).y -ℤ pos 1 *ℤ (half_left job.printer.depth (share_of job.printer.depth job.printer.grid e) -ℤ (object_at job o).low.y) ≡ pos 0
    y o l = back_to_zero (get_or (zero_point job).u (2 * o + 1) (pos 0)) (half_left job.printer.depth (share_of job.printer.depth job.printer.grid e) -ℤ (object_at job o).low.y) (place_for (zero_plan job e objects).places o).y (get_or-replicate (2 * length job.objects) (2 * o + 1) (pos 0) (pos 0) (omega arith)) (ap (λ (p : Place). p.y) (stays job e objects valid o l))

pub zero_on : (job : Job) (e : ℕ) → HasZeroPlan job e → IsOn job e [] (zero_point job)
zero_on job e h = subst (IsOn job e []) (values_are job e h.0 h.1) (on_of_plan job e (zero_plan job e h.0) h.1)

pub record Ranked (job : Job) (e : ℕ) : Type 0 where
  pub rank : ℕ → ℕ
  pub clear : IsClear job e (zero_point job) rank

pub zero_ranked : (job : Job) (e : ℕ) → HasZeroPlan job e → Ranked job e
zero_ranked job e h = record {
  rank = rank_for (zero_plan job e h.0).places;
  clear = subst (λ v. IsClear job e v (rank_for (zero_plan job e h.0).places)) (values_are job e h.0 h.1) (clear_of_plan job e (zero_plan job e h.0) h.1);
}

-- ---- nothing stands against an order
rises : (job : Job) (e : ℕ) (r : Ranked job e) (a b : ℕ) → a < length job.objects → b < length job.objects → a ≢ b → CollidesAt job e (zero_point job) b a → r.rank a < r.rank b
rises job e r a b l m apart hits = by (cases_lt (r.rank a) (r.rank b))
  where
    by : (r.rank a < r.rank b) ⊎ (r.rank b ≤ r.rank a) → r.rank a < r.rank b
    by (inl h) = h
    by (inr h) =
        let ne : r.rank a ≢ r.rank b = r.clear.own a b l m apart in
        let less : r.rank b < r.rank a = omega arith in
        absurd (r.clear.clear b a m l less hits)

none_on : (i j : ℕ) → OnPath [] i j → ⊥
none_on i j c = In-from_contains [] _ c

pub zero_candidate : (site : Site) (c : Candidate) → IsZeroSite site → IsCandidate site c → ⊥
zero_candidate site (Candidates.Side kept) z is = none_on kept.now.contact.i kept.now.contact.j (subst (λ p. OnPath p kept.now.contact.i kept.now.contact.j) z.root is.ordered)
zero_candidate site (Candidates.Order i j) z is =
    let r = zero_ranked site.job.now site.extent z.plan in
    let low : i < j = is.0 in
    let high : j < length site.job.now.objects = is.1 in
    let l : i < length site.job.now.objects = omega arith in
    let up = rises site.job.now site.extent r j i high l (λ (s : j ≡ i). absurd (omega arith)) (at_zero i j is.3) in
    let down = rises site.job.now site.extent r i j l high (λ (s : i ≡ j). absurd (omega arith)) (at_zero j i is.4) in
    omega arith
  where
    at_zero : (a b : ℕ) → Hits site a b → CollidesAt site.job.now site.extent (zero_point site.job.now) a b
    at_zero a b hits = subst (λ v. CollidesAt site.job.now site.extent v a b) z.zero hits

leads_rise : (orders : List (ℕ × ℕ)) (rank : ℕ → ℕ) → ((a b : ℕ) → Contains orders (a, b) → rank a < rank b) → (a b : ℕ) → Leads orders a b → rank a < rank b
leads_rise orders rank rise a b (Leads.one x y h) = rise x y h
leads_rise orders rank rise a b (Leads.more x y z h k) =
    let p = rise x y h in
    let q = leads_rise orders rank rise y z k in
    omega (arith, p, q)

-- so an error of an order of all is none there
pub zero_acyclic : (site : Site) (g : Graph) (forced : List (ℕ × ℕ)) → IsZeroSite site → HoldsAll site g → All (IsForcedOrder site) forced → HasCycle (g.held ++ forced) → ⊥
zero_acyclic site g forced z holds each c = below (leads_rise (g.held ++ forced) r.rank (λ a b i. rise a b (In-append_cases g.held forced (a, b) (In-from_contains (g.held ++ forced) (a, b) i))) c.0 c.0 c.1)
  where
    n : ℕ
    n = length site.job.now.objects

    r : Ranked site.job.now site.extent
    r = zero_ranked site.job.now site.extent z.plan

    rise : (a b : ℕ) → In (a, b) g.held ⊎ In (a, b) forced → r.rank a < r.rank b
    rise a b (inl i) =
        let o = All-contains (IsOrderOf site.path.now n) g.held (a, b) holds.only (Contains-from_in g.held (a, b) i) in
        absurd (none_on a b (subst (λ p. OnPath p a b) z.root o.1))
    rise a b (inr i) =
        let o = All-contains (IsForcedOrder site) forced (a, b) each (Contains-from_in forced (a, b) i) in
        rises site.job.now site.extent r a b o.0.0 o.0.1 o.0.2 (subst (λ v. CollidesAt site.job.now site.extent v b a) z.zero o.1.0)

    below : {m : ℕ} → m < m → ⊥
    below h = absurd (omega (arith, h))
