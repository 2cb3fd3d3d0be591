-- What an order of all objects and a cycle of them show, where no candidate is left.
use Rattle.std.proofs.Common.{◌≡◌, ◌≢◌, ℕ, ◌<◌, List, ◌++◌, length, get_or, take, drop, All, Contains, Bool, true, false, refl, sym, subst, arith, inl, inr}
use Rattle.std.proofs.lemmas.List.Elements.{All-append, All-contains, AllZip-get_or, Contains-append_left, Contains-append_right, Contains-get_or}
use Rattle.node_looks.proofs.OrderLaws.{cycle_of, not_on, on_path}
use Rattle.node_looks.proofs.SurveyLaws.{survey_forces}
use Rattle.node_looks.specs.Candidates.{AreSettled, IsForcedOrder}
use Rattle.node_looks.specs.Sites.{Hits, HoldsAll, IsOnOrEarnedAt, IsSite, plan_of_site, values}
use Rattle.node_looks.specs.declared.site.Site.{Site}
use Rattle.object_orders.specs.Orders.{Graph, IsAmong, IsOrder, IsSimpleCycle}
use Rattle.plan_laws.specs.Laws.Looking.{cycle_earns_each, order_is_valid}
use Rattle.plan_laws.specs.Looking.{AreForced, Causes, IsLooked, is_before}
use Rattle.seq_model.specs.Jobs.{scene_of_job}
use Rattle.seq_model.specs.Scenes.{Valid}
use Rattle.seq_model.specs.Trees.{IsCycle}

held_causes : (site : Site) (g : Graph) (forced : List (ℕ × ℕ)) → HoldsAll site g → AreForced site.job.now site.extent site.path.now (values site) forced
    → Causes (length site.job.now.objects) (g.held ++ forced) (Hits site)
held_causes site g forced holds are = record { turned = λ i j l m apart hits. by i j l m apart hits (is_before site.path.now i j) refl (is_before site.path.now j i) refl }
  where
    by : (i j : ℕ) → i < length site.job.now.objects → j < length site.job.now.objects → i ≢ j → Hits site i j → (p : Bool) → is_before site.path.now i j ≡ p → (q : Bool) → is_before site.path.now j i ≡ q
        → Contains (g.held ++ forced) (j, i)
    by i j l m apart hits true ep q eq = absurd (are.on_path i j apart (on_path site.path.now i j ep) hits)
    by i j l m apart hits false ep true eq =
        Contains-append_left g.held forced (j, i) (holds.all j i m l (λ s. apart (sym s)) (inl m) (on_path site.path.now j i eq))
    by i j l m apart hits false ep false eq =
        Contains-append_right g.held forced (j, i) (are.unordered i j l m apart (not_on site.path.now i j ep, not_on site.path.now j i eq) hits)

pub order_makes_plan : (site : Site) (g : Graph) (forced : List (ℕ × ℕ)) (objects : List ℕ) → IsSite site → HoldsAll site g
    → AreSettled site (length site.job.now.objects) 0 forced → IsOrder g.objects (g.held ++ forced) objects → Valid (scene_of_job site.job.now) site.extent (plan_of_site site objects)
order_makes_plan site g forced objects is holds are order =
    order_is_valid site.job.now site.extent site.path.now (values site) (g.held ++ forced) objects is.from_one is.to_grid is.on
    (subst (λ n. IsOrder n (g.held ++ forced) objects) holds.objects order) (held_causes site g forced holds (survey_forces site forced are))

pub order_known : (n m : ℕ) (orders : List (ℕ × ℕ)) (objects : List ℕ) → n ≡ m → IsOrder n orders objects → All (λ o. o < m) objects
order_known n m orders objects e order = λ k d l. subst (λ t. get_or objects k d < t) e ((order.all (get_or objects k d)).0 (Contains-get_or objects k d l))

-- ---- cycles
abbrev IsLookedOrder : Site → ℕ × ℕ → Type 0
IsLookedOrder site o = IsAmong (length site.job.now.objects) o × IsLooked site.job.now site.extent site.path.now (values site) o.0 o.1

looked : (site : Site) (g : Graph) (forced : List (ℕ × ℕ)) → HoldsAll site g → All (IsForcedOrder site) forced → All (IsLookedOrder site) (g.held ++ forced)
looked site g forced holds each =
    All-append (IsLookedOrder site) g.held forced (λ k d l. let o = holds.only k d l in (o.0, inl o.1)) (λ k d l. let o = each k d l in (o.0, inr (o.1, o.2)))

pub cycle_earns : (site : Site) (g : Graph) (forced : List (ℕ × ℕ)) (objects : List ℕ) → IsSite site → HoldsAll site g
    → All (IsForcedOrder site) forced → IsSimpleCycle (g.held ++ forced) objects → IsCycle (IsOnOrEarnedAt site) objects
cycle_earns site g forced objects is holds each c =
    let all = looked site g forced holds each in
    cycle_earns_each site.job.now site.extent site.path.now (values site) (g.held ++ forced) objects is.on (λ k d l. (all k d l).0)
    (λ a b i. (All-contains (IsLookedOrder site) (g.held ++ forced) (a, b) all i).1) c

pub cycle_known : (site : Site) (g : Graph) (forced : List (ℕ × ℕ)) (objects : List ℕ) → HoldsAll site g
    → All (IsForcedOrder site) forced → IsSimpleCycle (g.held ++ forced) objects → All (λ o. o < 16) objects
cycle_known site g forced objects holds each c = λ k d l.
    let all = looked site g forced holds each in
    let i = AllZip-get_or (λ a b. Contains (g.held ++ forced) (a, b)) objects (drop 1 objects ++ take 1 objects) k d 0 (cycle_of (g.held ++ forced) objects c).1 l in
    let o = All-contains (IsLookedOrder site) (g.held ++ forced) _ all i in
    let small = o.0.0 in
    let few = site.job.now.sound.few in
    omega (arith, small, few)
