-- What follows at a point of a path from the orders that hold there: those of the path, and the forced ones.
--
--   cycle_earns_each     each two neighbours in a cycle of such orders are ordered on the path, or their split is earned
--   cycle_earns          so it runs along the path, or some pair's split is earned
--   looked_causes        what collides at the point is ordered the other way by the path, or forced so
--   order_is_valid       then an order of all objects that keeps the orders makes a valid plan
use Rattle.std.proofs.Common.{◌≡◌, ℕ, ◌<◌, ◌≤◌, List, [], ◌∷◌, ◌++◌, AllPairs, Contains, Bool, true, false, length, take, drop, max, get_or, refl, sym, ap, subst, ◌∙◌, arith, append_assoc, length-append, inl, inr, ◌⊎◌}
use Rattle.std.proofs.Math.Nat.{min-eq_left, min-eq_right, max-eq_left, max-eq_right}
use Rattle.std.proofs.lemmas.Bool.{cases_lt}
use Rattle.std.proofs.lemmas.List.{get_or_default}
use Rattle.std.proofs.lemmas.List.Elements.{AllZip-push, All-contains, Contains-append_left, Contains-append_right, Contains-get_or}
use Rattle.std.specs.List.{AllZip}
use Rattle.plan_laws.specs.Laws.OnPath.{before_is, is_on}
use Rattle.integer_laws.specs.Laws.Members.{In-from_contains, Contains-from_in}
use Rattle.object_orders.specs.Orders.{IsAmong, AreAmong, IsOrder, IsSimpleCycle, EachNext, StandsBefore}
use Rattle.plan_laws.specs.Ordered.{plan_of, orders_of}
use Rattle.plan_laws.specs.Laws.Ordered.{orders_hold, one_place, plan_is_valid}
use Rattle.plan_laws.specs.Looking.{OnPath, IsLooked, AreLooked, AreForced, EarnsPair, EarnsAPair, IsOnOrEarned, Causes, is_before}
use Rattle.seq_model.specs.Jobs.{scene_of_job}
use Rattle.seq_model.specs.Scenes.{Valid}
use Rattle.seq_model.specs.Splits.{Values, IsOn, CollidesAt, IsUnordered, Precedes, AreNeighbours, Earned}
use Rattle.seq_model.specs.Trees.{IsCycle, IsSoundNode}
use Rattle.seq_model.specs.declared.job.Job.{Job}
use Rattle.seq_model.specs.declared.tree.Choice.{Choice}
use Rattle.seq_model.specs.declared.tree.Choice.TheVariants as Choices
use Rattle.seq_model.specs.declared.tree.Node.TheVariants as Nodes

-- ---- cycles
turned : (R : ℕ → ℕ → Type 0) (x : ℕ) (xs : List ℕ) → IsCycle R (x ∷ xs) → IsCycle R (xs ++ x ∷ [])
turned R x [] c = absurd (omega (arith, c.0))
turned R x (y ∷ ys) c = (omega (arith, c.0, length-append ys (x ∷ [])), AllZip-push R (y ∷ ys) (ys ++ x ∷ []) x y c.1.1 c.1.0)

zip_of : (R : ℕ → ℕ → Type 0) (x : ℕ) (xs : List ℕ) (y : ℕ) → EachNext R (x ∷ xs ++ y ∷ []) → AllZip R (x ∷ xs) (xs ++ y ∷ [])
zip_of R x [] y h = (h.0, tt)
zip_of R x (z ∷ zs) y h = (h.0, zip_of R z zs y h.1)

zip_weaker : (R S : ℕ → ℕ → Type 0) → ((a b : ℕ) → R a b → S a b) → (xs ys : List ℕ) → AllZip R xs ys → AllZip S xs ys
zip_weaker R S w [] [] z = tt
zip_weaker R S w [] (y ∷ ys) z = absurd z
zip_weaker R S w (x ∷ xs) [] z = absurd z
zip_weaker R S w (x ∷ xs) (y ∷ ys) z = (w x y z.0, zip_weaker R S w xs ys z.1)

-- each pair of neighbours begins the cycle, turned: what then holds of it holds of each
abbrev Begins : (ℕ → ℕ → Type 0) → ℕ → ℕ → Type 0
Begins R a b = (others : List ℕ) × IsCycle R (a ∷ b ∷ others)

around : (R P Q : ℕ → ℕ → Type 0) → ((a b : ℕ) → P a b → Begins R a b → Q a b) → (x : ℕ) (xs : List ℕ) (y : ℕ) (front : List ℕ) → IsCycle R (x ∷ xs ++ y ∷ front)
    → AllZip P (x ∷ xs) (xs ++ y ∷ []) → AllZip Q (x ∷ xs) (xs ++ y ∷ [])
around R P Q w x [] y front c z = (w x y z.0 (front, c), tt)
around R P Q w x (v ∷ vs) y front c z = (
  w x v z.0 (vs ++ y ∷ front, c),
  around R P Q w v vs y (front ++ x ∷ []) (subst (IsCycle R) (ap (λ t. v ∷ t) (append_assoc vs (y ∷ front) (x ∷ []))) (turned R x (v ∷ vs ++ y ∷ front) c)) z.1,
)

all_around : (R P Q : ℕ → ℕ → Type 0) → ((a b : ℕ) → P a b → Begins R a b → Q a b) → (objects : List ℕ) → IsCycle R objects → IsCycle P objects → IsCycle Q objects
all_around R P Q w [] c p = absurd (omega (arith, c.0))
all_around R P Q w (x ∷ []) c p = absurd (omega (arith, c.0))
all_around R P Q w (x ∷ y ∷ ys) c p = (c.0, (w x y p.1.0 (ys, c), around R P Q w y ys x [] (turned R x (y ∷ ys) c) p.1.1))

-- all of them are the one, or one of them is the other
all_or_some : (P Q : ℕ → ℕ → Type 0) (xs ys : List ℕ) → AllZip (λ a b. P a b ⊎ Q a b) xs ys → AllZip P xs ys ⊎ ((a b : ℕ) × Q a b)
all_or_some P Q [] [] z = inl tt
all_or_some P Q [] (y ∷ ys) z = absurd z
all_or_some P Q (x ∷ xs) [] z = absurd z
all_or_some P Q (x ∷ xs) (y ∷ ys) z = by z.0 (all_or_some P Q xs ys z.1)
  where
    by : P x y ⊎ Q x y → AllZip P xs ys ⊎ ((a b : ℕ) × Q a b) → AllZip P (x ∷ xs) (y ∷ ys) ⊎ ((a b : ℕ) × Q a b)
    by (inr q) rest = inr (x, y, q)
    by (inl p) (inl all) = inl (p, all)
    by (inl p) (inr some) = inr some

-- ---- what is earned
abbrev Off : Job → List Choice → ℕ → ℕ → Type 0
Off job path a b = IsAmong (length job.objects) (a, b) × IsUnordered path a b

earns : (job : Job) (e : ℕ) (path : List Choice) (at : Values) → IsOn job e path at → (a b : ℕ) → Off job path a b → AreNeighbours job e path at a b → EarnsPair job e path a b
earns job e path at on a b off n = by (cases_lt a b)
  where
    among : IsAmong (length job.objects) (a, b)
    among = off.0

    Earns : ℕ → ℕ → Type 0
    Earns i j = IsSoundNode job e path (Nodes.Order i j) × Earned job e path (Nodes.Order i j)

    by : (a < b) ⊎ (b ≤ a) → EarnsPair job e path a b
    by (inl l) =
        let h : a ≤ b = omega (arith, l) in
        let is : Earns a b = ((l, among.1), (off.1, record { at = at; on = on; here = inr (inl n) })) in
        subst (λ i. Earns i (max a b)) (sym (min-eq_left h)) (subst (λ j. Earns a j) (sym (max-eq_right h)) is)
    by (inr h) =
        let is : Earns b a = ((omega (arith, h, among.2), among.0), ((off.1.1, off.1.0), record { at = at; on = on; here = inr (inr n) })) in
        subst (λ i. Earns i (max a b)) (sym (min-eq_right h)) (subst (λ j. Earns b j) (sym (max-eq_left h)) is)

-- each two neighbours in a cycle of the orders that hold at a point are ordered on the path, or may be split
pub cycle_earns_each : (job : Job) (e : ℕ) (path : List Choice) (at : Values) (orders : List (ℕ × ℕ)) (objects : List ℕ) → IsOn job e path at → AreAmong (length job.objects) orders
    → AreLooked job e path at orders → IsSimpleCycle orders objects → IsCycle (IsOnOrEarned job e path) objects
cycle_earns_each job e path at orders [] on among looked c = absurd (omega (arith, c.some))
cycle_earns_each job e path at orders (x ∷ xs) on among looked c =
    all_around (Precedes job e path at) (λ a b. OnPath path a b ⊎ Off job path a b) (IsOnOrEarned job e path) earned (x ∷ xs) cycle parts
  where
    zip : AllZip (λ a b. Contains orders (a, b)) (x ∷ xs) (xs ++ x ∷ [])
    zip = zip_of (λ a b. Contains orders (a, b)) x xs x c.round

    precedes : (a b : ℕ) → IsLooked job e path at a b → Precedes job e path at a b
    precedes a b (inl on) = inl on
    precedes a b (inr f) = inr f.0

    cycle : IsCycle (Precedes job e path at) (x ∷ xs)
    cycle = (c.some, zip_weaker (λ a b. Contains orders (a, b)) (Precedes job e path at) (λ a b h. precedes a b (looked a b h)) (x ∷ xs) (xs ++ x ∷ []) zip)

    part : (a b : ℕ) → Contains orders (a, b) → IsLooked job e path at a b → OnPath path a b ⊎ Off job path a b
    part a b h (inl on) = inl on
    part a b h (inr f) = inr (All-contains (IsAmong (length job.objects)) orders (a, b) among h, f.1)

    parts : IsCycle (λ a b. OnPath path a b ⊎ Off job path a b) (x ∷ xs)
    parts = (c.some, zip_weaker (λ a b. Contains orders (a, b)) (λ a b. OnPath path a b ⊎ Off job path a b) (λ a b h. part a b h (looked a b h)) (x ∷ xs) (xs ++ x ∷ []) zip)

    earned : (a b : ℕ) → OnPath path a b ⊎ Off job path a b → Begins (Precedes job e path at) a b → IsOnOrEarned job e path a b
    earned a b (inl on) begins = inl on
    earned a b (inr off) begins = inr (earns job e path at on a b off begins)

-- so it runs along the path, or some two of it may be split
pub cycle_earns : (job : Job) (e : ℕ) (path : List Choice) (at : Values) (orders : List (ℕ × ℕ)) (objects : List ℕ) → IsOn job e path at → AreAmong (length job.objects) orders
    → AreLooked job e path at orders → IsSimpleCycle orders objects → IsCycle (OnPath path) objects ⊎ EarnsAPair job e path
cycle_earns job e path at orders objects on among looked c =
    by (all_or_some (OnPath path) (EarnsPair job e path) objects (drop 1 objects ++ take 1 objects) (cycle_earns_each job e path at orders objects on among looked c).1)
  where
    by : AllZip (OnPath path) objects (drop 1 objects ++ take 1 objects) ⊎ EarnsAPair job e path → IsCycle (OnPath path) objects ⊎ EarnsAPair job e path
    by (inl all) = inl (c.some, all)
    by (inr some) = inr some

-- ---- an order
pub looked_causes : (job : Job) (e : ℕ) (path : List Choice) (at : Values) (forced : List (ℕ × ℕ)) → AreForced job e path at forced
    → Causes (length job.objects) (orders_of path ++ forced) (CollidesAt job e at)
looked_causes job e path at forced are = record { turned = λ i j l m apart hits. by i j l m apart hits (is_before path i j) (is_before path j i) refl refl }
  where
    never : (b : Bool) → b ≡ true → b ≡ false → ⊥
    never b t f = absurd (clash (sym t ∙ f))
      where
        clash : true ≡ false → ⊥
        clash e = cc

    absent : (i j : ℕ) → is_before path i j ≡ false → OnPath path i j → ⊥
    absent i j f c = never (is_before path i j) (is_on path i j (In-from_contains path (Choices.Before i j) c)) f

    by : (i j : ℕ) → i < length job.objects → j < length job.objects → (i ≡ j → ⊥) → CollidesAt job e at i j → (p q : Bool) → is_before path i j ≡ p → is_before path j i ≡ q → Contains (orders_of path ++ forced) (j, i)
    by i j l m apart hits true q ep eq = absurd (are.on_path i j apart (Contains-from_in path (Choices.Before i j) (before_is path i j ep)) hits)
    by i j l m apart hits false true ep eq = Contains-append_left (orders_of path) forced (j, i) (Contains-from_in (orders_of path) (j, i) (orders_hold path j i (before_is path j i eq)))
    by i j l m apart hits false false ep eq = Contains-append_right (orders_of path) forced (j, i) (are.unordered i j l m apart (absent i j ep, absent j i eq) hits)

no_clash : (n : ℕ) (orders : List (ℕ × ℕ)) (Clash : ℕ → ℕ → Type 0) (objects : List ℕ) → IsOrder n orders objects → Causes n orders Clash → AllPairs (λ a b. Clash a b → ⊥) objects
no_clash n orders Clash objects is causes p q d less within clash =
    let a = get_or objects p d in
    let b = get_or objects q d in
    let pw : p < length objects = omega (arith, less, within) in
    let an : a < n = (is.all a).0 (Contains-get_or objects p d pw) in
    let bn : b < n = (is.all b).0 (Contains-get_or objects q d within) in
    let apart : a ≡ b → ⊥ = λ e. is.once p q d less within e in
    let back : StandsBefore objects b a = All-contains (λ (o : ℕ × ℕ). StandsBefore objects o.0 o.1) orders (b, a) is.kept (causes.turned a b an bn apart clash) in
    let first = one_place objects is.once p back.later pw back.within (get_or_default objects p 0 d pw ∙ sym (get_or_default objects back.later 0 _ back.within ∙ back.second)) in
    let second = one_place objects is.once q back.earlier within (omega (arith, back.apart, back.within))
    (get_or_default objects q 0 d within ∙ sym (get_or_default objects back.earlier 0 _ (omega (arith, back.apart, back.within)) ∙ back.first)) in
    omega (arith, less, back.apart, first, second)

pub order_is_valid : (job : Job) (e : ℕ) (path : List Choice) (at : Values) (orders : List (ℕ × ℕ)) (objects : List ℕ) → 1 ≤ e → e ≤ job.printer.grid → IsOn job e path at → IsOrder (length job.objects) orders objects
    → Causes (length job.objects) orders (CollidesAt job e at) → Valid (scene_of_job job) e (plan_of job e at objects)
order_is_valid job e path at orders objects one grid on order causes =
    plan_is_valid job e path at orders objects one grid on order (no_clash (length job.objects) orders (CollidesAt job e at) objects order causes)
