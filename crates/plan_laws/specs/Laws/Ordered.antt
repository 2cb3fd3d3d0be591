-- A point of a path with an order of all objects in which nothing collides is a valid plan, and a valid plan is one of the empty path.
--
--   plan_is_valid                such a point makes a valid plan
--   point_of_plan                and a valid plan such a point
--   plan_again                   whose plan it is again
--   plans_are_points             both ways
--   rank_in objects o            how many stand before o in the order
--   point_keeps, point_is_clear  by these ranks such a point keeps the path's orders, and is clear
use Rattle.std.proofs.Common.{◌≡◌, ◌≢◌, ℕ, zero, suc, ◌+◌, ◌<◌, ◌≤◌, List, [], ◌∷◌, length, map, get_or, refl, sym, subst, ap, ◌∙◌, arith, ℤ, pos, ◌≤ℤ◌, All, AllPairs, ◌++◌, Bool, true, false, cond, Contains, inl, inr, ◌⊎◌, ◌↔◌}
use Rattle.std.proofs.lemmas.Bool.{cases_lt}
use Rattle.std.proofs.lemmas.Bool.Decides.{nat_tests}
use Rattle.std.proofs.lemmas.List.{length-map, get_or-map, get_or_default}
use Rattle.std.proofs.lemmas.List.Elements.{All-nil, All-map, All-get_or, All-contains, Contains-get_or}
use Rattle.std.proofs.lemmas.List.Sums.{sum_by-cons}
use Rattle.std.specs.Prelude.{count_by, nat_eq}
use Rattle.integer_laws.specs.Members.{In}
use Rattle.integer_laws.specs.Laws.Members.{In-from_contains, Contains-from_in, In-append_left, All-in, All-from_in}
use Rattle.object_orders.specs.Orders.{IsOrder, StandsBefore}
use Rattle.plan_laws.specs.Inside.{place_at, IsInside, IsBounded}
use Rattle.plan_laws.specs.Laws.Inside.{inside_where_bounded}
use Rattle.plan_laws.specs.Laws.PlanPoints.{same_number, values_of, place_for, rank_for, place_again, valid_stands, on_of_plan, clear_of_plan}
use Rattle.plan_laws.specs.Ordered.{Keeps, IsClear, plan_of, AreApart, orders_of, OrderedPoint}
use Rattle.seq_model.specs.Jobs.{scene_of_job, no_place}
use Rattle.seq_model.specs.Points.{Point, place_point}
use Rattle.seq_model.specs.Scenes.{Collides, Valid}
use Rattle.seq_model.specs.Splits.{Values, IsOn, CollidesAt}
use Rattle.seq_model.specs.Systems.{bounds_of, side_rows, row_value}
use Rattle.seq_model.specs.declared.job.Job.{Job}
use Rattle.seq_model.specs.declared.plan.Place.{Place}
use Rattle.seq_model.specs.declared.plan.Plan.{Plan}
use Rattle.seq_model.specs.declared.tree.Choice.{Choice}
use Rattle.seq_model.specs.declared.tree.Choice.TheVariants as Choices

-- ---- each object once
pub count_mapped : (job : Job) (e : ℕ) (d : ℤ) (u : List ℤ) (o : ℕ) (objects : List ℕ) → count_by (λ (p : Place). nat_eq p.object o) (map (place_at job e d u) objects) ≡ count_by (λ k. nat_eq k o) objects
count_mapped job e d u o [] = refl
count_mapped job e d u o (k ∷ objects) =
    sum_by-cons (λ (p : Place). cond (nat_eq p.object o) 1 0) (place_at job e d u k) (map (place_at job e d u) objects)
    ∙ ap (λ t. cond (nat_eq k o) 1 0 + t) (count_mapped job e d u o objects)
    ∙ sym (sum_by-cons (λ (m : ℕ). cond (nat_eq m o) 1 0) k objects)

pub number_same : (a b : ℕ) → a ≡ b → nat_eq a b ≡ true
number_same a b e = grind (arith, nat_tests)

pub not_same : (a b : ℕ) → (a ≡ b → ⊥) → nat_eq a b ≡ false
not_same a b n = by (nat_eq a b) refl
  where
    by : (t : Bool) → nat_eq a b ≡ t → nat_eq a b ≡ false
    by true q = absurd (n (same_number a b q))
    by false q = q

pub added : (t : Bool) (s c n : ℕ) → s ≡ cond t 1 0 + c → t ≡ false → c ≡ n → s ≡ n
added true s c n e q r = absurd (clash q)
  where
    clash : true ≡ false → ⊥
    clash e = cc
added false s c n e q r = omega (arith, e, r)

pub count_none : (o : ℕ) (objects : List ℕ) → (In o objects → ⊥) → count_by (λ k. nat_eq k o) objects ≡ 0
count_none o [] n = refl
count_none o (k ∷ objects) n =
    added (nat_eq k o) _ _ 0 (sum_by-cons (λ (m : ℕ). cond (nat_eq m o) 1 0) k objects) (not_same k o (λ e. n (inl (sym e)))) (count_none o objects (λ i. n (inr i)))

pub count_one : (o : ℕ) (objects : List ℕ) → AllPairs (λ a b. a ≢ b) objects → In o objects → count_by (λ k. nat_eq k o) objects ≡ 1
count_one o [] once i = absurd i
count_one o (k ∷ objects) once (inl e) =
    sum_by-cons (λ (m : ℕ). cond (nat_eq m o) 1 0) k objects
    ∙ (ap (λ t. cond t 1 0 + count_by (λ m. nat_eq m o) objects) (number_same k o (sym e)) ∙ ap (λ t. 1 + t) (count_none o objects (λ i. again i)))
  where
    again : In o objects → ⊥
    again i = let c = Contains-from_in objects o i in once 0 (suc c.0) o (omega arith) (omega (arith, c.1)) (sym e ∙ sym c.2)
count_one o (k ∷ objects) once (inr i) =
    added (nat_eq k o) _ _ 1 (sum_by-cons (λ (m : ℕ). cond (nat_eq m o) 1 0) k objects) (not_same k o (λ e. apart e)) (count_one o objects (λ a b d l h. once (suc a) (suc b) d (omega (arith, l)) (omega (arith, h))) i)
  where
    apart : k ≡ o → ⊥
    apart e = let c = Contains-from_in objects o i in once 0 (suc c.0) o (omega arith) (omega (arith, c.1)) (e ∙ sym c.2)

-- ---- a point is a plan
bounded_on : (job : Job) (e : ℕ) (path : List Choice) (at : Values) → IsOn job e path at → IsBounded job e at.d at.u
bounded_on job e path at on = record {
  coordinates = on.meets.coordinates;
  each = All-left (λ row. pos 0 ≤ℤ row_value at.d at.u row) (bounds_of job e 0 job.objects) (side_rows job e path) on.meets.each;
}
  where
    All-left : {X : Type 0} (P : X → Type 0) (xs ys : List X) → All P (xs ++ ys) → All P xs
    All-left P xs ys all = All-from_in P xs (λ x i. All-in P (xs ++ ys) x all (In-append_left xs ys x i))

pub plan_is_valid : (job : Job) (e : ℕ) (path : List Choice) (at : Values) (orders : List (ℕ × ℕ)) (objects : List ℕ) → 1 ≤ e → e ≤ job.printer.grid → IsOn job e path at → IsOrder (length job.objects) orders objects
    → AreApart job e at objects → Valid (scene_of_job job) e (plan_of job e at objects)
plan_is_valid job e path at orders objects one grid on order apart = record {
  from_one = one;
  to_grid = grid;
  scale = on.meets.positive;
  known = All-map (λ (p : Place). p.object < length job.objects) (place_at job e at.d at.u) objects (All-from_in (λ o. o < length job.objects) objects (λ o i. (order.all o).0 (Contains-from_in objects o i)));
  once = λ o l. count_mapped job e at.d at.u o objects ∙ count_one o objects order.once (In-from_contains objects o ((order.all o).1 l));
  inside = All-map (IsInside job e at.d) (place_at job e at.d at.u) objects (All-from_in (λ o. IsInside job e at.d (place_at job e at.d at.u o)) objects
      (λ o i. inside_where_bounded job e at.d at.u on.meets.positive on.many (bounded_on job e path at on) o ((order.all o).0 (Contains-from_in objects o i))));
  apart = λ i j d l h. free i j d l (omega (arith, h, length-map objects (place_at job e at.d at.u)));
}
  where
    Free : Place → Place → Type 0
    Free p r = Collides (scene_of_job job) p.object (place_point at.d p) r.object (place_point at.d r) → ⊥

    free : (i j : ℕ) (d : Place) → i < j → j < length objects → Free (get_or (map (place_at job e at.d at.u) objects) i d) (get_or (map (place_at job e at.d at.u) objects) j d)
    free i j d l h =
        subst (λ p. Free p (get_or (map (place_at job e at.d at.u) objects) j d)) (sym (get_or-map (place_at job e at.d at.u) objects i 0 d (omega (arith, l, h))))
        (subst (λ r. Free (place_at job e at.d at.u (get_or objects i 0)) r) (sym (get_or-map (place_at job e at.d at.u) objects j 0 d h)) (apart i j 0 l h))

-- ---- ranks of a list
pub one_place : (objects : List ℕ) → AllPairs (λ a b. a ≢ b) objects → (p q : ℕ) → p < length objects → q < length objects → get_or objects p 0 ≡ get_or objects q 0 → p ≡ q
one_place objects once p q h k e = by (cases_lt p q) (cases_lt q p)
  where
    by : ((p < q) ⊎ (q ≤ p)) → ((q < p) ⊎ (p ≤ q)) → p ≡ q
    by (inl l) r = absurd (once p q 0 l k e)
    by (inr l) (inl m) = absurd (once q p 0 m h (sym e))
    by (inr l) (inr m) = omega arith

abbrev pub rank_in : List ℕ → ℕ → ℕ
rank_in [] o = 0
rank_in (k ∷ objects) o = cond (nat_eq k o) 0 (suc (rank_in objects o))

record Ranked (objects : List ℕ) (o : ℕ) : Type 0 where
  within : rank_in objects o < length objects
  there : get_or objects (rank_in objects o) 0 ≡ o

ranked : (objects : List ℕ) (o : ℕ) → In o objects → Ranked objects o
ranked [] o i = absurd i
ranked (k ∷ objects) o i = which (nat_eq k o) refl i (λ j. ranked objects o j)
  where
    which : (b : Bool) → nat_eq k o ≡ b → In o (k ∷ objects) → (In o objects → Ranked objects o) → Ranked (k ∷ objects) o
    which true q i later = record {
      within = subst (λ b. cond b 0 (suc (rank_in objects o)) < suc (length objects)) (sym q) (omega arith);
      there = subst (λ b. get_or (k ∷ objects) (cond b 0 (suc (rank_in objects o))) 0 ≡ o) (sym q) (same_number k o q);
    }
    which false q (inl e) later = absurd (clash (sym (number_same k o (sym e)) ∙ q))
      where
        clash : true ≡ false → ⊥
        clash e = cc
    which false q (inr i) later =
        let r = later i in
        record {
          within = subst (λ b. cond b 0 (suc (rank_in objects o)) < suc (length objects)) (sym q) (omega (arith, r.within));
          there = subst (λ b. get_or (k ∷ objects) (cond b 0 (suc (rank_in objects o))) 0 ≡ o) (sym q) r.there;
        }

-- what stands before has the lesser rank
rank_before : (objects : List ℕ) → AllPairs (λ a b. a ≢ b) objects → (a b : ℕ) → StandsBefore objects a b → rank_in objects a < rank_in objects b
rank_before objects once a b before =
    let p = before.earlier in
    let q = before.later in
    let pw : p < length objects = omega (arith, before.apart, before.within) in
    let at_p : get_or objects p 0 ≡ a = get_or_default objects p 0 _ pw ∙ before.first in
    let at_q : get_or objects q 0 ≡ b = get_or_default objects q 0 _ before.within ∙ before.second in
    let ra = ranked objects a (member p a pw at_p) in
    let rb = ranked objects b (member q b before.within at_q) in
    let first = one_place objects once (rank_in objects a) p ra.within pw (ra.there ∙ sym at_p) in
    let second = one_place objects once (rank_in objects b) q rb.within before.within (rb.there ∙ sym at_q) in
    omega (arith, first, second, before.apart)
  where
    member : (p a : ℕ) → p < length objects → get_or objects p 0 ≡ a → In a objects
    member p a l e = subst (λ t. In t objects) e (In-from_contains objects (get_or objects p 0) (Contains-get_or objects p 0 l))

pub orders_hold : (path : List Choice) (i j : ℕ) → In (Choices.Before i j) path → In (i, j) (orders_of path)
orders_hold [] i j m = m
orders_hold (Choices.Before a b ∷ path) i j (inl e) = inl (ap pair e)
  where
    pair : Choice → ℕ × ℕ
    pair (Choices.Before x y) = (x, y)
    pair (Choices.Side x y) = (i, j)
orders_hold (Choices.Before a b ∷ path) i j (inr m) = inr (orders_hold path i j m)
orders_hold (Choices.Side c d ∷ path) i j (inl e) = absurd (not_side e)
  where
    not_side : Choices.Before i j ≡ Choices.Side c d → ⊥
    not_side e = cc
orders_hold (Choices.Side c d ∷ path) i j (inr m) = orders_hold path i j m

-- ---- such a point is clear by ranks
rank_of : (job : Job) (e : ℕ) (path : List Choice) (p : OrderedPoint job e path) (i : ℕ) → i < length job.objects → Ranked p.objects i
rank_of job e path p i l = ranked p.objects i (In-from_contains p.objects i ((p.order.all i).1 l))

pub point_keeps : (job : Job) (e : ℕ) (path : List Choice) (p : OrderedPoint job e path) → Keeps path (rank_in p.objects)
point_keeps job e path p i j c =
    rank_before p.objects p.order.once i j
    (All-contains (λ (o : ℕ × ℕ). StandsBefore p.objects o.0 o.1) (orders_of path) (i, j) p.order.kept (Contains-from_in (orders_of path) (i, j) (orders_hold path i j (In-from_contains path (Choices.Before i j) c))))

pub point_is_clear : (job : Job) (e : ℕ) (path : List Choice) (p : OrderedPoint job e path) → IsClear job e p.at (rank_in p.objects)
point_is_clear job e path p = record {
  own = λ i j l m apart same. apart (sym (rank_of job e path p i l).there ∙ ap (λ k. get_or p.objects k 0) same ∙ (rank_of job e path p j m).there);
  clear = λ i j l m less hits. p.apart (rank_in p.objects i) (rank_in p.objects j) 0 less (rank_of job e path p j m).within
      (subst (λ k. CollidesAt job e p.at k (get_or p.objects (rank_in p.objects j) 0)) (sym (rank_of job e path p i l).there) (subst (λ k. CollidesAt job e p.at i k) (sym (rank_of job e path p j m).there) hits));
}

-- ---- and a plan is such a point
some_count : (places : List Place) (k o : ℕ) (d : Place) → k < length places → (get_or places k d).object ≡ o → 1 ≤ count_by (λ (p : Place). nat_eq p.object o) places
some_count [] k o d l e = absurd (omega (arith, l))
some_count (p ∷ places) zero o d l e = at_least (nat_eq p.object o) _ _ (sum_by-cons (λ (p : Place). cond (nat_eq p.object o) 1 0) p places) (number_same p.object o e)
  where
    at_least : (t : Bool) (s c : ℕ) → s ≡ cond t 1 0 + c → t ≡ true → 1 ≤ s
    at_least true s c e q = omega (arith, e)
    at_least false s c e q = absurd (clash q)
      where
        clash : false ≡ true → ⊥
        clash e = cc
some_count (p ∷ places) (suc k) o d l e =
    let rest = some_count places k o d (omega (arith, l)) e in
    let sum = sum_by-cons (λ (p : Place). cond (nat_eq p.object o) 1 0) p places in
    omega (arith, rest, sum)

pub only_place : (places : List Place) (k o : ℕ) (d : Place) → count_by (λ (p : Place). nat_eq p.object o) places ≡ 1 → k < length places → (get_or places k d).object ≡ o → k ≡ rank_for places o
only_place [] k o d one l e = absurd (omega (arith, l))
only_place (p ∷ places) k o d one l e = which (nat_eq p.object o) refl k l e (λ j c m f. only_place places j o d c m f)
  where
    sum : (t : Bool) → nat_eq p.object o ≡ t → count_by (λ (p : Place). nat_eq p.object o) (p ∷ places) ≡ cond t 1 0 + count_by (λ (p : Place). nat_eq p.object o) places
    sum t q = sum_by-cons (λ (p : Place). cond (nat_eq p.object o) 1 0) p places ∙ ap (λ t. cond t 1 0 + count_by (λ (p : Place). nat_eq p.object o) places) q

    which : (b : Bool) → nat_eq p.object o ≡ b → (k : ℕ) → k < length (p ∷ places) → (get_or (p ∷ places) k d).object ≡ o
        → ((j : ℕ) → count_by (λ (p : Place). nat_eq p.object o) places ≡ 1 → j < length places → (get_or places j d).object ≡ o → j ≡ rank_for places o) → k ≡ cond (nat_eq p.object o) 0 (suc (rank_for places o))
    which true q zero l e later = subst (λ b. 0 ≡ cond b 0 (suc (rank_for places o))) (sym q) refl
    which true q (suc k) l e later = (let some = some_count places k o d (omega (arith, l)) e in let s = sum true q in absurd (omega (arith, one, some, s)))
    which false q zero l e later = absurd (clash (sym (number_same p.object o e) ∙ q))
      where
        clash : true ≡ false → ⊥
        clash e = cc
    which false q (suc k) l e later =
        let s = sum false q in
        let r = later k (omega (arith, one, s)) (omega (arith, l)) e in
        subst (λ b. suc k ≡ cond b 0 (suc (rank_for places o))) (sym q) (ap (λ n. suc n) r)

abbrev pub objects_in : Plan → List ℕ
objects_in plan = map (λ (p : Place). p.object) plan.places

pub point_of_plan : (job : Job) (e : ℕ) (plan : Plan) → Valid (scene_of_job job) e plan → OrderedPoint job e []
point_of_plan job e plan valid = record {
  at = values_of job e plan;
  on = on_of_plan job e plan valid;
  objects = objects_in plan;
  order = record { all = λ k. (known k, found k); once = once; kept = All-nil (λ o. StandsBefore (objects_in plan) o.0 o.1) };
  apart = apart;
}
  where
    object_of : (k : ℕ) (d : ℕ) → k < length plan.places → get_or (objects_in plan) k d ≡ (get_or plan.places k no_place).object
    object_of k d l = get_or-map (λ (p : Place). p.object) plan.places k no_place d l

    below : (k : ℕ) → k < length (objects_in plan) → k < length plan.places
    below k l = omega (arith, l, length-map plan.places (λ (p : Place). p.object))

    is_known : (k : ℕ) → k < length plan.places → (get_or plan.places k no_place).object < length job.objects
    is_known k l = All-get_or (λ (p : Place). p.object < length job.objects) plan.places k no_place l valid.known

    known : (k : ℕ) → Contains (objects_in plan) k → k < length job.objects
    known k c = subst (λ o. o < length job.objects) (sym (object_of c.0 k (below c.0 c.1)) ∙ c.2) (is_known c.0 (below c.0 c.1))

    at_rank : (o : ℕ) → o < length job.objects → rank_for plan.places o < length plan.places
    at_rank o l = (valid_stands job e plan valid o l).within

    found : (k : ℕ) → k < length job.objects → Contains (objects_in plan) k
    found k l =
        let s = valid_stands job e plan valid k l in
        (rank_for plan.places k, omega (arith, s.within, length-map plan.places (λ (p : Place). p.object)), object_of (rank_for plan.places k) k s.within ∙ (ap (λ (p : Place). p.object) (s.there no_place) ∙ s.object))

    place_is : (k : ℕ) (o : ℕ) → o < length job.objects → k < length plan.places → (get_or plan.places k no_place).object ≡ o → k ≡ rank_for plan.places o
    place_is k o m l e = only_place plan.places k o no_place (valid.once o m) l e

    once : AllPairs (λ a b. a ≢ b) (objects_in plan)
    once i j d l h same =
        let il = below i (omega (arith, l, h)) in
        let jl = below j h in
        let o = (get_or plan.places j no_place).object in
        let first = place_is i o (is_known j jl) il (sym (object_of i d il) ∙ same ∙ object_of j d jl) in
        let second = place_is j o (is_known j jl) jl refl in
        omega (arith, first, second, l)

    apart : AreApart job e (values_of job e plan) (objects_in plan)
    apart i j d l h hits =
        let il = below i (omega (arith, l, h)) in
        let jl = below j h in
        let a = (get_or plan.places i no_place).object in
        let b = (get_or plan.places j no_place).object in
        let first = place_is i a (is_known i il) il refl in
        let second = place_is j b (is_known j jl) jl refl in
        let moved : CollidesAt job e (values_of job e plan) a b =
        subst (λ k. CollidesAt job e (values_of job e plan) k b) (object_of i d il) (subst (λ k. CollidesAt job e (values_of job e plan) (get_or (objects_in plan) i d) k) (object_of j d jl) hits) in
        (clear_of_plan job e plan valid).clear a b (is_known i il) (is_known j jl) (omega (arith, first, second, l)) moved

-- the places at this point, in this order, are those of the plan
places_back : (f : ℕ → Place) (places : List Place) → ((p : Place) → In p places → f p.object ≡ p) → map f (map (λ (p : Place). p.object) places) ≡ places
places_back f [] same = refl
places_back f (p ∷ places) same = ap (λ q. q ∷ map f (map (λ (r : Place). r.object) places)) (same p (inl refl)) ∙ ap (λ rest. p ∷ rest) (places_back f places (λ q i. same q (inr i)))

place_back : (job : Job) (e : ℕ) (plan : Plan) → Valid (scene_of_job job) e plan → (p : Place) → In p plan.places
    → place_at job e (values_of job e plan).d (values_of job e plan).u p.object ≡ p
place_back job e plan valid p i =
    let c = Contains-from_in plan.places p i in
    let here : get_or plan.places c.0 no_place ≡ p = get_or_default plan.places c.0 no_place p c.1 ∙ c.2 in
    let known = All-in (λ (p : Place). p.object < length job.objects) plan.places p valid.known i in
    let rank = only_place plan.places c.0 p.object no_place (valid.once p.object known) c.1 (ap (λ (q : Place). q.object) here) in
    let s = valid_stands job e plan valid p.object known in
    let found : place_for plan.places p.object ≡ p = sym (s.there no_place) ∙ (ap (λ r. get_or plan.places r no_place) (sym rank) ∙ here) in
    ap (stand p.object) (place_again job e plan p.object known) ∙ ap (λ q. stand p.object (place_point plan.scale q)) found
  where
    stand : ℕ → Point → Place
    stand o q = record { object = o; x = q.x; y = q.y }

pub plan_again : (job : Job) (e : ℕ) (plan : Plan) (valid : Valid (scene_of_job job) e plan) → plan_of job e (point_of_plan job e plan valid).at (point_of_plan job e plan valid).objects ≡ plan
unfolding point_of_plan
plan_again job e plan valid =
    ap with_places (places_back (place_at job e (values_of job e plan).d (values_of job e plan).u) plan.places (place_back job e plan valid))
  where
    with_places : List Place → Plan
    with_places places = record { scale = plan.scale; places = places }

-- what is valid at an extent, and what points with orders there are
pub plans_are_points : (job : Job) (e : ℕ) → 1 ≤ e → e ≤ job.printer.grid → ((plan : Plan) × Valid (scene_of_job job) e plan) ↔ OrderedPoint job e []
plans_are_points job e one grid = (
  λ v. point_of_plan job e v.0 v.1,
  λ p. (plan_of job e p.at p.objects, plan_is_valid job e [] p.at (orders_of []) p.objects one grid p.on p.order p.apart),
)
