-- How the places of an order are filled, and what stands in the way.
use Rattle.std.proofs.Common.{◌≡◌, ◌≢◌, ◌↔◌, ℕ, ◌+◌, ◌<◌, ◌≤◌, List, [], ◌∷◌, ◌++◌, length, get_or, set, take, reverse, Option, Some, None, IsSome, MatchOption, Contains, ⊎_elim, refl, sym, subst, ap, ◌∙◌, get_or-set_same, get_or-set_other, length-set, arith}
use Rattle.std.proofs.lemmas.Bool.{cases_eq, cases_lt, false≢true}
use Rattle.std.proofs.lemmas.List.{length_push, length-reverse, get_or_append_left, get_or_at, get_or_default}
use Rattle.std.proofs.lemmas.List.Elements.{Contains-get_or, All-contains_itself, All-weaker, Contains-append_left, Contains-push, Contains-push_cases}
use Rattle.std.proofs.lemmas.Nat.Bits.{bit_at_above}
use Rattle.object_orders.specs.Orders.{IsAmong, IsOnce, IsOrdered, EachNext, IsSimpleCycle, IsOrder, StandsBefore}
use Rattle.order_graph.specs.Sets.{HasMember, HasBefore, AreNoted}
use Rattle.order_graph.specs.Searches.{IsNext, IsNextBelow, IsWalk, ComesRound, IsFree, NoneFree, LeadsBack}
use Rattle.order_graph.proofs.Lists.{room, once_push, once_reverse}
use Rattle.order_graph.proofs.NextLaws.{next_cases}
use Rattle.order_graph.proofs.WayLaws.{EachNext-weaker, carried, round_back}

-- a set below 2 ^ 16 has no object from 16 on
fits_below : (set k : ℕ) → set < 65536 → HasMember set k → k < 16
fits_below set k fits has = ⊎_elim
    (λ below. below)
    (λ above. let none = bit_at_above set 16 k fits above in absurd cc)
    (cases_lt k 16)

-- what is left over but for `rest` isn't free
pub record AreTried (before : List ℕ) (left rest : ℕ) : Type 0 where
  pub inner : (k : ℕ) → HasMember rest k → HasMember left k
  pub tried : (k : ℕ) → HasMember left k → (HasMember rest k → ⊥) → (a : ℕ) × HasBefore before a k × HasMember left a

-- what is left over but for `rest` has as its next object one that is left and ordered before it
pub record AreLinked (before : List ℕ) (left rest : ℕ) (next : List (Option ℕ)) : Type 0 where
  pub long : length next ≡ 16
  pub inner : (k : ℕ) → HasMember rest k → HasMember left k
  pub step : (b a : ℕ) → IsNext next b a → HasBefore before a b × HasMember left a
  pub some : (b : ℕ) → HasMember left b → (HasMember rest b → ⊥) → IsSome (get_or next b None)

pub one_linked : (before : List ℕ) (left rest : ℕ) (next : List (Option ℕ)) (k both : ℕ) → AreLinked before left rest next → NoneFree before left → k < 16 → HasMember rest k → ((a : ℕ) → HasMember both a ↔ (HasBefore before a k × HasMember left a)) → (one : Option ℕ) → MatchOption one ((a : ℕ) → HasMember both a → ⊥) (λ a. (a < 16) × HasMember both a) → (fewer : ℕ) → (HasMember fewer k → ⊥) → ((j : ℕ) → j ≢ k → HasMember fewer j ↔ HasMember rest j) → AreLinked before left fewer (set next k one)
one_linked before left rest next k both t none_free within has are None none fewer gone others =
    let other = none_free k (t.inner k has) in
    absurd (none other.0 ((are other.0).1 (other.1, other.2)))
one_linked before left rest next k both t none_free within has are (Some a) one fewer gone others =
    let fits : k < length next = omega (arith, t.long) in
    let is_before = (are a).0 one.1 in
    record {
      long = length-set next k (Some a) ∙ t.long;
      inner = λ j is. ⊎_elim (λ same. absurd (gone (subst (HasMember fewer) same is))) (λ apart. t.inner j ((others j apart).0 is)) (cases_eq j k);
      step = λ x y is. ⊎_elim
          (λ new. (subst (λ b. HasBefore before y b) (sym new.0) (subst (λ c. HasBefore before c k) (sym new.1) is_before.0), subst (HasMember left) (sym new.1) is_before.1))
          (λ old. t.step x y old.1)
          (next_cases next k a x y fits is);
      some = λ j is out. ⊎_elim
          (λ same. subst IsSome (sym (ap (λ i. get_or (set next k (Some a)) i None) same ∙ get_or-set_same next k (Some a) None fits)) refl)
          (λ apart. subst IsSome (sym (get_or-set_other next k j (Some a) None apart)) (t.some j is (λ in_rest. out ((others j apart).1 in_rest))))
          (cases_eq j k);
    }

pub backwards_below : (before : List ℕ) (left : ℕ) (next : List (Option ℕ)) → left < 65536 → LeadsBack before left next → IsNextBelow 16 next
backwards_below before left next fits backwards b a is = fits_below left a fits (backwards.step b a is).1

-- a way over what is left doesn't end
pub no_end : (before : List ℕ) (left : ℕ) (next : List (Option ℕ)) (start : ℕ) (way : List ℕ) → LeadsBack before left next → HasMember left start → IsWalk next start way → ⊥
no_end before left next start way backwards has walk =
    let starts : get_or (walk.front ++ walk.last ∷ []) 0 0 ≡ start = ap (λ w. get_or w 0 0) (sym walk.whole) ∙ walk.starts in
    let steps = subst (EachNext (IsNext next)) walk.whole walk.steps in
    let last_left = carried (IsNext next) (HasMember left) (λ b a is of_b. (backwards.step b a is).1) walk.front walk.last steps (subst (HasMember left) (sym starts) has) in
    false≢true (subst IsSome walk.ends (backwards.some walk.last last_left))

-- an object that isn't its own next one comes round over another
ring_length : (next : List (Option ℕ)) (first : ℕ) (rest objects : List ℕ) → objects ≡ first ∷ rest → (IsNext next first first → ⊥) → EachNext (IsNext next) (first ∷ rest ++ first ∷ []) → 2 ≤ length objects
ring_length next first [] objects whole apart round = absurd (apart round.0)
ring_length next first (x ∷ rest) objects whole apart round = let long : length objects ≡ length rest + 2 = ap length whole ∙ omega arith in omega arith

-- what comes round backwards is a cycle, last object first
pub cycle_from_ring : (orders : List (ℕ × ℕ)) (before : List ℕ) (left : ℕ) (next : List (Option ℕ)) → AreNoted orders before → ((a b : ℕ) → HasBefore before a b → a ≢ b) → LeadsBack before left next → (objects : List ℕ) → ComesRound next objects → IsSimpleCycle orders (reverse objects)
cycle_from_ring orders before left next noted apart backwards objects ring = record {
  some = omega (arith, length-reverse objects, ring_length next ring.first ring.rest objects ring.whole (λ is. apart ring.first ring.first (backwards.step ring.first ring.first is).0 refl) ring.round);
  once = once_reverse objects ring.once;
  round = EachNext-weaker (λ x y. IsNext next y x) (IsOrdered orders) (λ a b is. (noted b a).0 (backwards.step b a is).0) _ (subst (λ xs. EachNext (λ x y. IsNext next y x) (reverse xs ++ take 1 (reverse xs))) (sym ring.whole) (round_back (IsNext next) ring.first ring.rest ring.round));
}

stands_before_push : (objects : List ℕ) (k a b : ℕ) → StandsBefore objects a b → StandsBefore (objects ++ k ∷ []) a b
stands_before_push objects k a b is = record {
  earlier = is.earlier;
  later = is.later;
  apart = is.apart;
  within = omega (arith, is.within, length_push objects k);
  first = get_or_append_left objects (k ∷ []) 0 is.earlier (omega (arith, is.apart, is.within)) ∙ is.first;
  second = get_or_append_left objects (k ∷ []) 0 is.later is.within ∙ is.second;
}

before_last : (objects : List ℕ) (k a : ℕ) → Contains objects a → StandsBefore (objects ++ k ∷ []) a k
before_last objects k a has = record {
  earlier = has.0;
  later = length objects;
  apart = has.1;
  within = omega (arith, length_push objects k);
  first = get_or_append_left objects (k ∷ []) 0 has.0 has.1 ∙ get_or_default objects has.0 0 a has.1 ∙ has.2;
  second = get_or_at objects k [] 0 (length objects) refl;
}

-- where the placing stands: the objects that aren't left, each once and after all that is ordered before it
pub record IsPlacing (n : ℕ) (before : List ℕ) (left : ℕ) (objects : List ℕ) : Type 0 where
  pub within : (k : ℕ) → HasMember left k → k < n
  pub listed : (k : ℕ) → Contains objects k ↔ ((k < n) × (HasMember left k → ⊥))
  pub once : IsOnce objects
  pub kept : (a b : ℕ) → HasBefore before a b → Contains objects b → StandsBefore objects a b

-- a free object stands after those that are placed
pub placed_more : (n : ℕ) (before : List ℕ) (left : ℕ) (objects : List ℕ) (k : ℕ) → ((a b : ℕ) → HasBefore before a b → IsAmong n (a, b)) → IsPlacing n before left objects → IsFree before left k → (fewer : ℕ) → (HasMember fewer k → ⊥) → ((j : ℕ) → j ≢ k → HasMember fewer j ↔ HasMember left j) → IsPlacing n before fewer (objects ++ k ∷ [])
placed_more n before left objects k among placing free fewer gone others = record {
  within = λ j is. ⊎_elim (λ same. absurd (gone (subst (HasMember fewer) same is))) (λ apart. placing.within j ((others j apart).0 is)) (cases_eq j k);
  listed = λ j. (
    λ has. ⊎_elim
        (λ old.
        let was = (placing.listed j).0 old in
        (was.0, λ is. ⊎_elim (λ same. gone (subst (HasMember fewer) same is)) (λ apart. was.1 ((others j apart).0 is)) (cases_eq j k)))
        (λ new. (subst (λ i. i < n) new (placing.within k free.left_over), λ is. gone (subst (HasMember fewer) (sym new) is)))
        (Contains-push_cases objects k j has),
    λ out. ⊎_elim
        (λ same. subst (Contains (objects ++ k ∷ [])) (sym same) (Contains-push objects k))
        (λ apart. Contains-append_left objects (k ∷ []) j ((placing.listed j).1 (out.0, λ is. out.1 ((others j apart).1 is))))
        (cases_eq j k),
  );
  once = once_push objects k placing.once (λ has. ((placing.listed k).0 has).1 free.left_over);
  kept = λ a b order has. ⊎_elim
      (λ old. stands_before_push objects k a b (placing.kept a b order old))
      (λ new.
      let to_k = subst (HasBefore before a) (sym new) order in
      subst (StandsBefore (objects ++ k ∷ []) a) new (before_last objects k a ((placing.listed a).1 ((among a k to_k).0, free.first a to_k))))
      (Contains-push_cases objects k b has);
}

-- once nothing is left, all stand in order
pub order_from_placing : (n : ℕ) (orders : List (ℕ × ℕ)) (before : List ℕ) (left : ℕ) (objects : List ℕ) → AreNoted orders before → ((a b : ℕ) → HasBefore before a b → IsAmong n (a, b)) → IsPlacing n before left objects → ((k : ℕ) → HasMember left k → ⊥) → IsOrder n orders objects
order_from_placing n orders before left objects noted among placing none = record {
  all = λ k. (λ has. ((placing.listed k).0 has).0, λ below. (placing.listed k).1 (below, none k));
  once = placing.once;
  kept = λ k d within.
      let o = get_or orders k d in
      let order = (noted o.1 o.0).1 (Contains-get_or orders k d within) in
      placing.kept o.0 o.1 order ((placing.listed o.1).1 ((among o.0 o.1 order).1, none o.1));
}

-- there is room for an object that is left
pub room_left : (n : ℕ) (before : List ℕ) (left : ℕ) (objects : List ℕ) (k : ℕ) → IsPlacing n before left objects → HasMember left k → length objects < n
room_left n before left objects k placing has =
    let below = All-weaker (Contains objects) (λ j. j < n) (λ j is. ((placing.listed j).0 is).0) objects (All-contains_itself objects) in
    room n objects k placing.once below (placing.within k has) (λ is. ((placing.listed k).0 is).1 has)
