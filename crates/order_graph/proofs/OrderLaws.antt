-- An order that keeps all orders and a cycle of them exclude each other; and a cycle that an order closes shows what leads
-- where.
use Rattle.std.proofs.Common.{◌≡◌, ◌≢◌, ℕ, suc, ◌<◌, List, [], ◌∷◌, ◌++◌, length, get_or, take, drop, All, Contains, Result, Ok, Err, IsOk, IsErr, IfOk, IfErr, MatchResult, ◌↔◌, ◌⊎◌, inl, inr, ⊎_elim, refl, ap, sym, subst, ◌∙◌, arith}
use Rattle.std.proofs.lemmas.Bool.{false≢true, cases_order}
use Rattle.std.proofs.lemmas.List.{take-append-drop}
use Rattle.std.proofs.lemmas.List.Elements.{All-contains, All-contains_itself, All-weaker, All-push, All-take, Contains-append_left, Contains-push_cases}
use Rattle.object_orders.specs.Orders.{IsAmong, IsGraph, Leads, IsOnce, IsWay, IsSimpleCycle, ClosesCycle, StandsBefore, IsOrder, HasCycle, HasOrder}
use Rattle.order_graph.proofs.Lists.{few, full}
use Rattle.order_graph.proofs.NoteLaws.{other_first}

-- where no object stands twice, an object has one place
one_place : (objects : List ℕ) (p q : ℕ) → IsOnce objects → p < length objects → q < length objects → get_or objects p 0 ≡ get_or objects q 0 → p ≡ q
one_place objects p q once p_in q_in same = ⊎_elim
    (λ is. is)
    (λ apart. ⊎_elim (λ below. absurd (once p q 0 below q_in same)) (λ above. absurd (once q p 0 above p_in (sym same))) apart)
    (cases_order p q)

before_trans : (objects : List ℕ) (a b c : ℕ) → IsOnce objects → StandsBefore objects a b → StandsBefore objects b c → StandsBefore objects a c
before_trans objects a b c once ab bc =
    let same = one_place objects ab.later bc.earlier once ab.within (omega (arith, bc.apart, bc.within)) (ab.second ∙ sym bc.first) in
    record {
      earlier = ab.earlier;
      later = bc.later;
      apart = omega (arith, ab.apart, bc.apart);
      within = bc.within;
      first = ab.first;
      second = bc.second;
    }

pub leads_before_in : (n : ℕ) (orders : List (ℕ × ℕ)) (objects : List ℕ) → IsOrder n orders objects → {a b : ℕ} → Leads orders a b → StandsBefore objects a b
leads_before_in n orders objects order (Leads.one a b is) = All-contains (λ o. StandsBefore objects o.0 o.1) orders (a, b) order.kept is
leads_before_in n orders objects order (Leads.more a k b is rest) =
    before_trans objects a k b order.once (All-contains (λ o. StandsBefore objects o.0 o.1) orders (a, k) order.kept is) (leads_before_in n orders objects order rest)

-- no list keeps the orders of a cycle
pub not_both : (n : ℕ) (orders : List (ℕ × ℕ)) → HasOrder n orders → HasCycle orders → ⊥
not_both n orders has cycle =
    let order = has.1 in
    let round = leads_before_in n orders has.0 order cycle.1 in
    order.once round.earlier round.later 0 round.apart round.within (round.first ∙ sym round.second)

leads_along : (orders : List (ℕ × ℕ)) (others : List ℕ) (a b : ℕ) → IsWay orders (a ∷ others ++ b ∷ []) → Leads orders a b
leads_along orders [] a b way = Leads.one a b way.0
leads_along orders (k ∷ others) a b way = Leads.more a k b way.0 (leads_along orders others k b way.1)

-- a way that leaves from no i doesn't take an order of i before j
way_without : (orders : List (ℕ × ℕ)) (i j : ℕ) (objects : List ℕ) (last : ℕ) → All (λ k. i ≢ k) objects → IsWay (orders ++ (i, j) ∷ []) (objects ++ last ∷ []) → IsWay orders (objects ++ last ∷ [])
way_without orders i j [] last apart way = tt
way_without orders i j (a ∷ []) last apart way = (other_first orders i j a last (λ same. apart 0 0 (omega arith) (sym same)) way.0, tt)
way_without orders i j (a ∷ b ∷ rest) last apart way =
    (other_first orders i j a b (λ same. apart 0 0 (omega arith) (sym same)) way.0, way_without orders i j (b ∷ rest) last (λ k d within. apart (suc k) d (omega arith)) way.1)

-- the held orders lead back in a cycle that an order closes
pub way_back : (orders : List (ℕ × ℕ)) (i j : ℕ) (objects : List ℕ) → (closes : ClosesCycle orders i j objects) → IsWay orders (j ∷ closes.others ++ i ∷ [])
way_back orders i j objects closes =
    let cycle = subst (IsSimpleCycle (orders ++ (i, j) ∷ [])) closes.begins closes.is_cycle in
    way_without orders i j (j ∷ closes.others) i (λ k d within. cycle.once 0 (suc k) d (omega arith) (omega arith)) cycle.round.1

pub leads_if_closes : (orders : List (ℕ × ℕ)) (i j : ℕ) (objects : List ℕ) → ClosesCycle orders i j objects → Leads orders j i
leads_if_closes orders i j objects closes = leads_along orders closes.others j i (way_back orders i j objects closes)

pub has_simple_cycle : (orders : List (ℕ × ℕ)) (objects : List ℕ) → IsSimpleCycle orders objects → HasCycle orders
has_simple_cycle orders [] cycle = absurd (omega (arith, cycle.some))
has_simple_cycle orders (a ∷ rest) cycle = (a, leads_along orders rest a a cycle.round)

pub if_ok : (r : Result (List ℕ) (List ℕ)) (P Q : List ℕ → Type 0) → MatchResult r P Q → IfOk r P
if_ok (Ok objects) P Q is = is
if_ok (Err objects) P Q is = tt

pub if_err : (r : Result (List ℕ) (List ℕ)) (P Q : List ℕ → Type 0) → MatchResult r P Q → IfErr r Q
if_err (Ok objects) P Q is = tt
if_err (Err objects) P Q is = is

pub order_exactly : (n : ℕ) (orders : List (ℕ × ℕ)) (r : Result (List ℕ) (List ℕ)) → MatchResult r (IsOrder n orders) (IsSimpleCycle orders) → IsOk r ↔ HasOrder n orders
order_exactly n orders (Ok objects) order = (λ _. (objects, order), λ _. refl)
order_exactly n orders (Err objects) cycle = (λ wrong. absurd (false≢true wrong), λ has. absurd (not_both n orders has (has_simple_cycle orders objects cycle)))

pub cycle_exactly : (n : ℕ) (orders : List (ℕ × ℕ)) (r : Result (List ℕ) (List ℕ)) → MatchResult r (IsOrder n orders) (IsSimpleCycle orders) → IsErr r ↔ HasCycle orders
cycle_exactly n orders (Ok objects) order = (λ wrong. absurd (false≢true wrong), λ has. absurd (not_both n orders (objects, order) has))
cycle_exactly n orders (Err objects) cycle = (λ _. has_simple_cycle orders objects cycle, λ _. refl)

leads_trans : (orders : List (ℕ × ℕ)) → {a b c : ℕ} → Leads orders a b → Leads orders b c → Leads orders a c
leads_trans orders (Leads.one a b order) rest = Leads.more a b _ order rest
leads_trans orders (Leads.more a k b order on) rest = Leads.more a k _ order (leads_trans orders on rest)

-- what leads where with one more order leads there without it, or to its first object and on from its second
pub record Through (orders : List (ℕ × ℕ)) (i j a b : ℕ) : Type 0 where
  pub there : (a ≡ i) ⊎ Leads orders a i
  pub on : (j ≡ b) ⊎ Leads orders j b

leads_before : (orders : List (ℕ × ℕ)) (i j : ℕ) → {a b : ℕ} → Leads (orders ++ (i, j) ∷ []) a b → Leads orders a b ⊎ Through orders i j a b
leads_before orders i j (Leads.one a b order) = ⊎_elim
    (λ old. inl (Leads.one a b old))
    (λ new. inr (record { there = inl (ap (λ o. o.0) (sym new)); on = inl (ap (λ o. o.1) new) }))
    (Contains-push_cases orders (i, j) (a, b) order)
leads_before orders i j (Leads.more a k b order rest) = ⊎_elim
    (λ old. ⊎_elim
    (λ leads. inl (Leads.more a k b old leads))
    (λ through. inr (record { there = ⊎_elim (λ same. inr (subst (Leads orders a) same (Leads.one a k old))) (λ leads. inr (Leads.more a k i old leads)) through.there; on = through.on }))
    (leads_before orders i j rest))
    (λ new. ⊎_elim
    (λ leads. inr (record { there = inl (ap (λ o. o.0) (sym new)); on = inr (subst (λ x. Leads orders x b) (ap (λ o. o.1) (sym new)) leads) }))
    (λ through. inr (record { there = inl (ap (λ o. o.0) (sym new)); on = through.on }))
    (leads_before orders i j rest))
    (Contains-push_cases orders (i, j) (a, k) order)

-- an order whose second object doesn't lead to its first closes no cycle
pub still_acyclic : (orders : List (ℕ × ℕ)) (i j : ℕ) → i ≢ j → (Leads orders j i → ⊥) → (HasCycle orders → ⊥) → (a : ℕ) → Leads (orders ++ (i, j) ∷ []) a a → ⊥
still_acyclic orders i j apart free acyclic a leads = ⊎_elim
    (λ old. acyclic (a, old))
    (λ through. ⊎_elim
    (λ a_is_i. ⊎_elim
    (λ j_is_a. apart (sym (j_is_a ∙ a_is_i)))
    (λ on. free (subst (Leads orders j) a_is_i on))
    through.on)
    (λ there. ⊎_elim
    (λ j_is_a. free (subst (λ k. Leads orders k i) (sym j_is_a) there))
    (λ on. free (leads_trans orders on there))
    through.on)
    through.there)
    (leads_before orders i j leads)

pub graph_more : (n : ℕ) (held : List (ℕ × ℕ)) (i j : ℕ) → IsGraph n held → i < n → j < n → i ≢ j → (Leads held j i → ⊥) → IsGraph n (held ++ (i, j) ∷ [])
graph_more n held i j graph i_in j_in apart free = record {
  some = graph.some;
  few = graph.few;
  among = All-push (IsAmong n) held (i, j) graph.among (i_in, j_in, apart);
  acyclic = λ cycle. still_acyclic held i j apart free graph.acyclic cycle.0 cycle.1;
}

leads_in_more : (orders others : List (ℕ × ℕ)) → {a b : ℕ} → Leads orders a b → Leads (orders ++ others) a b
leads_in_more orders others (Leads.one a b order) = Leads.one a b (Contains-append_left orders others (a, b) order)
leads_in_more orders others (Leads.more a k b order on) = Leads.more a k b (Contains-append_left orders others (a, k) order) (leads_in_more orders others on)

pub graph_fewer : (n : ℕ) (held : List (ℕ × ℕ)) (k : ℕ) → IsGraph n held → IsGraph n (take k held)
graph_fewer n held k graph = record {
  some = graph.some;
  few = graph.few;
  among = All-take (IsAmong n) k held graph.among;
  acyclic = λ cycle. graph.acyclic (cycle.0, subst (λ orders. Leads orders cycle.0 cycle.0) (take-append-drop k held) (leads_in_more (take k held) (drop k held) cycle.1));
}

-- an order of n objects is n long
length-order : (n : ℕ) (orders : List (ℕ × ℕ)) (objects : List ℕ) → IsOrder n orders objects → length objects ≡ n
length-order n orders objects order =
    let below = All-weaker (Contains objects) (λ k. k < n) (λ k has. (order.all k).0 has) objects (All-contains_itself objects) in
    let at_most = few n objects order.once below in
    let at_least = full n objects (λ k is_below. (order.all k).1 is_below) in
    omega arith

pub order_whole : (n : ℕ) (orders : List (ℕ × ℕ)) (r : Result (List ℕ) (List ℕ)) → MatchResult r (IsOrder n orders) (IsSimpleCycle orders) → IfOk r (λ order. length order ≡ n)
order_whole n orders (Ok objects) order = length-order n orders objects order
order_whole n orders (Err objects) cycle = tt
