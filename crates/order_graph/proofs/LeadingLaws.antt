-- The next objects towards a goal, as they become known one by one.
use Rattle.std.proofs.Common.{◌≡◌, ◌≢◌, ◌↔◌, ℕ, ◌+◌, ◌-◌, ◌<◌, cond, eqb, List, [], ◌∷◌, ◌++◌, length, get_or, set, take, drop, replicate, Option, Some, None, IsSome, ⊎_elim, refl, sym, subst, ap, ap₂, ◌∙◌, arith, get_or-set_same, get_or-set_other, length-set}
use Rattle.std.proofs.lemmas.Bool.{false≢true, cases_eq, cases_lt, eq-eqb, ne_eqb}
use Rattle.std.proofs.lemmas.List.{get_or_past, length_push, drop_at, take_at}
use Rattle.std.proofs.lemmas.List.Elements.{Contains-push}
use Rattle.object_orders.specs.Orders.{IsOnce, IsOrdered, Leads, EachNext, IsSimpleCycle, ClosesCycle}
use Rattle.order_graph.specs.Sets.{HasMember, HasBefore, AreNoted}
use Rattle.order_graph.specs.Searches.{IsNext, IsWalk, ComesRound, IsKnown, AllKnown, LeadsOn}
use Rattle.order_graph.proofs.Lists.{once_turned}
use Rattle.order_graph.proofs.NoteLaws.{still_ordered}
use Rattle.order_graph.proofs.NextLaws.{empty, no_next, next_cases}
use Rattle.order_graph.proofs.SetLaws.{nothing, has_unless}
use Rattle.order_graph.proofs.WayLaws.{EachNext-weaker, carried}

-- at the start none has a next object
pub none_known : (before : List ℕ) (goal n : ℕ) → LeadsOn before goal (replicate n None)
none_known before goal n = record {
  rank = λ k. 0;
  stop = empty n goal;
  order = λ a b is. absurd (no_next n a b is);
  known = λ a b is. absurd (no_next n a b is);
  nearer = λ a b is. absurd (no_next n a b is);
}

-- the rank of i goes above that of j, and the others keep theirs
raised : (ℕ → ℕ) → ℕ → ℕ → ℕ → ℕ
raised rank i j k = cond (eqb k i) (rank j + 1) (rank k)

raised_same : (rank : ℕ → ℕ) (i j k : ℕ) → k ≡ i → raised rank i j k ≡ rank j + 1
unfolding raised
raised_same rank i j k same = rw (eq-eqb k i same) refl

raised_other : (rank : ℕ → ℕ) (i j k : ℕ) → k ≢ i → raised rank i j k ≡ rank k
unfolding raised
raised_other rank i j k apart = rw (ne_eqb k i apart) refl

-- a known object stays known
pub still_known : (next : List (Option ℕ)) (goal i j k : ℕ) → i < length next → IsKnown next goal k → IsKnown (set next i (Some j)) goal k
still_known next goal i j k within known apart = ⊎_elim
    (λ same. subst IsSome (sym (ap (λ t. get_or (set next i (Some j)) t None) same ∙ get_or-set_same next i (Some j) None within)) refl)
    (λ other. subst IsSome (sym (get_or-set_other next i k (Some j) None other)) (known apart))
    (cases_eq k i)

-- an object that wasn't known gets its next one
pub one_known : (before : List ℕ) (goal : ℕ) (next : List (Option ℕ)) (i j : ℕ) → i < length next → LeadsOn before goal next → HasBefore before i j → (IsKnown next goal i → ⊥) → IsKnown next goal j → LeadsOn before goal (set next i (Some j))
one_known before goal next i j within leads order unknown known =
    let not_goal : i ≢ goal = λ same. unknown (λ apart. absurd (apart same)) in
    let apart : j ≢ i = λ same. unknown (subst (IsKnown next goal) same known) in
    record {
      rank = raised leads.rank i j;
      stop = get_or-set_other next i goal (Some j) None (λ same. not_goal (sym same)) ∙ leads.stop;
      order = λ a b step. ⊎_elim (λ new. subst (HasBefore before a) (sym new.1) (subst (λ k. HasBefore before k j) (sym new.0) order)) (λ old. leads.order a b old.1) (next_cases next i j a b within step);
      known = λ a b step. still_known next goal i j b within (⊎_elim (λ new. subst (IsKnown next goal) (sym new.1) known) (λ old. leads.known a b old.1) (next_cases next i j a b within step));
      nearer = λ a b step. ⊎_elim
          (λ new.
          let of_a = raised_same leads.rank i j a new.0 in
          let of_b = raised_other leads.rank i j b (λ same. apart (sym new.1 ∙ same)) in
          let rank_is = ap leads.rank new.1 in
          omega arith)
          (λ old.
          let of_a = raised_other leads.rank i j a old.0 in
          let of_b = raised_other leads.rank i j b (λ same. unknown (subst (IsKnown next goal) same (leads.known a b old.1))) in
          let nearer = leads.nearer a b old.1 in
          omega arith)
          (next_cases next i j a b within step);
    }

-- Where the search stands. `known` has the objects that have a next one, and the goal; `todo` those of them before which
-- an unknown one may be ordered.
pub record IsSearch (before : List ℕ) (goal : ℕ) (next : List (Option ℕ)) (known todo : ℕ) : Type 0 where
  pub long : length next ≡ 16
  pub leads : LeadsOn before goal next
  pub same : (k : ℕ) → HasMember known k ↔ IsKnown next goal k
  pub inner : (k : ℕ) → HasMember todo k → HasMember known k
  pub shut : (a b : ℕ) → HasBefore before a b → HasMember known b → (HasMember todo b → ⊥) → HasMember known a

pub at_goal : (before : List ℕ) (goal known : ℕ) → HasMember known goal → ((k : ℕ) → k ≢ goal → HasMember known k ↔ HasMember 0 k) → IsSearch before goal (replicate 16 None) known known
at_goal before goal known has others = record {
  long = refl;
  leads = none_known before goal 16;
  same = λ k. (
    λ is apart. absurd (nothing k ((others k apart).0 is)),
    λ known_k. ⊎_elim (λ at. subst (HasMember known) (sym at) has) (λ apart. absurd (false≢true (subst IsSome (empty 16 k) (known_k apart)))) (cases_eq k goal),
  );
  inner = λ k is. is;
  shut = λ a b order is shut. absurd (shut is);
}

-- one more object a, ordered before b, is known and todo
pub reach_one : (before : List ℕ) (goal : ℕ) (next : List (Option ℕ)) (known todo a b : ℕ) → IsSearch before goal next known todo → a < 16 → HasBefore before a b → (HasMember known a → ⊥) → HasMember todo b → (known' todo' : ℕ) → HasMember known' a → ((k : ℕ) → k ≢ a → HasMember known' k ↔ HasMember known k) → HasMember todo' a → ((k : ℕ) → k ≢ a → HasMember todo' k ↔ HasMember todo k) → IsSearch before goal (set next a (Some b)) known' todo'
reach_one before goal next known todo a b s fits order unknown due known' todo' in_known known_else in_todo todo_else =
    let within : a < length next = omega (arith, s.long) in
    let b_known = (s.same b).0 (s.inner b due) in
    record {
      long = length-set next a (Some b) ∙ s.long;
      leads = one_known before goal next a b within s.leads order (λ is. unknown ((s.same a).1 is)) b_known;
      same = λ k. (
        λ is. ⊎_elim
            (λ at apart. subst IsSome (sym (ap (λ t. get_or (set next a (Some b)) t None) at ∙ get_or-set_same next a (Some b) None within)) refl)
            (λ other. still_known next goal a b k within ((s.same k).0 ((known_else k other).0 is)))
            (cases_eq k a),
        λ is. ⊎_elim
            (λ at. subst (HasMember known') (sym at) in_known)
            (λ other. (known_else k other).1 ((s.same k).1 (λ apart. subst IsSome (get_or-set_other next a k (Some b) None other) (is apart))))
            (cases_eq k a),
      );
      inner = λ k is. ⊎_elim (λ at. subst (HasMember known') (sym at) in_known) (λ other. (known_else k other).1 (s.inner k ((todo_else k other).0 is))) (cases_eq k a);
      shut = λ x y xy is closed. ⊎_elim
          (λ at. absurd (closed (subst (HasMember todo') (sym at) in_todo)))
          (λ other.
          let x_known = s.shut x y xy ((known_else y other).0 is) (λ has. closed ((todo_else y other).1 has)) in
          ⊎_elim (λ at. subst (HasMember known') (sym at) in_known) (λ else. (known_else x else).1 x_known) (cases_eq x a))
          (cases_eq y a);
    }

-- all that is ordered before b is known
pub shut_one : (before : List ℕ) (goal : ℕ) (next : List (Option ℕ)) (known todo b : ℕ) → IsSearch before goal next known todo → ((a : ℕ) → HasBefore before a b → (HasMember known a → ⊥) → ⊥) → (todo' : ℕ) → (HasMember todo' b → ⊥) → ((k : ℕ) → k ≢ b → HasMember todo' k ↔ HasMember todo k) → IsSearch before goal next known todo'
shut_one before goal next known todo b s all todo' not_todo todo_else = record {
  long = s.long;
  leads = s.leads;
  same = s.same;
  inner = λ k is. ⊎_elim (λ at. absurd (not_todo (subst (HasMember todo') at is))) (λ other. s.inner k ((todo_else k other).0 is)) (cases_eq k b);
  shut = λ x y xy is closed. ⊎_elim
      (λ at. has_unless known x (all x (subst (HasBefore before x) at xy)))
      (λ other. s.shut x y xy is (λ has. closed ((todo_else y other).1 has)))
      (cases_eq y b);
}

-- and so is what leads to the goal
pub known_if_leads : (orders : List (ℕ × ℕ)) (before : List ℕ) (next : List (Option ℕ)) → AreNoted orders before → {a goal : ℕ} → Leads orders a goal → AllKnown before next goal → IsKnown next goal a
known_if_leads orders before next noted (Leads.one a goal order) all = all a goal ((noted goal a).1 order) (λ apart. absurd (apart refl))
known_if_leads orders before next noted (Leads.more a b goal order rest) all = all a b ((noted b a).1 order) (known_if_leads orders before next noted rest all)

-- a known object is one of the goal and those in the list
pub known_within : (next : List (Option ℕ)) (goal k : ℕ) → goal < length next → IsKnown next goal k → k < length next
known_within next goal k goal_in known = ⊎_elim
    (λ at. subst (λ t. t < length next) (sym at) goal_in)
    (λ apart. ⊎_elim
    (λ below. below)
    (λ above. absurd (false≢true (subst IsSome (get_or_past next k None above) (known apart))))
    (cases_lt k (length next)))
    (cases_eq k goal)

falls : (next : List (Option ℕ)) (rank : ℕ → ℕ) → ((a b : ℕ) → IsNext next a b → rank b < rank a) → (others : List ℕ) (a b : ℕ) → EachNext (IsNext next) (a ∷ others ++ b ∷ []) → rank b < rank a
falls next rank nearer [] a b way = nearer a b way.0
falls next rank nearer (k ∷ others) a b way = let first = nearer a k way.0 in let rest = falls next rank nearer others k b way.1 in omega arith

-- no way along the next objects comes round
pub no_ring : (before : List ℕ) (goal : ℕ) (next : List (Option ℕ)) → LeadsOn before goal next → (objects : List ℕ) → ComesRound next objects → ⊥
no_ring before goal next leads objects ring = let fall = falls next leads.rank leads.nearer ring.rest ring.first ring.first ring.round in omega arith

no_next_only_goal : (next : List (Option ℕ)) (goal k : ℕ) → IsKnown next goal k → get_or next k None ≡ None → k ≡ goal
no_next_only_goal next goal k known none = ⊎_elim (λ same. same) (λ apart. absurd (false≢true (subst IsSome none (known apart)))) (cases_eq k goal)

-- a way that begins with some other object than its last
pub split : (front : List ℕ) (last start : ℕ) → get_or (front ++ last ∷ []) 0 0 ≡ start → start ≢ last → (others : List ℕ) × (front ≡ start ∷ others)
split [] last start first apart = absurd (apart (sym first))
split (x ∷ others) last start first apart = (others, ap (λ k. k ∷ others) first)

-- the last object of a list, and after it the others in turn
turned : (front : List ℕ) (last : ℕ) → drop (length (front ++ last ∷ []) - 1) (front ++ last ∷ []) ++ take (length (front ++ last ∷ []) - 1) (front ++ last ∷ []) ≡ last ∷ front
turned front last =
    let short : length front ≡ length (front ++ last ∷ []) - 1 = omega (arith, length_push front last) in
    rw (drop_at front (last ∷ []) _ short, take_at front (last ∷ []) _ short) refl

-- the way from start to the goal, turned so that the goal comes first
pub closes : (orders : List (ℕ × ℕ)) (before : List ℕ) (goal : ℕ) (next : List (Option ℕ)) (start : ℕ) (way : List ℕ) → AreNoted orders before → LeadsOn before goal next → IsKnown next goal start → start ≢ goal → IsWalk next start way → ClosesCycle orders goal start (drop (length way - 1) way ++ take (length way - 1) way)
closes orders before goal next start way noted leads known apart walk =
    let starts : get_or (walk.front ++ walk.last ∷ []) 0 0 ≡ start = ap (λ w. get_or w 0 0) (sym walk.whole) ∙ walk.starts in
    let steps = subst (EachNext (IsNext next)) walk.whole walk.steps in
    let last_known = carried (IsNext next) (IsKnown next goal) (λ a b step of_a. leads.known a b step) walk.front walk.last steps (subst (IsKnown next goal) (sym starts) known) in
    let at_goal : walk.last ≡ goal = no_next_only_goal next goal walk.last last_known walk.ends in
    let parts = split walk.front walk.last start starts (λ same. apart (same ∙ at_goal)) in
    let whole : walk.front ++ walk.last ∷ [] ≡ start ∷ parts.0 ++ goal ∷ [] = ap₂ (λ front last. front ++ last ∷ []) parts.1 at_goal in
    let all : way ≡ start ∷ parts.0 ++ goal ∷ [] = walk.whole ∙ whole in
    let begins : drop (length way - 1) way ++ take (length way - 1) way ≡ goal ∷ start ∷ parts.0 = ap (λ w. drop (length w - 1) w ++ take (length w - 1) w) all ∙ turned (start ∷ parts.0) goal in
    let way_back = EachNext-weaker (IsNext next) (IsOrdered (orders ++ (goal, start) ∷ [])) (λ a b step. still_ordered orders goal start a b ((noted b a).0 (leads.order a b step))) (start ∷ parts.0 ++ goal ∷ []) (subst (EachNext (IsNext next)) whole steps) in
    record {
      others = parts.0;
      begins = begins;
      is_cycle = subst (IsSimpleCycle (orders ++ (goal, start) ∷ [])) (sym begins) (record {
        some = omega arith;
        once = once_turned (start ∷ parts.0) goal (subst IsOnce all walk.once);
        round = (Contains-push orders (goal, start), way_back);
      });
    }
