-- How the sets follow the orders, as one more is held and as the last is taken away.
use Rattle.std.proofs.Common.{◌≡◌, ◌≢◌, ◌↔◌, ℕ, zero, suc, ◌+◌, ◌<◌, ◌≤◌, List, [], ◌∷◌, ◌++◌, length, get_or, set, take, replicate, ◌⊎◌, inl, inr, ⊎_elim, refl, sym, subst, ap, ◌∙◌, arith, get_or-set_same, get_or-set_other, length-take}
use Rattle.std.proofs.lemmas.Bool.{cases_eq, cases_lt}
use Rattle.std.proofs.lemmas.List.{get_or_append_left, get_or_at, get_or-take, length_push, take-append-le, take_at, take_more, take-take}
use Rattle.std.proofs.lemmas.List.Elements.{All-append, All-contains, Contains-append_left, Contains-push, Contains-push_cases}
use Rattle.object_orders.specs.Orders.{IsAmong, AreAmong, IsOrdered}
use Rattle.order_graph.specs.Sets.{HasMember, HasBefore, AreBefore, AreNoted, AreFormer}

zero_at : (n k : ℕ) → get_or {A = ℕ} (replicate n 0) k 0 ≡ 0
zero_at zero k = refl
zero_at (suc n) zero = refl
zero_at (suc n) (suc k) = zero_at n k

-- an order among these and one more
ordered_cases : (orders : List (ℕ × ℕ)) (i j a b : ℕ) → IsOrdered (orders ++ (i, j) ∷ []) a b → IsOrdered orders a b ⊎ ((a ≡ i) × (b ≡ j))
ordered_cases orders i j a b order = ⊎_elim
    (λ old. inl old)
    (λ new. inr (ap (λ o. o.0) (sym new), ap (λ o. o.1) (sym new)))
    (Contains-push_cases orders (i, j) (a, b) order)

pub other_first : (orders : List (ℕ × ℕ)) (i j a b : ℕ) → a ≢ i → IsOrdered (orders ++ (i, j) ∷ []) a b → IsOrdered orders a b
other_first orders i j a b apart order = ⊎_elim (λ old. old) (λ new. absurd (apart new.0)) (ordered_cases orders i j a b order)

other_second : (orders : List (ℕ × ℕ)) (i j a b : ℕ) → b ≢ j → IsOrdered (orders ++ (i, j) ∷ []) a b → IsOrdered orders a b
other_second orders i j a b apart order = ⊎_elim (λ old. old) (λ new. absurd (apart new.1)) (ordered_cases orders i j a b order)

pub still_ordered : (orders : List (ℕ × ℕ)) (i j a b : ℕ) → IsOrdered orders a b → IsOrdered (orders ++ (i, j) ∷ []) a b
still_ordered orders i j a b = Contains-append_left orders ((i, j) ∷ []) (a, b)

-- the set of the second object of one more order
one_before : (orders : List (ℕ × ℕ)) (i j old new : ℕ) → AreBefore orders j old → HasMember new i → ((a : ℕ) → a ≢ i → HasMember new a ↔ HasMember old a) → AreBefore (orders ++ (i, j) ∷ []) j new
one_before orders i j old new before has others a = (
  λ is. ⊎_elim
      (λ same. subst (λ k. IsOrdered (orders ++ (i, j) ∷ []) k j) (sym same) (Contains-push orders (i, j)))
      (λ apart. still_ordered orders i j a j ((before a).0 ((others a apart).0 is)))
      (cases_eq a i),
  λ order. ⊎_elim
      (λ same. subst (HasMember new) (sym same) has)
      (λ apart. (others a apart).1 ((before a).1 (other_first orders i j a j apart order)))
      (cases_eq a i),
)

pub note_more : (orders : List (ℕ × ℕ)) (before : List ℕ) (i j new : ℕ) → j < length before → AreNoted orders before → HasMember new i → ((a : ℕ) → a ≢ i → HasMember new a ↔ HasMember (get_or before j 0) a) → AreNoted (orders ++ (i, j) ∷ []) (set before j new)
note_more orders before i j new within noted has others b = ⊎_elim
    (λ same.
    let set_is : get_or (set before j new) b 0 ≡ new = ap (λ k. get_or (set before j new) k 0) same ∙ get_or-set_same before j new 0 within in
    subst (AreBefore (orders ++ (i, j) ∷ []) b) (sym set_is) (subst (λ k. AreBefore (orders ++ (i, j) ∷ []) k new) (sym same) (one_before orders i j (get_or before j 0) new (noted j) has others)))
    (λ apart. subst (AreBefore (orders ++ (i, j) ∷ []) b) (sym (get_or-set_other before j b new 0 apart)) (λ a. (
      λ is. still_ordered orders i j a b ((noted b a).0 is),
      λ order. (noted b a).1 (other_second orders i j a b apart order),
    )))
    (cases_eq b j)

pub note_fewer : (orders : List (ℕ × ℕ)) (before : List ℕ) (i j old : ℕ) → j < length before → AreNoted (orders ++ (i, j) ∷ []) before → AreBefore orders j old → AreNoted orders (set before j old)
note_fewer orders before i j old within noted was b = ⊎_elim
    (λ same.
    let set_is : get_or (set before j old) b 0 ≡ old = ap (λ k. get_or (set before j old) k 0) same ∙ get_or-set_same before j old 0 within in
    subst (AreBefore orders b) (sym set_is) (subst (λ k. AreBefore orders k old) (sym same) was))
    (λ apart. subst (AreBefore orders b) (sym (get_or-set_other before j b old 0 apart)) (λ a. (
      λ is. other_second orders i j a b apart ((noted b a).0 is),
      λ order. (noted b a).1 (still_ordered orders i j a b order),
    )))
    (cases_eq b j)

pub former_more : (held : List (ℕ × ℕ)) (former : List ℕ) (i j old place : ℕ) → place ≡ length held → place < length former → AreFormer held former → AreBefore held j old → AreFormer (held ++ (i, j) ∷ []) (set former place old)
former_more held former i j old place is_end room are was k below =
    let more = held ++ (i, j) ∷ [] in
    ⊎_elim
    (λ earlier.
    let before_end : k < length held = omega arith in
    let part : take k more ≡ take k held = take-append-le k held ((i, j) ∷ []) (omega arith) in
    let order : get_or more k (0, 0) ≡ get_or held k (0, 0) = get_or_append_left held ((i, j) ∷ []) (0, 0) k before_end in
    let kept : get_or (set former place old) k 0 ≡ get_or former k 0 = get_or-set_other former place k old 0 (λ same. omega arith) in
    rw (part, order, kept) (are k before_end))
    (λ later.
    let at_end : k ≡ length held = omega (arith, length_push held (i, j)) in
    let at : k ≡ place = omega arith in
    let part : take k more ≡ held = take_at held ((i, j) ∷ []) k (sym at_end) in
    let order : get_or more k (0, 0) ≡ (i, j) = get_or_at held (i, j) [] (0, 0) k (sym at_end) in
    let kept : get_or (set former place old) k 0 ≡ old = ap (λ p. get_or (set former place old) p 0) at ∙ get_or-set_same former place old 0 room in
    rw (part, order, kept) was)
    (cases_lt k place)

-- The list of orders and the numbers of those held, n before the last is taken away and m after.

pub former_fewer : (orders : List (ℕ × ℕ)) (former : List ℕ) (n m : ℕ) → m ≤ n → n ≤ length orders → AreFormer (take n orders) former → AreFormer (take m orders) former
former_fewer orders former n m fewer within are k below =
    let early : k < m = omega (arith, length-take m orders) in
    let of_more : take k (take n orders) ≡ take k orders = take-take k n orders (omega arith) in
    let of_fewer : take k (take m orders) ≡ take k orders = take-take k m orders (omega arith) in
    let order : get_or (take m orders) k (0, 0) ≡ get_or (take n orders) k (0, 0) = get_or-take m orders k (0, 0) early ∙ sym (get_or-take n orders k (0, 0) (omega arith)) in
    rw (of_fewer ∙ sym of_more, order) (are k (omega (arith, length-take n orders)))

pub last_was : (orders : List (ℕ × ℕ)) (former : List ℕ) (n m : ℕ) → n ≡ m + 1 → n ≤ length orders → AreFormer (take n orders) former → AreBefore (take m orders) (get_or orders m (0, 0)).1 (get_or former m 0)
last_was orders former n m one within are =
    let part : take m orders ≡ take m (take n orders) = sym (take-take m n orders (omega arith)) in
    let order : get_or orders m (0, 0) ≡ get_or (take n orders) m (0, 0) = sym (get_or-take n orders m (0, 0) (omega arith)) in
    rw (part, order) (are m (omega (arith, length-take n orders)))

pub last_undone : (orders : List (ℕ × ℕ)) (before former : List ℕ) (n m : ℕ) → n ≡ m + 1 → n ≤ length orders → (get_or orders m (0, 0)).1 < length before → AreNoted (take n orders) before → AreFormer (take n orders) former → AreNoted (take m orders) (set before (get_or orders m (0, 0)).1 (get_or former m 0))
last_undone orders before former n m one within fits noted are =
    let o = get_or orders m (0, 0) in
    let whole : take n orders ≡ take m orders ++ o ∷ [] = ap (λ k. take k orders) one ∙ take_more orders m (0, 0) (omega arith) in
    note_fewer (take m orders) before o.0 o.1 (get_or former m 0) fits (subst (λ xs. AreNoted xs before) whole noted) (last_was orders former n m one within are)

-- what the sets say is among the objects of the orders
pub before_among : (n : ℕ) (orders : List (ℕ × ℕ)) (before : List ℕ) → AreAmong n orders → AreNoted orders before → (a b : ℕ) → HasBefore before a b → IsAmong n (a, b)
before_among n orders before among noted a b is = All-contains (IsAmong n) orders (a, b) among ((noted b a).0 is)

pub last_among : (objects : ℕ) (orders : List (ℕ × ℕ)) (n m : ℕ) → n ≡ m + 1 → n ≤ length orders → AreAmong objects (take n orders) → IsAmong objects (get_or orders m (0, 0))
last_among objects orders n m one within among =
    subst (IsAmong objects) (get_or-take n orders m (0, 0) (omega arith)) (among m (0, 0) (omega (arith, length-take n orders)))

pub all_among : (n : ℕ) (held forced : List (ℕ × ℕ)) → AreAmong n held → AreAmong n forced → AreAmong n (held ++ forced)
all_among n held forced = All-append (IsAmong n) held forced
