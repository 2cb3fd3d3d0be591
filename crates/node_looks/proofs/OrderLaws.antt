-- The orders of a path: noted in a table, and held by a graph.
use Rattle.std.proofs.Common.{◌≡◌, ◌≢◌, ℕ, ◌+◌, ◌*◌, ◌<◌, ◌≤◌, List, [], ◌∷◌, ◌++◌, length, get_or, set, replicate, take, drop, All, Contains, Bool, true, false, eqb, ◌&&◌, ◌||◌, refl, sym, ap, ap₂, subst, ◌∙◌, arith, length-append, get_or-set_other, inl, inr, ◌⊎◌}
use Rattle.std.proofs.lemmas.Bool.{eqb-true, eq-eqb, cases_lt}
use Rattle.std.proofs.lemmas.Grind.{get_or-set_at}
use Rattle.std.proofs.lemmas.List.{length-set, length-replicate, get_or-replicate}
use Rattle.std.proofs.lemmas.List.Elements.{All-push, All-contains, Contains-append_left, Contains-append_right}
use Rattle.std.specs.List.{AllZip}
use Rattle.integer_laws.specs.Laws.Members.{In-from_contains, Contains-from_in}
use Rattle.object_orders.specs.Orders.{Graph, IsAmong, IsSimpleCycle, ClosesCycle, EachNext}
use Rattle.node_looks.specs.Held.{ComesBefore, IsTable, IsOrderOf, HoldsOrders}
use Rattle.plan_laws.specs.Laws.OnPath.{before_is, is_on, never}
use Rattle.plan_laws.specs.Looking.{OnPath, is_before}
use Rattle.seq_model.specs.Trees.{IsCycle}
use Rattle.seq_model.specs.declared.tree.Choice.{Choice}
use Rattle.seq_model.specs.declared.tree.Choice.TheVariants as Choices

pub on_path : (path : List Choice) (i j : ℕ) → is_before path i j ≡ true → OnPath path i j
on_path path i j e = Contains-from_in path (Choices.Before i j) (before_is path i j e)

pub on_table : (path : List Choice) (i j : ℕ) → OnPath path i j → is_before path i j ≡ true
on_table path i j c = is_on path i j (In-from_contains path (Choices.Before i j) c)

pub not_on : (path : List Choice) (i j : ℕ) → is_before path i j ≡ false → OnPath path i j → ⊥
not_on path i j e c = never (is_before path i j) (on_table path i j c) e

-- ---- the table
or_assoc : (a b c : Bool) → (a || (b || c)) ≡ ((a || b) || c)
or_assoc true b c = refl
or_assoc false b c = refl

before-append : (path more : List Choice) (i j : ℕ) → is_before (path ++ more) i j ≡ (is_before path i j || is_before more i j)
before-append [] more i j = refl
before-append (Choices.Before a b ∷ path) more i j =
    ap (λ t. (eqb a i && eqb b j) || t) (before-append path more i j) ∙ or_assoc (eqb a i && eqb b j) (is_before path i j) (is_before more i j)
before-append (Choices.Side c d ∷ path) more i j = before-append path more i j

or_false : (a : Bool) → (a || false) ≡ a
or_false true = refl
or_false false = refl

or_true : (a : Bool) → (a || true) ≡ true
or_true true = refl
or_true false = refl

pub differs : (a b : ℕ) → a ≢ b → eqb a b ≡ false
differs a b ne = by (eqb a b) refl
  where
    by : (t : Bool) → eqb a b ≡ t → eqb a b ≡ false
    by true e = absurd (ne (eqb-true a b e))
    by false e = e

pub eqb_never : (a b : ℕ) → a ≡ b → eqb a b ≡ false → ⊥
eqb_never a b e f = never (eqb a b) (eq-eqb a b e) f

and_false : (a : Bool) → (a && false) ≡ false
and_false true = refl
and_false false = refl

pub table_none : IsTable [] (replicate 256 false)
table_none = record { long = length-replicate 256 false; says = λ i j l m. get_or-replicate 256 (16 * i + j) false false (omega arith) }

pub table_side : (path : List Choice) (table : List Bool) (c : Choice) → ((i j : ℕ) → is_before (c ∷ []) i j ≡ false) → IsTable path table → IsTable (path ++ c ∷ []) table
table_side path table c none is = record {
  long = is.long;
  says = λ i j l m. is.says i j l m ∙ sym (before-append path (c ∷ []) i j ∙ ap (λ t. is_before path i j || t) (none i j) ∙ or_false (is_before path i j));
}

-- an order with an object of 16 or more isn't asked for
pub table_far : (path : List Choice) (table : List Bool) (a b : ℕ) → (16 ≤ a) ⊎ (16 ≤ b) → IsTable path table → IsTable (path ++ Choices.Before a b ∷ []) table
table_far path table a b far is = record {
  long = is.long;
  says = λ i j l m. is.says i j l m ∙ sym (before-append path (Choices.Before a b ∷ []) i j ∙ ap (λ t. is_before path i j || t) (other i j l m far) ∙ or_false (is_before path i j));
}
  where
    other : (i j : ℕ) → i < 16 → j < 16 → (16 ≤ a) ⊎ (16 ≤ b) → ((eqb a i && eqb b j) || false) ≡ false
    other i j l m (inl h) = ap (λ t. (t && eqb b j) || false) (differs a i (λ e. absurd (omega arith)))
    other i j l m (inr h) = ap (λ t. (eqb a i && t) || false) (differs b j (λ e. absurd (omega arith))) ∙ ap (λ t. t || false) (and_false (eqb a i))

number_apart : (a b i j : ℕ) → b < 16 → j < 16 → 16 * i + j ≡ 16 * a + b → (a ≡ i) × (b ≡ j)
number_apart a b i j l m e = (omega arith, omega arith)

pub table_more : (path : List Choice) (table : List Bool) (a b : ℕ) → a < 16 → b < 16 → IsTable path table → IsTable (path ++ Choices.Before a b ∷ []) (set table (16 * a + b) true)
table_more path table a b la lb is = record {
  long = length-set table (16 * a + b) true ∙ is.long;
  says = λ i j l m. by i j l m (eqb a i) refl (eqb b j) refl ∙ sym (before-append path (Choices.Before a b ∷ []) i j);
}
  where
    within : 16 * a + b < length table
    within = let e = is.long in omega arith

    other : (i j : ℕ) → i < 16 → j < 16 → ((a ≡ i) × (b ≡ j) → ⊥) → get_or (set table (16 * a + b) true) (16 * i + j) false ≡ is_before path i j
    other i j l m apart =
        let ne : 16 * i + j ≢ 16 * a + b = λ e. apart (number_apart a b i j lb m e) in
        get_or-set_other table (16 * a + b) (16 * i + j) true false ne ∙ is.says i j l m

    by : (i j : ℕ) → i < 16 → j < 16 → (p : Bool) → eqb a i ≡ p → (q : Bool) → eqb b j ≡ q
        → get_or (set table (16 * a + b) true) (16 * i + j) false ≡ (is_before path i j || ((eqb a i && eqb b j) || false))
    by i j l m true ep true eq =
        let x = eqb-true a i ep in
        let y = eqb-true b j eq in
        let same : 16 * i + j ≡ 16 * a + b = omega (arith, x, y) in
        get_or-set_at table (16 * a + b) (16 * i + j) true false same within ∙ sym (ap₂ (λ s t. is_before path i j || ((s && t) || false)) ep eq ∙ or_true (is_before path i j))
    by i j l m true ep false eq =
        other i j l m (λ s. eqb_never b j s.1 eq) ∙ sym (ap₂ (λ s t. is_before path i j || ((s && t) || false)) ep eq ∙ or_false (is_before path i j))
    by i j l m false ep q eq =
        other i j l m (λ s. eqb_never a i s.0 ep) ∙ sym (ap (λ s. is_before path i j || ((s && eqb b j) || false)) ep ∙ or_false (is_before path i j))

-- ---- cycles of a path's orders
zip_of : (R : ℕ → ℕ → Type 0) (x : ℕ) (xs : List ℕ) (y : ℕ) → EachNext R (x ∷ xs ++ y ∷ []) → AllZip R (x ∷ xs) (xs ++ y ∷ [])
zip_of R x [] y h = (h.0, tt)
zip_of R x (z ∷ zs) y h = (h.0, zip_of R z zs y h.1)

pub zip_weaker : (R S : ℕ → ℕ → Type 0) → ((a b : ℕ) → R a b → S a b) → (xs ys : List ℕ) → AllZip R xs ys → AllZip S xs ys
zip_weaker R S w [] [] z = tt
zip_weaker R S w [] (y ∷ ys) z = absurd z
zip_weaker R S w (x ∷ xs) [] z = absurd z
zip_weaker R S w (x ∷ xs) (y ∷ ys) z = (w x y z.0, zip_weaker R S w xs ys z.1)

pub cycle_of : (orders : List (ℕ × ℕ)) (objects : List ℕ) → IsSimpleCycle orders objects → IsCycle (λ a b. Contains orders (a, b)) objects
cycle_of orders [] c = absurd (omega (arith, c.some))
cycle_of orders (x ∷ xs) c = (c.some, zip_of (λ a b. Contains orders (a, b)) x xs x c.round)

pub cycle_on_path : (path : List Choice) (n : ℕ) (orders : List (ℕ × ℕ)) (objects : List ℕ) → All (IsOrderOf path n) orders → IsSimpleCycle orders objects → IsCycle (OnPath path) objects
cycle_on_path path n orders objects all c =
    let r = cycle_of orders objects c in
    (r.0, zip_weaker (λ a b. Contains orders (a, b)) (OnPath path) (λ a b h. (All-contains (IsOrderOf path n) orders (a, b) all h).1) objects (drop 1 objects ++ take 1 objects) r.1)

pub closes_on_path : (path : List Choice) (n i j : ℕ) (held : List (ℕ × ℕ)) (objects : List ℕ) → All (IsOrderOf path n) held → IsAmong n (i, j) → OnPath path i j
    → ClosesCycle held i j objects → IsCycle (OnPath path) objects
closes_on_path path n i j held objects all among on c =
    cycle_on_path path n (held ++ (i, j) ∷ []) objects (All-push (IsOrderOf path n) held (i, j) all (among, on)) c.is_cycle

-- ---- what the graph holds
pub holds_past : (path : List Choice) (n i j k l : ℕ) (g : Graph) → HoldsOrders path n i j g → 16 * i + j ≤ 16 * k + l
    → ((a b : ℕ) → a < n → b < n → a ≢ b → ComesBefore a b k l → OnPath path a b → ComesBefore a b i j) → HoldsOrders path n k l g
holds_past path n i j k l g is more none = record {
  objects = is.objects;
  few = omega (arith, is.few, more);
  only = is.only;
  all = λ a b p q apart before on. is.all a b p q apart (none a b p q apart before on) on;
}

-- what comes before the next pair comes before this one, or is this one
pub next_pair : (a b i j : ℕ) → ComesBefore a b i (j + 1) → ComesBefore a b i j ⊎ ((a ≡ i) × (b ≡ j))
next_pair a b i j (inl h) = inl (inl h)
next_pair a b i j (inr h) = by (cases_lt b j)
  where
    by : (b < j) ⊎ (j ≤ b) → ComesBefore a b i j ⊎ ((a ≡ i) × (b ≡ j))
    by (inl k) = inl (inr (h.0, k))
    by (inr k) = let less = h.1 in inr (h.0, omega (arith, less, k))

pub holds_same : (path : List Choice) (n i j : ℕ) (g : Graph) → HoldsOrders path n i j g → (i ≢ j → OnPath path i j → ⊥) → HoldsOrders path n i (j + 1) g
holds_same path n i j g is none = holds_past path n i j i (j + 1) g is (omega arith) (λ a b p q apart before on. by a b apart on (next_pair a b i j before))
  where
    by : (a b : ℕ) → a ≢ b → OnPath path a b → ComesBefore a b i j ⊎ ((a ≡ i) × (b ≡ j)) → ComesBefore a b i j
    by a b apart on (inl h) = h
    by a b apart on (inr h) =
        absurd (none (λ e. apart (h.0 ∙ e ∙ sym h.1)) (subst (λ x. OnPath path x j) h.0 (subst (OnPath path a) h.1 on)))

pub holds_more : (path : List Choice) (n i j : ℕ) (g h : Graph) → HoldsOrders path n i j g → IsAmong n (i, j) → OnPath path i j
    → h ≡ record g { held = g.held ++ (i, j) ∷ [] } → HoldsOrders path n i (j + 1) h
holds_more path n i j g h is among on e = subst (HoldsOrders path n i (j + 1)) (sym e) held
  where
    pair : ℕ → ℕ → ℕ × ℕ
    pair x y = (x, y)

    orders : List (ℕ × ℕ)
    orders = g.held ++ (i, j) ∷ []

    by : (a b : ℕ) → a < n → b < n → a ≢ b → OnPath path a b → ComesBefore a b i j ⊎ ((a ≡ i) × (b ≡ j)) → Contains orders (a, b)
    by a b l m apart on (inl k) = Contains-append_left g.held ((i, j) ∷ []) (a, b) (is.all a b l m apart k on)
    by a b l m apart on (inr k) = Contains-append_right g.held ((i, j) ∷ []) (a, b) (Contains-from_in ((i, j) ∷ []) (a, b) (inl (ap₂ pair k.0 k.1)))

    held : HoldsOrders path n i (j + 1) (record g { held = orders })
    held = record {
      objects = is.objects;
      few = omega (arith, is.few, length-append g.held ((i, j) ∷ []));
      only = All-push (IsOrderOf path n) g.held (i, j) is.only (among, on);
      all = λ a b l m apart before on. by a b l m apart on (next_pair a b i j before);
    }
