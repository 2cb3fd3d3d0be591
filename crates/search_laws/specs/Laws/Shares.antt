-- The allowances of the children of a split that is earned sum to at most that of its path.
--
--   Longer path more             what is on a path is on the longer one, which is fair too
--   order_shares, side_shares    an order, or a side of a contact that isn't opened yet, shares its path's allowance
--   full_is_enough               so a tree of earned splits has fewer nodes than Full
--   spent_below_full             and a spent tree's budget is below it
use Rattle.std.proofs.Common.{◌≡◌, ◌≢◌, ℕ, suc, ◌+◌, ◌*◌, ◌^◌, ◌<◌, ◌≤◌, Bool, true, false, cond, eqb, ◌&&◌, ◌||◌, List, [], ◌∷◌, All, Contains, length, map, max, refl, sym, ap, subst, ◌∙◌, arith, add-one, inl, inr, ◌⊎◌}
use Rattle.std.proofs.Math.Nat.{mul-le-mul, pow-le-pow_right, le_of_mul-le-mul_right, pow-suc, one-le-pow}
use Rattle.std.proofs.lemmas.List.{length-map}
use Rattle.std.proofs.lemmas.List.Sums.{sum_by-cons}
use Rattle.std.proofs.lemmas.List.Elements.{All-nil, All-cons}
use Rattle.std.specs.List.{sum_by}
use Rattle.search_laws.specs.Laws.Allowance.{is_opened, same_contact, unopened, unopened_fewer, unopened_less, unopened_most, pair_open, pair_room, allowance, Fair, before_also_order, before_also_side, opened_also_order, opened_also_side}
use Rattle.plan_laws.specs.Laws.OnPath.{before_is, is_on, or_cases, never, same_pair}
use Rattle.plan_laws.specs.Looking.{is_before}
use Rattle.search_laws.specs.Searches.{IsEarnedTree}
use Rattle.search_laws.specs.Laws.SideCounts.{three_at_contact}
use Rattle.search_laws.specs.Laws.Opened.{opened_is_clear}
use Rattle.seq_model.specs.declared.tree.Tree.{Tree}
use Rattle.search_laws.specs.Laws.Counting.{Shares, MayHave, few_in_tree}
use Rattle.search_laws.specs.Laws.Sums.{pairs_le, pairs_less}
use Rattle.integer_laws.specs.Members.{In}
use Rattle.integer_laws.specs.Laws.Members.{In-from_contains, Contains-from_in}
use Rattle.seq_model.specs.Budgets.{over_pairs, contact_count, Full, HasSides, IsMostSides}
use Rattle.seq_model.specs.Contacts.{IsContact}
use Rattle.seq_model.specs.Splits.{SpentTree, IsUnordered, Earned}
use Rattle.seq_model.specs.Trees.{also, IsPath, AreChildren, IsSoundNode, IsTree}
use Rattle.model_laws.specs.Laws.Reading.{no_choice, reads_paths}
use Rattle.seq_model.specs.declared.job.Job.{Job}
use Rattle.seq_model.specs.declared.tree.Choice.{Choice}
use Rattle.seq_model.specs.declared.tree.Choice.TheVariants as Choices
use Rattle.seq_model.specs.declared.tree.Contact.{Contact}
use Rattle.seq_model.specs.declared.tree.Dir.{Dir}
use Rattle.seq_model.specs.declared.tree.Node.{Node}
use Rattle.seq_model.specs.declared.tree.Node.TheVariants as Nodes
use Rattle.std.proofs.lemmas.Bool.{eqb-true, eq-eqb, cases_lt, and_parts}

pub record Longer (path more : List Choice) : Type 0 where
  pub before : (i j : ℕ) → is_before path i j ≡ true → is_before more i j ≡ true
  pub opened : (c : Contact) → is_opened path c ≡ true → is_opened more c ≡ true
  pub fair : Fair more

not_true : (b : Bool) → (b ≡ true → ⊥) → b ≡ false
not_true true h = absurd (h refl)
not_true false h = refl

open_le : (path more : List Choice) → Longer path more → (i j : ℕ) → pair_open more i j ≤ pair_open path i j
open_le path more l i j = by (is_before path i j) (is_before path j i) (is_before more i j) (is_before more j i) (l.before i j) (l.before j i)
  where
    by : (p q r s : Bool) → (p ≡ true → r ≡ true) → (q ≡ true → s ≡ true) → cond (r || s) 0 1 ≤ cond (p || q) 0 1
    by true q r s h k = subst (λ t. cond (t || s) 0 1 ≤ 0) (sym (h refl)) (omega arith)
    by false true r s h k = at r
      where
        at : (t : Bool) → cond (t || s) 0 1 ≤ 0
        at true = omega arith
        at false = subst (λ x. cond x 0 1 ≤ 0) (sym (k refl)) (omega arith)
    by false false true s h k = omega arith
    by false false false true h k = omega arith
    by false false false false h k = omega arith

room_le : (job : Job) (path more : List Choice) → Longer path more → (i j : ℕ) → pair_room job more i j ≤ pair_room job path i j
room_le job path more l i j =
    by (is_before path i j) (is_before path j i) (is_before more i j) (is_before more j i) (l.before i j) (l.before j i) (l.fair i j)
    (unopened_fewer job path more i j l.opened) (unopened_fewer job path more j i l.opened) (unopened_most job more i j) (unopened_most job more j i)
  where
    by : (p q r s : Bool) → (p ≡ true → r ≡ true) → (q ≡ true → s ≡ true) → (r ≡ true → s ≡ true → ⊥) → {a b c d e f : ℕ} → a ≤ b → c ≤ d → a ≤ e → c ≤ f
        → cond r a (cond s c (max e f)) ≤ cond p b (cond q d (max e f))
    by true q r s h k n {a} {b} {c} {d} {e} {f} x y z w = subst (λ t. cond t a (cond s c (max e f)) ≤ b) (sym (h refl)) x
    by false true true s h k n x y z w = absurd (n refl (k refl))
    by false true false s h k n {a} {b} {c} {d} {e} {f} x y z w = subst (λ t. cond t c (max e f) ≤ d) (sym (k refl)) y
    by false false true s h k n x y z w = omega arith
    by false false false true h k n x y z w = omega arith
    by false false false false h k n x y z w = omega arith

-- ---- an order more
order_longer : (path : List Choice) (a b : ℕ) → Fair path → a ≢ b → is_before path b a ≡ false → Longer path (also path (Choices.Before a b))
order_longer path a b fair apart free = record {
  before = λ i j h. before_also_order path a b i j ∙ ap (λ t. t || (eqb a i && eqb b j)) h;
  opened = λ c h. opened_also_order path a b c ∙ h;
  fair = λ i j h k. both i j (or_cases (is_before path i j) (eqb a i && eqb b j) (sym (before_also_order path a b i j) ∙ h)) (or_cases (is_before path j i) (eqb a j && eqb b i) (sym (before_also_order path a b j i) ∙ k));
}
  where
    at : (i j : ℕ) → (eqb a i && eqb b j) ≡ true → (a ≡ i) × (b ≡ j)
    at i j e = let t = and_parts (eqb a i) (eqb b j) e in (eqb-true a i t.0, eqb-true b j t.1)

    back : (i j : ℕ) → (a ≡ i) × (b ≡ j) → is_before path j i ≡ true → ⊥
    back i j e h = never (is_before path b a) (ap (λ x. is_before path x a) e.1 ∙ (ap (λ x. is_before path j x) e.0 ∙ h)) free

    both : (i j : ℕ) → ((is_before path i j ≡ true) ⊎ ((eqb a i && eqb b j) ≡ true)) → ((is_before path j i ≡ true) ⊎ ((eqb a j && eqb b i) ≡ true)) → ⊥
    both i j (inl h) (inl k) = fair i j h k
    both i j (inl h) (inr k) = back j i (at j i k) h
    both i j (inr h) (inl k) = back i j (at i j h) k
    both i j (inr h) (inr k) = apart ((at i j h).0 ∙ sym (at j i k).1)

-- twice the allowance of a child fits
twice : (s u k v l : ℕ) → 0 < s → v + 1 ≤ u → l ≤ k → 2 ^ v * s ^ l + 2 ^ v * s ^ l ≤ 2 ^ u * s ^ k
twice s u k v l pos h g =
    let a : 2 ^ v + 2 ^ v ≤ 2 ^ u = subst (λ t. t ≤ 2 ^ u) (pow-suc 2 v ∙ omega arith) (pow-le-pow_right (omega arith) (omega arith)) in
    let b : s ^ l ≤ s ^ k = pow-le-pow_right pos g in
    subst (λ t. t ≤ 2 ^ u * s ^ k) (omega arith) (mul-le-mul a b)

times_more : (s u k v l : ℕ) → 0 < s → v ≤ u → l + 1 ≤ k → 2 ^ v * s ^ l * s ≤ 2 ^ u * s ^ k
times_more s u k v l pos h g =
    let a : 2 ^ v ≤ 2 ^ u = pow-le-pow_right (omega arith) h in
    let b : s ^ l * s ≤ s ^ k = subst (λ t. t ≤ s ^ k) (pow-suc s l) (pow-le-pow_right pos (omega arith)) in
    subst (λ t. t ≤ 2 ^ u * s ^ k) (omega arith) (mul-le-mul a b)

-- a child of an order split, of the pair i < j in either order
order_child : (job : Job) (s : ℕ) (path : List Choice) (a b i j : ℕ) → 0 < s → Fair path → a ≢ b → is_before path i j ≡ false → is_before path j i ≡ false → is_before path b a ≡ false
    → i < j → j < length job.objects → (pair_open (also path (Choices.Before a b)) i j ≡ 0)
    → allowance job s (also path (Choices.Before a b)) + allowance job s (also path (Choices.Before a b)) ≤ allowance job s path
order_child job s path a b i j pos fair apart ij ji free low high now =
    let l = order_longer path a b fair apart free in
    twice s (over_pairs (pair_open path) (length job.objects)) (over_pairs (pair_room job path) (length job.objects))
    (over_pairs (pair_open (also path (Choices.Before a b))) (length job.objects)) (over_pairs (pair_room job (also path (Choices.Before a b))) (length job.objects)) pos
    (pairs_less (pair_open (also path (Choices.Before a b))) (pair_open path) (length job.objects) i j (λ x y h k. open_le path (also path (Choices.Before a b)) l x y) low high
    (subst (λ t. t + 1 ≤ pair_open path i j) (sym now) (subst (λ (p : Bool). 0 + 1 ≤ cond (p || is_before path j i) 0 1) (sym ij) (subst (λ (p : Bool). 0 + 1 ≤ cond p 0 1) (sym ji) (omega arith)))))
    (pairs_le (pair_room job (also path (Choices.Before a b))) (pair_room job path) (length job.objects) (λ x y h k. room_le job path (also path (Choices.Before a b)) l x y))

unordered : (path : List Choice) (i j : ℕ) → (Contains path (Choices.Before i j) → ⊥) → is_before path i j ≡ false
unordered path i j h = not_true (is_before path i j) (λ t. h (Contains-from_in path (Choices.Before i j) (before_is path i j t)))

abbrev unsettled : Bool → ℕ
unsettled b = cond b 0 1

settled_first : (p q : Bool) → p ≡ true → unsettled (p || q) ≡ 0
settled_first p q h = ap (λ t. unsettled (t || q)) h

settled_second : (p q : Bool) → q ≡ true → unsettled (p || q) ≡ 0
settled_second true q h = refl
settled_second false q h = ap unsettled h

pub order_shares : (job : Job) (s : ℕ) (path : List Choice) (i j : ℕ) → 0 < s → Fair path → i < j → j < length job.objects → IsUnordered path i j
    → Shares (allowance job s) Fair path (also path (Choices.Before i j) ∷ also path (Choices.Before j i) ∷ [])
order_shares job s path i j pos fair low high free = record {
  two = omega arith;
  sum = omega (arith, first, second, sum_by-cons (allowance job s) (also path (Choices.Before i j)) (also path (Choices.Before j i) ∷ []), sum_by-cons (allowance job s) (also path (Choices.Before j i)) []);
  fair = All-cons Fair (also path (Choices.Before i j)) (also path (Choices.Before j i) ∷ []) (order_longer path i j fair (λ e. omega (arith, e, low)) ji).fair
      (All-cons Fair (also path (Choices.Before j i)) [] (order_longer path j i fair (λ e. omega (arith, e, low)) ij).fair (All-nil Fair));
}
  where
    ij : is_before path i j ≡ false
    ij = unordered path i j free.0

    ji : is_before path j i ≡ false
    ji = unordered path j i free.1

    on : (a b : ℕ) → is_before (also path (Choices.Before a b)) a b ≡ true
    on a b = before_also_order path a b a b ∙ (ap (λ t. is_before path a b || t) (same_pair a b) ∙ right (is_before path a b))
      where
        right : (x : Bool) → (x || true) ≡ true
        right true = refl
        right false = refl

    first : allowance job s (also path (Choices.Before i j)) + allowance job s (also path (Choices.Before i j)) ≤ allowance job s path
    first = order_child job s path i j i j pos fair (λ e. omega (arith, e, low)) ij ji ji low high
        (settled_first (is_before (also path (Choices.Before i j)) i j) (is_before (also path (Choices.Before i j)) j i) (on i j))

    second : allowance job s (also path (Choices.Before j i)) + allowance job s (also path (Choices.Before j i)) ≤ allowance job s path
    second = order_child job s path j i i j pos fair (λ e. omega (arith, e, low)) ij ji ij low high
        (settled_second (is_before (also path (Choices.Before j i)) i j) (is_before (also path (Choices.Before j i)) j i) (on j i))

-- ---- a side more
itself : (c : Contact) → same_contact c c ≡ true
itself c = by (eqb c.i c.i) (eqb c.zi c.zi) (eqb c.part c.part) (eqb c.zj c.zj) (eqb c.j c.j) (eq-eqb c.i c.i refl) (eq-eqb c.zi c.zi refl) (eq-eqb c.part c.part refl) (eq-eqb c.zj c.zj refl) (eq-eqb c.j c.j refl)
  where
    by : (a b d e f : Bool) → a ≡ true → b ≡ true → d ≡ true → e ≡ true → f ≡ true → ((a && b) && (d && (e && f))) ≡ true
    by a b d e f p q r s t = ap (λ x. (x && b) && (d && (e && f))) p ∙ (ap (λ x. x && (d && (e && f))) q ∙ (ap (λ x. x && (e && f)) r ∙ (ap (λ x. x && f) s ∙ t)))

side_longer : (path : List Choice) (c : Contact) (dir : Dir) → Fair path → Longer path (also path (Choices.Side c dir))
side_longer path c dir fair = record {
  before = λ i j h. before_also_side path c dir i j ∙ h;
  opened = λ d h. opened_also_side path c dir d ∙ ap (λ t. t || same_contact c d) h;
  fair = λ i j h k. fair i j (sym (before_also_side path c dir i j) ∙ h) (sym (before_also_side path c dir j i) ∙ k);
}

side_child : (job : Job) (s : ℕ) (path : List Choice) (c : Contact) (dir : Dir) → 0 < s → Fair path → IsContact job c → is_before path c.i c.j ≡ true → is_opened path c ≡ false
    → allowance job s (also path (Choices.Side c dir)) * s ≤ allowance job s path
side_child job s path c dir pos fair is on closed =
    times_more s (over_pairs (pair_open path) (length job.objects)) (over_pairs (pair_room job path) (length job.objects))
    (over_pairs (pair_open more) (length job.objects)) (over_pairs (pair_room job more) (length job.objects)) pos
    (pairs_le (pair_open more) (pair_open path) (length job.objects) (λ x y h k. open_le path more l x y))
    (by (cases_lt c.i c.j))
  where
    more : List Choice
    more = also path (Choices.Side c dir)

    l : Longer path (also path (Choices.Side c dir))
    l = side_longer path c dir fair

    now : is_opened (also path (Choices.Side c dir)) c ≡ true
    now = opened_also_side path c dir c ∙ (ap (λ t. is_opened path c || t) (itself c) ∙ right (is_opened path c))
      where
        right : (x : Bool) → (x || true) ≡ true
        right true = refl
        right false = refl

    less : unopened job (also path (Choices.Side c dir)) c.i c.j + 1 ≤ unopened job path c.i c.j
    less = unopened_less job path (also path (Choices.Side c dir)) c l.opened is closed now

    straight : (p q : Bool) (a b e f : ℕ) → p ≡ true → q ≡ true → a + 1 ≤ b → cond q a e + 1 ≤ cond p b f
    straight p q a b e f x y h = subst (λ t. cond q a e + 1 ≤ cond t b f) (sym x) (subst (λ t. cond t a e + 1 ≤ b) (sym y) h)

    turned : (p q r s : Bool) (a b d e f g : ℕ) → p ≡ false → q ≡ false → r ≡ true → s ≡ true → a + 1 ≤ b → cond q d (cond s a e) + 1 ≤ cond p f (cond r b g)
    turned p q r s a b d e f g x y z w h =
        subst (λ t. cond q d (cond s a e) + 1 ≤ cond t f (cond r b g)) (sym x) (subst (λ t. cond t d (cond s a e) + 1 ≤ cond r b g) (sym y) (straight r s a b e g z w h))

    by : ((c.i < c.j) ⊎ (c.j ≤ c.i)) → over_pairs (pair_room job (also path (Choices.Side c dir))) (length job.objects) + 1 ≤ over_pairs (pair_room job path) (length job.objects)
    by (inl low) =
        pairs_less (pair_room job (also path (Choices.Side c dir))) (pair_room job path) (length job.objects) c.i c.j (λ x y h k. room_le job path (also path (Choices.Side c dir)) l x y) low is.j_in
        (straight (is_before path c.i c.j) (is_before (also path (Choices.Side c dir)) c.i c.j) _ _ _ _ on (l.before c.i c.j on) less)
    by (inr high) =
        pairs_less (pair_room job (also path (Choices.Side c dir))) (pair_room job path) (length job.objects) c.j c.i (λ x y h k. room_le job path (also path (Choices.Side c dir)) l x y)
        (omega (arith, high, is.apart)) is.i_in
        (turned (is_before path c.j c.i) (is_before (also path (Choices.Side c dir)) c.j c.i) (is_before path c.i c.j) (is_before (also path (Choices.Side c dir)) c.i c.j) _ _ _ _ _ _
        (not_true (is_before path c.j c.i) (λ t. fair c.i c.j on t)) (not_true (is_before (also path (Choices.Side c dir)) c.j c.i) (λ t. l.fair c.i c.j (l.before c.i c.j on) t)) on (l.before c.i c.j on) less)

each_share : (job : Job) (s : ℕ) (path : List Choice) (c : Contact) → 0 < s → Fair path → IsContact job c → is_before path c.i c.j ≡ true → is_opened path c ≡ false
    → (dirs : List Dir) → sum_by (allowance job s) (map (λ dir. also path (Choices.Side c dir)) dirs) * s ≤ length dirs * allowance job s path
each_share job s path c pos fair is on closed [] = omega arith
each_share job s path c pos fair is on closed (dir ∷ dirs) =
    add (allowance job s (also path (Choices.Side c dir))) (sum_by (allowance job s) (map (λ dir. also path (Choices.Side c dir)) dirs)) s (length dirs) (allowance job s path) _
    (sum_by-cons (allowance job s) (also path (Choices.Side c dir)) (map (λ dir. also path (Choices.Side c dir)) dirs))
    (side_child job s path c dir pos fair is on closed) (each_share job s path c pos fair is on closed dirs)
  where
    add : (x r s n f w : ℕ) → w ≡ x + r → x * s ≤ f → r * s ≤ n * f → w * s ≤ suc n * f
    add x r s n f w e h k = subst (λ t. t * s ≤ suc n * f) (sym e) (omega (arith, h, k))

all_fair : (path : List Choice) (c : Contact) → Fair path → (dirs : List Dir) → All Fair (map (λ dir. also path (Choices.Side c dir)) dirs)
all_fair path c fair [] = All-nil Fair
all_fair path c fair (dir ∷ dirs) = All-cons Fair (also path (Choices.Side c dir)) (map (λ dir. also path (Choices.Side c dir)) dirs) (side_longer path c dir fair).fair (all_fair path c fair dirs)

pub side_shares : (job : Job) (s : ℕ) (path : List Choice) (c : Contact) (dirs : List Dir) → 0 < s → Fair path → IsContact job c → is_before path c.i c.j ≡ true → is_opened path c ≡ false
    → 2 ≤ length dirs → length dirs ≤ s → Shares (allowance job s) Fair path (map (λ dir. also path (Choices.Side c dir)) dirs)
side_shares job s path c dirs pos fair is on closed two most = record {
  two = subst (λ n. 2 ≤ n) (sym (length-map dirs (λ dir. also path (Choices.Side c dir)))) two;
  sum = within (sum_by (allowance job s) (map (λ dir. also path (Choices.Side c dir)) dirs)) (allowance job s path) (length dirs) s pos most (each_share job s path c pos fair is on closed dirs);
  fair = all_fair path c fair dirs;
}
  where
    within : (w f n s : ℕ) → 0 < s → n ≤ s → w * s ≤ n * f → w ≤ f
    within w f n s pos h k =
        let m : n * f ≤ f * s = subst (λ t. n * f ≤ t) (omega arith) (mul-le-mul h (le f)) in
        le_of_mul-le-mul_right (omega (arith, k, m)) pos
      where
        le : (x : ℕ) → x ≤ x
        le x = omega arith

-- ---- any search
opened_is : (path : List Choice) (c : Contact) → is_opened path c ≡ true → (dir : Dir) × In (Choices.Side c dir) path
opened_is [] c h = absurd (never false h refl)
opened_is (Choices.Before a b ∷ path) c h = let r = opened_is path c h in (r.0, inr r.1)
opened_is (Choices.Side d dir ∷ path) c h = by (or_cases (same_contact d c) (is_opened path c) h) (λ r. opened_is path c r)
  where
    same : same_contact d c ≡ true → d ≡ c
    same e =
        let a = and_parts (eqb d.i c.i && eqb d.zi c.zi) (eqb d.part c.part && (eqb d.zj c.zj && eqb d.j c.j)) e in
        let b = and_parts (eqb d.i c.i) (eqb d.zi c.zi) a.0 in
        let f = and_parts (eqb d.part c.part) (eqb d.zj c.zj && eqb d.j c.j) a.1 in
        let g = and_parts (eqb d.zj c.zj) (eqb d.j c.j) f.1 in
        ap (λ x. record d { i = x }) (eqb-true d.i c.i b.0) ∙ (ap (λ x. record d { i = c.i; zi = x }) (eqb-true d.zi c.zi b.1) ∙ (ap (λ x. record d { i = c.i; zi = c.zi; part = x }) (eqb-true d.part c.part f.0)
        ∙ (ap (λ x. record d { i = c.i; zi = c.zi; part = c.part; zj = x }) (eqb-true d.zj c.zj g.0) ∙ ap (λ x. record c { j = x }) (eqb-true d.j c.j g.1))))

    by : ((same_contact d c ≡ true) ⊎ (is_opened path c ≡ true)) → (is_opened path c ≡ true → (o : Dir) × In (Choices.Side c o) path) → (o : Dir) × In (Choices.Side c o) (Choices.Side d dir ∷ path)
    by (inl e) rest = (dir, inl (ap (λ x. Choices.Side x dir) (sym (same e))))
    by (inr h) rest = let r = rest h in (r.0, inr r.1)

fair_none : Fair []
fair_none i j h k = never false h refl

abbrev Good : Job → ℕ → List Choice → Node → Type 0
Good job e path node = IsSoundNode job e path node × Earned job e path node

allowed : (job : Job) (s : ℕ) (path : List Choice) → 0 < s → 1 ≤ allowance job s path
allowed job s path pos = mul-le-mul (one-le-pow (over_pairs (pair_open path) (length job.objects)) 2 (omega arith)) (one-le-pow (over_pairs (pair_room job path) (length job.objects)) s pos)

may_have : (job : Job) (e s : ℕ) → IsMostSides job s → (path : List Choice) (node : Node) (paths : List (List Choice)) → Fair path → Good job e path node × IsPath job path → AreChildren job path node paths
    → MayHave (allowance job s) Fair path paths
may_have job e s most path (Nodes.Order i j) paths fair good children =
    inr (subst (Shares (allowance job s) Fair path) (sym children) (order_shares job s path i j (omega (arith, most.at_least)) fair good.0.0.0 good.0.0.1 good.0.1.0))
may_have job e s most path (Nodes.Side contact count) paths fair good children =
    let has : HasSides job contact (length children.0) = record { is = good.0.0.0; dirs = children.0; sides = children.1; many = refl } in
    inr (subst (Shares (allowance job s) Fair path) (sym children.3)
    (side_shares job s path contact children.0 (omega (arith, most.at_least)) fair good.0.0.0 (is_on path contact.i contact.j (In-from_contains path (Choices.Before contact.i contact.j) good.0.0.1))
    (not_true (is_opened path contact) (λ t. let o = opened_is path contact t in opened_is_clear job e path contact o.0 good.0.1.at good.1 good.0.1.on (Contains-from_in path (Choices.Side contact o.0) o.1) good.0.1.here))
    (two contact (length children.0) has) (most.most contact (length children.0) has)))
  where
    two : (c : Contact) (n : ℕ) → HasSides job c n → 2 ≤ n
    two c n has = let three = three_at_contact job c n has in omega (arith, three)
may_have job e s most path (Nodes.Bound mults) paths fair good children = inl (children, allowed job s path (omega (arith, most.at_least)))
may_have job e s most path (Nodes.Cycle objects) paths fair good children = inl (children, allowed job s path (omega (arith, most.at_least)))
may_have job e s most path Nodes.Pending paths fair good children = inl (children, allowed job s path (omega (arith, most.at_least)))

-- ---- the law
pub full_is_enough : (job : Job) (e full : ℕ) (tree : Tree) → Full job full → IsEarnedTree job e tree → length tree.nodes < full
full_is_enough job e full tree is earned =
    let h = few_in_tree job (λ path node. Good job e path node × IsPath job path) (allowance job is.s) Fair (may_have job e is.s is.sides) fair_none tree.nodes (at_paths earned) in
    let f : full ≡ 2 * allowance job is.s [] = is.is ∙ doubled (over_pairs (λ i j. 1) (length job.objects)) (is.s ^ over_pairs (λ i j. max (contact_count job i j) (contact_count job j i)) (length job.objects)) in
    omega (arith, h, f)
  where
    at_paths : IsEarnedTree job e tree → IsTree job (λ path node. Good job e path node × IsPath job path) [] tree.nodes
    at_paths t = reads_paths job e (Good job e) (λ path node h. h.0) tree.nodes ([] ∷ []) [] (All-cons (IsPath job) [] [] (no_choice job) (All-nil (IsPath job))) t

    doubled : (p w : ℕ) → 2 ^ (p + 1) * w ≡ 2 * (2 ^ p * w)
    doubled p w = ap (λ n. 2 ^ n * w) (add-one p) ∙ (ap (λ t. t * w) (pow-suc 2 p) ∙ omega arith)

pub spent_below_full : (job : Job) (e full budget : ℕ) (tree : Tree) → Full job full → SpentTree job e budget tree → budget < full
spent_below_full job e full budget tree is spent = omega (arith, spent.spent, full_is_enough job e full tree is spent.unfinished.each)
