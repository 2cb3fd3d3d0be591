-- A point is beyond no side of a list exactly where it is beyond none of the edges.
--
--   clear_of S q d          whether the point is below the greatest value along d, or d is no direction
--   clear_is                for a list whose sides are edges, reduced
--   inner_where_clear       and then it is inner, where the list has area
use Rattle.std.proofs.Common.{◌≡◌, ℕ, zero, suc, ◌*◌, ◌≤◌, ◌<◌, ◌^◌, length, unsigned_abs, int_div, List, [], ◌∷◌, ◌++◌, map, refl, ap, ap₂, sym, subst, ◌∙◌, arith, ℤ, pos, neg_ℤ, ◌+ℤ◌, ◌*ℤ◌, ◌≤ℤ◌, ◌<ℤ◌, inl, inr, ◌↔◌, Bool, true, false, ◌&&◌, ◌||◌}
use Rattle.std.specs.Prelude.{int_lt}
use Rattle.std.specs.List.{list_all}
use Rattle.std.proofs.lemmas.Int.{ints, by_lt_z, unsigned_abs-mul}
use Rattle.std.proofs.lemmas.Bool.Decides.{nat_tests}
use Rattle.std.proofs.Math.Nat.{eq-one_of_dvd-one}
use Rattle.std.proofs.lemmas.Bool.{and_parts}
use Rattle.integer_laws.specs.Laws.Ring.{expand}
use Rattle.integer_laws.specs.Laws.Order.{same_from, add_same, mul_same, mul_le, cancel_le, le_from}
use Rattle.integer_laws.specs.Divisors.{Reduces, IsPrimitive, AreCoprime}
use Rattle.integer_laws.specs.Laws.Divisors.{gcd_is, reduces_by_gcd}
use Rattle.integer_laws.specs.Laws.Extremes.{greatest_unique}
use Rattle.integer_laws.specs.Extremes.{IsGreatest}
use Rattle.integer_laws.specs.Members.{In}
use Rattle.integer_laws.specs.Laws.Members.{In-from_contains}
use Rattle.seq_model.specs.Contacts.{difference}
use Rattle.seq_model.specs.Outlines.{Inner}
use Rattle.seq_model.specs.Points.{Point, IsPoint}
use Rattle.seq_model.specs.Sides.{along, greatest_along, Side, Beyond}
use Rattle.seq_model.specs.declared.printer.Spot.{Spot}
use Rattle.seq_model.specs.declared.tree.Dir.{Dir}
use Rattle.model_laws.specs.Laws.Turning.{left_by_list}
use Rattle.outline_laws.specs.Corners.{HasArea}
use Rattle.outline_laws.specs.Outlines.{AreOutlines}
use Rattle.outline_laws.specs.Beyond.{BeyondNoSide}
use Rattle.outline_laws.specs.Laws.Means.{inner_below}
use Rattle.outline_laws.specs.Laws.Sides.{Lower, some_below, greatest_of, some_size, free_of_inner, inner_of_free}
use Rattle.outline_laws.specs.Laws.Edges.{area_of_turns}
use Rattle.outline_laws.specs.Laws.Angles.{IsDirection}
use Rattle.outline_laws.specs.Laws.Ahead.{Across, is_zero, direction_of, no_direction, edges_of}
use Rattle.outline_laws.specs.Laws.Loops.{IsShort, edges_if, edges_plain, edges_turned, back}
use Rattle.outline_laws.specs.Laws.Differences.{area_of_difference, greatest_difference}
use Rattle.outline_laws.specs.Laws.Around.{all_edges, sides_are, long_direction}

-- ---- a direction and what it reduces to
along_reduced : (l d : Dir) (r : Reduces l.x l.y d.x d.y) (s : Spot) → along l s ≡ r.k *ℤ along d s
along_reduced l d r s = same_from (add_same (mul_same s.x r.x_is) (mul_same s.y r.y_is)) (simp expand (omega (arith, ints)))

greatest_reduced : (S : List Spot) (s : Spot) → In s S → (l d : Dir) (r : Reduces l.x l.y d.x d.y) → greatest_along l S ≡ r.k *ℤ greatest_along d S
greatest_reduced S s i l d r =
    let g = greatest_of d S s i in
    greatest_unique (along l) S (greatest_along l S) (r.k *ℤ greatest_along d S) (greatest_of l S s i)
    (record { bound = λ t j. subst (λ n. n ≤ℤ (r.k *ℤ greatest_along d S)) (sym (along_reduced l d r t)) (mul_le r.k (weak r.positive) (g.bound t j)); at = g.at; member = g.member; reached = along_reduced l d r g.at ∙ mul_same r.k g.reached })
  where
    weak : {n : ℤ} → pos 0 <ℤ n → pos 0 ≤ℤ n
    weak h = omega (arith, ints)

value_reduced : (l d : Dir) (r : Reduces l.x l.y d.x d.y) (x y : ℤ) → l.x *ℤ x +ℤ l.y *ℤ y ≡ r.k *ℤ (d.x *ℤ x +ℤ d.y *ℤ y)
value_reduced l d r x y = same_from (add_same (mul_same x r.x_is) (mul_same y r.y_is)) (simp expand (omega (arith, ints)))

pub beyond_long : (S : List Spot) (s : Spot) → In s S → (l d : Dir) → Reduces l.x l.y d.x d.y → (q : Point) → Beyond S d q → Beyond S l q
beyond_long S s i l d r q h =
    rw (greatest_reduced S s i l d r, value_reduced l d r q.x q.y) (le_from (mul_le r.k (weak r.positive) h) (simp expand (omega (arith, ints))))
  where
    weak : {n : ℤ} → pos 0 <ℤ n → pos 0 ≤ℤ n
    weak h = omega (arith, ints)

pub beyond_short : (S : List Spot) (s : Spot) → In s S → (l d : Dir) → Reduces l.x l.y d.x d.y → (q : Point) → Beyond S l q → Beyond S d q
beyond_short S s i l d r q h = cancel_le r.k r.positive (le_from (into h) (simp expand (omega (arith, ints))))
  where
    into : Beyond S l q → ((r.k *ℤ greatest_along d S) *ℤ q.d) ≤ℤ (r.k *ℤ (d.x *ℤ q.x +ℤ d.y *ℤ q.y))
    into h = subst (λ n. n ≤ℤ (r.k *ℤ (d.x *ℤ q.x +ℤ d.y *ℤ q.y))) (ap (λ g. g *ℤ q.d) (greatest_reduced S s i l d r)) (subst (λ n. (greatest_along l S *ℤ q.d) ≤ℤ n) (value_reduced l d r q.x q.y) h)

record Shortened (l : Dir) : Type 0 where
  d : Dir
  is : Reduces l.x l.y d.x d.y

shortened : (l : Dir) → IsDirection l → Shortened l
shortened l n =
    let g = gcd_is (unsigned_abs l.x) (unsigned_abs l.y) in
    record { d = record { x = int_div l.x (pos g.0); y = int_div l.y (pos g.0) }; is = reduces_by_gcd l.x l.y (pos g.0) (record { nonneg = omega (arith, ints); is = g.1 }) (some_size l.x l.y n) }

-- ---- the test
abbrev pub clear_of : List Spot → Point → Dir → Bool
clear_of S q d = is_zero d || int_lt (d.x *ℤ q.x +ℤ d.y *ℤ q.y) (greatest_along d S *ℤ q.d)

lt_true : (m n : ℤ) → int_lt m n ≡ true → m <ℤ n
lt_true m n e = grind (arith, ints, nat_tests)

true_lt : (m n : ℤ) → m <ℤ n → int_lt m n ≡ true
true_lt m n h = grind (arith, ints, nat_tests)

clear_yes : (S : List Spot) (q : Point) (d : Dir) → IsDirection d → clear_of S q d ≡ true → Beyond S d q → ⊥
clear_yes S q d n e b = by (is_zero d) refl e
  where
    by : (z : Bool) → is_zero d ≡ z → (z || int_lt (d.x *ℤ q.x +ℤ d.y *ℤ q.y) (greatest_along d S *ℤ q.d)) ≡ true → ⊥
    by true p h = no_direction d p n
    by false p h = let l = lt_true (d.x *ℤ q.x +ℤ d.y *ℤ q.y) (greatest_along d S *ℤ q.d) h in absurd (omega (arith, ints, l, b))

yes_clear : (S : List Spot) (q : Point) (d : Dir) → (IsDirection d → Beyond S d q → ⊥) → clear_of S q d ≡ true
yes_clear S q d n = by (is_zero d) refl
  where
    by : (z : Bool) → is_zero d ≡ z → (is_zero d || int_lt (d.x *ℤ q.x +ℤ d.y *ℤ q.y) (greatest_along d S *ℤ q.d)) ≡ true
    by true p = ap (λ z. z || int_lt (d.x *ℤ q.x +ℤ d.y *ℤ q.y) (greatest_along d S *ℤ q.d)) p
    by false p =
        ap (λ z. z || int_lt (d.x *ℤ q.x +ℤ d.y *ℤ q.y) (greatest_along d S *ℤ q.d)) p
        ∙ true_lt _ _ (by_lt_z (d.x *ℤ q.x +ℤ d.y *ℤ q.y) (greatest_along d S *ℤ q.d) (λ h. h) (λ h. absurd (n (direction_of d p) h)))

pub all_in : (test : Dir → Bool) (ds : List Dir) → list_all test ds ≡ true → (d : Dir) → In d ds → test d ≡ true
all_in test [] e d i = absurd i
all_in test (x ∷ ds) e d (inl s) = ap test s ∙ (and_parts (test x) (list_all test ds) e).0
all_in test (x ∷ ds) e d (inr i) = all_in test ds (and_parts (test x) (list_all test ds) e).1 d i

in_all : (test : Dir → Bool) (ds : List Dir) → ((d : Dir) → In d ds → test d ≡ true) → list_all test ds ≡ true
in_all test [] h = refl
in_all test (x ∷ ds) h = ap₂ (λ a b. a && b) (h x (inl refl)) (in_all test ds (λ d i. h d (inr i)))

pub free_where_clear : (S : List Spot) (ds : List Dir) (q : Point) (s : Spot) → In s S → ((dir : Dir) → Side S dir ↔ Across ds dir) → (list_all (clear_of S q) ds ≡ true) ↔ BeyondNoSide S q
free_where_clear S ds q s i sides = (free, clear)
  where
    free : list_all (clear_of S q) ds ≡ true → BeyondNoSide S q
    free e dir side beyond =
        let x = (sides dir).0 side in
        clear_yes S q x.long (long_direction x.long dir x.reduces) (all_in (clear_of S q) ds e x.long x.member) (beyond_long S s i x.long dir x.reduces q beyond)

    clear : BeyondNoSide S q → list_all (clear_of S q) ds ≡ true
    clear f = in_all (clear_of S q) ds (λ l m. yes_clear S q l (λ n b. let r = shortened l n in f r.d ((sides r.d).1 (record { long = l; member = m; reduces = r.is })) (beyond_short S s i l r.d r.is q b)))

-- ---- the difference
list_all-append : (test : Dir → Bool) (ds es : List Dir) → list_all test (ds ++ es) ≡ (list_all test ds && list_all test es)
list_all-append test [] es = refl
list_all-append test (d ∷ ds) es = ap (λ b. test d && b) (list_all-append test ds es) ∙ assoc (test d) (list_all test ds) (list_all test es)
  where
    assoc : (a b c : Bool) → (a && (b && c)) ≡ ((a && b) && c)
    assoc true b c = refl
    assoc false b c = refl

abbrev pub three_clear : (Dir → Bool) → List Spot → List Spot → List Spot → Bool
three_clear test A B F = list_all test (edges_if false A) && (list_all test (edges_if true B) && list_all test (edges_if true F))

pub all_clear : (test : Dir → Bool) (A B F : List Spot) → three_clear test A B F ≡ list_all test (all_edges A B F)
all_clear test A B F =
    ap₂ (λ x y. list_all test x && (list_all test (edges_if true B) && list_all test y)) (edges_plain A) (edges_turned F)
    ∙ ap (λ y. list_all test (edges_of A) && (list_all test y && list_all test (map back (edges_of F)))) (edges_turned B)
    ∙ ap (λ b. list_all test (edges_of A) && b) (sym (list_all-append test (map back (edges_of B)) (map back (edges_of F))))
    ∙ sym (list_all-append test (edges_of A) (map back (edges_of B) ++ map back (edges_of F)))

area_of_corners : (A B F : List Spot) → AreOutlines A B F → 3 ≤ length A → HasArea (difference A B F)
area_of_corners [] B F o h = absurd (omega (arith, h))
area_of_corners (a ∷ []) B F o h = absurd (omega (arith, h))
area_of_corners (a ∷ b ∷ []) B F o h = absurd (omega (arith, h))
area_of_corners (a ∷ b ∷ c ∷ cs) [] F o h = absurd (omega (arith, o.b_area))
area_of_corners (a ∷ b ∷ c ∷ cs) (d ∷ B) [] o h = absurd (omega (arith, o.f_some))
area_of_corners (a ∷ b ∷ c ∷ cs) (d ∷ B) (f ∷ F) o h = area_of_difference (a ∷ b ∷ c ∷ cs) (d ∷ B) (f ∷ F) d f (area_of_turns a b c cs (left_by_list (a ∷ b ∷ c ∷ cs) o.a)) (inl refl) (inl refl)

pub free_is_clear : (A B F : List Spot) (q : Point) → AreOutlines A B F → 3 ≤ length A → (list_all (clear_of (difference A B F) q) (all_edges A B F) ≡ true) ↔ BeyondNoSide (difference A B F) q
free_is_clear A B F q o h =
    let area = area_of_corners A B F o h in
    free_where_clear (difference A B F) (all_edges A B F) q area.i (In-from_contains (difference A B F) area.i area.i_in) (sides_are A B F o)

pub inner_is_clear : (A B F : List Spot) (q : Point) → AreOutlines A B F → 3 ≤ length A → IsPoint q → (list_all (clear_of (difference A B F) q) (all_edges A B F) ≡ true) ↔ Inner (difference A B F) q
inner_is_clear A B F q o h is =
    let area = area_of_corners A B F o h in
    let c = free_is_clear A B F q o h in
    (λ e. inner_of_free (difference A B F) q area is (c.0 e), λ m. c.1 (free_of_inner (difference A B F) q area m))

pub greatest_sum : (dir : Dir) (A B F : List Spot) → 1 ≤ length A → 1 ≤ length B → 1 ≤ length F → greatest_along dir (difference A B F) ≡ (greatest_along dir A +ℤ greatest_along (back dir) B) +ℤ greatest_along (back dir) F
greatest_sum dir [] B F p q r = absurd (omega (arith, p))
greatest_sum dir (a ∷ A) [] F p q r = absurd (omega (arith, q))
greatest_sum dir (a ∷ A) (b ∷ B) [] p q r = absurd (omega (arith, r))
greatest_sum dir (a ∷ A) (b ∷ B) (f ∷ F) p q r = greatest_difference dir (a ∷ A) (b ∷ B) (f ∷ F) a b f (inl refl) (inl refl) (inl refl)

pub add_three : {a b c d e f : ℤ} → a ≡ d → b ≡ e → c ≡ f → (a +ℤ b) +ℤ c ≡ (d +ℤ e) +ℤ f
add_three p q r = omega (arith, ints)

-- a reduced direction is no longer
shorter : (n : ℕ) (x k p : ℤ) → x ≡ k *ℤ p → pos 0 <ℤ k → unsigned_abs x < n → unsigned_abs p < n
shorter n x k p e h l = at_least (unsigned_abs k) (unsigned_abs p) n (omega (arith, ints, h)) (subst (λ t. t < n) (ap unsigned_abs e ∙ unsigned_abs-mul k p) l)
  where
    at_least : (k p n : ℕ) → 1 ≤ k → k * p < n → p < n
    at_least zero p n h l = absurd (omega (arith, h))
    at_least (suc k) p n h l = omega (arith, l)

pub short_reduced : (l d : Dir) → Reduces l.x l.y d.x d.y → IsShort l → IsShort d
short_reduced l d r s = (shorter (2 ^ 22) l.x r.k d.x r.x_is r.positive s.0, shorter (2 ^ 22) l.y r.k d.y r.y_is r.positive s.1)

-- ---- along any direction
pub inner_is_below : (S : List Spot) (q : Point) (d : Dir) → HasArea S → IsPrimitive d.x d.y → Inner S q → clear_of S q d ≡ true
inner_is_below S q d area prim m = yes_clear S q d (λ n b. never (below (some_below S d (greatest_along d S) area prim is.bound)) b)
  where
    is : IsGreatest (along d) S (greatest_along d S)
    is = greatest_of d S area.i (In-from_contains S area.i area.i_in)

    below : Lower S d (greatest_along d S) → (d.x *ℤ q.x +ℤ d.y *ℤ q.y) <ℤ (greatest_along d S *ℤ q.d)
    below low = inner_below d.x d.y (greatest_along d S) S q is.bound low.at low.member low.lower m

    never : {a b : ℤ} → a <ℤ b → b ≤ℤ a → ⊥
    never h k = absurd (omega (arith, ints, h, k))

abbrev pub axis : ℤ → ℤ → Dir
axis x y = record { x = x; y = y }

abbrev pub in_box : List Spot → Point → Bool
in_box S q = (clear_of S q (axis (pos 1) (pos 0)) && clear_of S q (axis (pos 0) (pos 1))) && (clear_of S q (axis (neg_ℤ (pos 1)) (pos 0)) && clear_of S q (axis (pos 0) (neg_ℤ (pos 1))))

pub inner_in_box : (S : List Spot) (q : Point) → HasArea S → Inner S q → in_box S q ≡ true
inner_in_box S q area m = ap₂ (λ a b. a && b) (ap₂ (λ a b. a && b) (at (axis (pos 1) (pos 0)) (one 0)) (at (axis (pos 0) (pos 1)) (other 0))) (ap₂ (λ a b. a && b) (at (axis (neg_ℤ (pos 1)) (pos 0)) (one 0)) (at (axis (pos 0) (neg_ℤ (pos 1))) (other 0)))
  where
    at : (d : Dir) → IsPrimitive d.x d.y → clear_of S q d ≡ true
    at d p = inner_is_below S q d area p m

    one : (n : ℕ) → AreCoprime 1 n
    one n k d e = eq-one_of_dvd-one d

    other : (n : ℕ) → AreCoprime n 1
    other n k d e = eq-one_of_dvd-one e

pub inner_is_all : (A B F : List Spot) (q : Point) → AreOutlines A B F → IsPoint q
    → (in_box (difference A B F) q && list_all (clear_of (difference A B F) q) (all_edges A B F) ≡ true) ↔ Inner (difference A B F) q
inner_is_all A B F q o is =
    let c = inner_is_clear A B F q o o.a_area is in
    let area = area_of_corners A B F o o.a_area in
    (λ e. c.0 (and_parts _ _ e).1, λ m. ap₂ (λ a b. a && b) (inner_in_box (difference A B F) q area m) (c.1 m))

pub free_is_all : (A B F : List Spot) (q : Point) → AreOutlines A B F → IsPoint q
    → (in_box (difference A B F) q && list_all (clear_of (difference A B F) q) (all_edges A B F) ≡ true) ↔ BeyondNoSide (difference A B F) q
free_is_all A B F q o is =
    let all = inner_is_all A B F q o is in
    let area = area_of_corners A B F o o.a_area in
    (λ e. free_of_inner (difference A B F) q area (all.0 e), λ f. all.1 (inner_of_free (difference A B F) q area is f))
