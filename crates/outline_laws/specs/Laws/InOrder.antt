-- Directions in order of angle, each reduced and once.
--
--   comes_first d e          the strict test of the order by angle
--   angle_order              it is an order on all pairs, (0, 0) too
--   short d                  the direction reduced
--   is_fresh last d          a direction that comes after the last
--   walk last ds             the fresh ones along ds, reduced
--   IsAscending ds           none comes before an earlier one
--   ascending_from_sorted    so a sort leaves them
--   sides_of_corners, sides_of_difference     what is reduced of the edges are the sides
--   walk_is                  a walk of an ascending list gives each direction once, by angle
use Rattle.std.proofs.Common.{◌≡◌, ℕ, suc, ◌<◌, ◌≤◌, List, [], ◌∷◌, length, get_or, refl, ap, sym, subst, ◌∙◌, arith, ℤ, pos, ◌-ℤ◌, ◌*ℤ◌, ◌⊎◌, inl, inr, ◌↔◌, Bool, true, false, cond, ◌&&◌, ◌||◌, not, Option, Some, None, AllPairs, Contains, int_div, unsigned_abs, IsPermutation}
use Rattle.std.specs.Prelude.{int_lt}
use Rattle.std.specs.Ordering.{int_cmp, bool_cmp, ordering_then, is_lt}
use Rattle.std.specs.Cmp.{IsStrictWeakOrder}
use Rattle.std.specs.List.Sorted.{IsSortedBy}
use Rattle.std.proofs.lemmas.Int.{ints}
use Rattle.std.proofs.lemmas.Bool.Decides.{nat_tests}
use Rattle.std.proofs.lemmas.List.Kept.{AllPairs-cons}
use Rattle.std.proofs.lemmas.List.Sorted.{sorted_far, Contains-permutation, IsPermutation-sym}
use Rattle.integer_laws.specs.Divisors.{Reduces}
use Rattle.integer_laws.specs.Laws.Divisors.{gcd_is, reduces_by_gcd, reduced_unique}
use Rattle.integer_laws.specs.Members.{In}
use Rattle.integer_laws.specs.Laws.Members.{In-from_contains, Contains-from_in, All-from_in}
use Rattle.seq_model.specs.Contacts.{difference}
use Rattle.seq_model.specs.Sides.{HasLesserAngle, Side, AreSides}
use Rattle.seq_model.specs.declared.printer.Spot.{Spot}
use Rattle.outline_laws.specs.Corners.{AreCorners}
use Rattle.seq_model.specs.declared.tree.Dir.{Dir}
use Rattle.outline_laws.specs.Directions.{IsDirection, HaveSameAngle, IsGoodAfter, AllReduced, After, angle_cmp, crossed, upper, lesser, is_zero, is_after}
use Rattle.outline_laws.specs.Outlines.{AreOutlines}
use Rattle.outline_laws.specs.Edges.{Across, edges_of, all_edges}
use Rattle.outline_laws.specs.Laws.Ahead.{side_across, lesser_is, is_lesser, direction_of, no_direction, no_truth, after_is, not_after}
use Rattle.outline_laws.specs.Laws.Angles.{compare_angles, lesser_trans, lesser_congr, lesser_congr_right, lesser_not_back, same_reduced, same_turned, reduced_direction, one_primitive}
use Rattle.outline_laws.specs.Laws.Around.{long_direction, sides_are}
use Rattle.outline_laws.specs.Laws.Sides.{some_size}

-- ---- the order
abbrev pub comes_first : Dir → Dir → Bool
comes_first d e = is_lt (angle_cmp d e)

crossed_test : (a b : ℤ) → is_lt (int_cmp b a) ≡ int_lt (pos 0) (a -ℤ b)
crossed_test a b = grind (arith, ints, nat_tests)

first_test : (d e : Dir) → is_zero d ≡ false → is_zero e ≡ false → comes_first d e ≡ lesser d e
first_test d e p q = by (upper d) (upper e) refl refl
  where
    opened : {s t : Bool} → upper d ≡ s → upper e ≡ t
        → comes_first d e ≡ is_lt (ordering_then (bool_cmp t s) (int_cmp (d.y *ℤ e.x) (d.x *ℤ e.y)))
    opened f g = rw (p, q, f, g) refl

    other : {s t : Bool} → upper d ≡ s → upper e ≡ t
        → cond s (cond t (int_lt (pos 0) (crossed d e)) true) (cond t false (int_lt (pos 0) (crossed d e))) ≡ lesser d e
    other f g = rw (f, g) refl

    by : (s t : Bool) → upper d ≡ s → upper e ≡ t → comes_first d e ≡ lesser d e
    by true true f g = opened f g ∙ crossed_test (d.x *ℤ e.y) (d.y *ℤ e.x) ∙ other f g
    by true false f g = opened f g ∙ other f g
    by false true f g = opened f g ∙ other f g
    by false false f g = opened f g ∙ crossed_test (d.x *ℤ e.y) (d.y *ℤ e.x) ∙ other f g

zero_test : (d e : Dir) (z w : Bool) → is_zero d ≡ z → is_zero e ≡ w → z || w ≡ true → comes_first d e ≡ is_lt (bool_cmp z w)
zero_test d e true w p q h = rw (p, q) refl
zero_test d e false true p q h = rw (p, q) refl
zero_test d e false false p q h = no_truth h

pub angle_order : IsStrictWeakOrder comes_first
angle_order = record { one_way = one_way; chain = chain }
  where
    not_true : (b : Bool) → (b ≡ true → ⊥) → b ≡ false
    not_true true h = absurd (h refl)
    not_true false h = refl

    one_way : (d e : Dir) → comes_first d e ≡ true → comes_first e d ≡ false
    one_way d e h = by (is_zero d) (is_zero e) refl refl
      where
        by : (z w : Bool) → is_zero d ≡ z → is_zero e ≡ w → comes_first e d ≡ false
        by true true p q = zero_test e d true true q p refl
        by true false p q = no_truth (sym (zero_test d e true false p q refl) ∙ h)
        by false true p q = zero_test e d true false q p refl
        by false false p q =
            not_true (comes_first e d) (λ k. lesser_not_back d e (lesser_is d e (sym (first_test d e p q) ∙ h)) (lesser_is e d (sym (first_test e d q p) ∙ k)))

    chain : (d e f : Dir) → comes_first d e ≡ false → comes_first e f ≡ false → comes_first d f ≡ false
    chain d e f h k = not_true (comes_first d f) (λ l. by (is_zero d) (is_zero e) (is_zero f) refl refl refl l)
      where
        by : (z w t : Bool) → is_zero d ≡ z → is_zero e ≡ w → is_zero f ≡ t → comes_first d f ≡ true → ⊥
        by true w true p q r l = no_truth (sym (zero_test d f true true p r refl) ∙ l)
        by true w false p q r l = no_truth (sym (zero_test d f true false p r refl) ∙ l)
        by false true t p q r l = no_truth (sym h ∙ zero_test d e false true p q refl)
        by false false true p q r l = no_truth (sym k ∙ zero_test e f false true q r refl)
        by false false false p q r l = pick (compare_angles d e m n)
          where
            m : IsDirection d
            m = direction_of d p

            n : IsDirection e
            n = direction_of e q

            o : IsDirection f
            o = direction_of f r

            ahead : HasLesserAngle d f
            ahead = lesser_is d f (sym (first_test d f p r) ∙ l)

            later : HasLesserAngle e f → ⊥
            later s = no_truth (sym k ∙ first_test e f q r ∙ is_lesser e f s)

            pick : HasLesserAngle d e ⊎ (HaveSameAngle d e ⊎ HasLesserAngle e d) → ⊥
            pick (inl s) = no_truth (sym h ∙ first_test d e p q ∙ is_lesser d e s)
            pick (inr (inl s)) = later (lesser_congr e d f n m o (same_turned d e s) ahead)
            pick (inr (inr s)) = later (lesser_trans e d f n m o s ahead)

-- ---- a direction reduced
abbrev dir_of : ℤ → ℤ → Dir
dir_of x y = record { x = x; y = y }

pub short : Dir → Dir
short d = let g = gcd_is (unsigned_abs d.x) (unsigned_abs d.y) in dir_of (int_div d.x (pos g.0)) (int_div d.y (pos g.0))

pub short_reduces : (d : Dir) → IsDirection d → Reduces d.x d.y (short d).x (short d).y
unfolding short
short_reduces d n =
    let g = gcd_is (unsigned_abs d.x) (unsigned_abs d.y) in
    reduces_by_gcd d.x d.y (pos g.0) (record { nonneg = omega (arith, ints); is = g.1 }) (some_size d.x d.y n)

pub short_is : (d s : Dir) → IsDirection d → Reduces d.x d.y s.x s.y → s ≡ short d
short_is d s n r = let same = reduced_unique d.x d.y s.x s.y (short d).x (short d).y r (short_reduces d n) in ap2 same.0 same.1
  where
    ap2 : {a b c e : ℤ} → a ≡ b → c ≡ e → dir_of a c ≡ dir_of b e
    ap2 {a} {b} {c} {e} p q = ap (λ t. dir_of t c) p ∙ ap (λ t. dir_of b t) q

-- ---- ascending lists
abbrev pub IsAscending : List Dir → Type 0
IsAscending [] = Unit {0}
IsAscending (d ∷ ds) = ((e : Dir) → In e ds → comes_first e d ≡ false) × IsAscending ds

pub ascending_from_sorted : (ds : List Dir) → IsSortedBy comes_first ds → IsAscending ds
ascending_from_sorted ds h = up ds (sorted_far comes_first angle_order ds h)
  where
    up : (ds : List Dir) → ((i j : ℕ) (d : Dir) → i ≤ j → j < length ds → comes_first (get_or ds j d) (get_or ds i d) ≡ false) → IsAscending ds
    up [] h = tt
    up (d ∷ ds) h = (λ e i. at e (Contains-from_in ds e i), up ds (λ i j c p q. h (suc i) (suc j) c (omega arith) (omega arith)))
      where
        at : (e : Dir) → Contains ds e → comes_first e d ≡ false
        at e c = subst (λ t. comes_first t d ≡ false) c.2 (h 0 (suc c.0) e (omega arith) (omega (arith, c.1)))

-- ---- the walk
abbrev pub is_fresh : Option Dir → Dir → Bool
is_fresh last d = not (is_zero d) && is_after last d

abbrev pub walk : Option Dir → List Dir → List Dir
walk last [] = []
walk last (d ∷ ds) = cond (is_fresh last d) (short d ∷ walk (Some (short d)) ds) (walk last ds)

pub record DirWalk (last : Option Dir) (ds dirs : List Dir) : Type 0 where
  pub each : (dir : Dir) → In dir dirs → Across ds dir × After last dir
  pub covers : (dir : Dir) → Across ds dir → After last dir → In dir dirs
  pub order : AllPairs HasLesserAngle dirs

wide : (d : Dir) (ds : List Dir) (dir : Dir) → Across ds dir → Across (d ∷ ds) dir
wide d ds dir x = record { long = x.long; member = inr x.member; reduces = x.reduces }

fresh_parts : (last : Option Dir) (d : Dir) → is_fresh last d ≡ true → IsDirection d × After last d
fresh_parts last d h = by (is_zero d) (is_after last d) refl refl h
  where
    by : (z a : Bool) → is_zero d ≡ z → is_after last d ≡ a → not z && a ≡ true → IsDirection d × After last d
    by true a p q h = no_truth h
    by false false p q h = no_truth h
    by false true p q h = (direction_of d p, after_is last d q)

not_fresh : (last : Option Dir) (d : Dir) → is_fresh last d ≡ false → IsDirection d → After last d → ⊥
not_fresh last d h n a = by (is_zero d) (is_after last d) refl refl h
  where
    by : (z b : Bool) → is_zero d ≡ z → is_after last d ≡ b → not z && b ≡ false → ⊥
    by true b p q h = no_direction d p n
    by false true p q h = no_truth (sym h)
    by false false p q h = not_after last d q a

after_same : (last : Option Dir) (d e : Dir) → IsGoodAfter last → IsDirection d → IsDirection e → HaveSameAngle d e → After last d → After last e
after_same None d e g m n s a = tt
after_same (Some c) d e g m n s a = lesser_congr_right c d e g m n a s

after_more : (last : Option Dir) (d e : Dir) → IsGoodAfter last → IsDirection d → IsDirection e → After last d → HasLesserAngle d e → After last e
after_more None d e g m n a l = tt
after_more (Some c) d e g m n a l = lesser_trans c d e g m n a l

-- what comes no earlier than d in the list comes no earlier by its angle
no_earlier : (d e : Dir) → IsDirection d → IsDirection e → comes_first e d ≡ false → HasLesserAngle e d → ⊥
no_earlier d e m n h l = by (is_zero e) (is_zero d) refl refl
  where
    by : (z w : Bool) → is_zero e ≡ z → is_zero d ≡ w → ⊥
    by true w p q = no_direction e p n
    by false true p q = no_direction d q m
    by false false p q = no_truth (sym h ∙ first_test e d p q ∙ is_lesser e d l)

taken : (last : Option Dir) (d : Dir) (ds dirs : List Dir) → IsGoodAfter last → IsDirection d → After last d → ((e : Dir) → In e ds → comes_first e d ≡ false)
    → DirWalk (Some (short d)) ds dirs → DirWalk last (d ∷ ds) (short d ∷ dirs)
taken last d ds dirs g n a up w = record { each = each; covers = covers; order = AllPairs-cons HasLesserAngle (short d) dirs (All-from_in (HasLesserAngle (short d)) dirs (λ e i. (w.each e i).1)) w.order }
  where
    r : Reduces d.x d.y (short d).x (short d).y
    r = short_reduces d n

    m : IsDirection (short d)
    m = reduced_direction d (short d) r

    each : (dir : Dir) → In dir (short d ∷ dirs) → Across (d ∷ ds) dir × After last dir
    each dir (inl e) =
        (record { long = d; member = inl refl; reduces = subst (λ (s : Dir). Reduces d.x d.y s.x s.y) (sym e) r }, subst (After last) (sym e) (after_same last d (short d) g n m (same_reduced d (short d) r) a))
    each dir (inr i) =
        let of = w.each dir i in
        (wide d ds dir of.0, after_more last (short d) dir g m (reduced_direction of.0.long dir of.0.reduces) (after_same last d (short d) g n m (same_reduced d (short d) r) a) of.1)

    covers : (dir : Dir) → Across (d ∷ ds) dir → After last dir → In dir (short d ∷ dirs)
    covers dir x b = by x.member
      where
        k : IsDirection dir
        k = reduced_direction x.long dir x.reduces

        o : IsDirection x.long
        o = long_direction x.long dir x.reduces

        same : HaveSameAngle (short d) dir → In dir (short d ∷ dirs)
        same s = inl (sym (one_primitive (short d) dir r.primitive x.reduces.primitive s))

        by : (x.long ≡ d) ⊎ In x.long ds → In dir (short d ∷ dirs)
        by (inl e) = inl (short_is d dir n (subst (λ (l : Dir). Reduces l.x l.y dir.x dir.y) e x.reduces))
        by (inr i) = pick (compare_angles (short d) dir m k)
          where
            pick : HasLesserAngle (short d) dir ⊎ (HaveSameAngle (short d) dir ⊎ HasLesserAngle dir (short d)) → In dir (short d ∷ dirs)
            pick (inl l) = inr (w.covers dir (record { long = x.long; member = i; reduces = x.reduces }) l)
            pick (inr (inl s)) = same s
            pick (inr (inr l)) =
                absurd (no_earlier d x.long n o (up x.long i)
                (lesser_congr x.long dir d o k n (same_reduced x.long dir x.reduces) (lesser_congr_right dir (short d) d k m n l (same_turned d (short d) (same_reduced d (short d) r)))))

passed : (last : Option Dir) (d : Dir) (ds dirs : List Dir) → IsGoodAfter last → (IsDirection d → After last d → ⊥) → DirWalk last ds dirs → DirWalk last (d ∷ ds) dirs
passed last d ds dirs g never w = record { each = λ dir i. let of = w.each dir i in (wide d ds dir of.0, of.1); covers = covers; order = w.order }
  where
    covers : (dir : Dir) → Across (d ∷ ds) dir → After last dir → In dir dirs
    covers dir x b = by x.member
      where
        o : IsDirection x.long
        o = long_direction x.long dir x.reduces

        by : (x.long ≡ d) ⊎ In x.long ds → In dir dirs
        by (inl e) =
            absurd (never (subst IsDirection e o) (subst (After last) e (after_same last dir x.long g (reduced_direction x.long dir x.reduces) o (same_turned x.long dir (same_reduced x.long dir x.reduces)) b)))
        by (inr i) = w.covers dir (record { long = x.long; member = i; reduces = x.reduces }) b

pub walk_ascends : (last : Option Dir) (ds : List Dir) → IsGoodAfter last → IsAscending ds → DirWalk last ds (walk last ds)
walk_ascends last [] g up = record { each = λ dir i. absurd i; covers = λ dir x b. absurd x.member; order = λ i j d p q. absurd (omega (arith, q)) }
walk_ascends last (d ∷ ds) g up = by (is_fresh last d) refl (walk_ascends last ds g up.1) (λ n. walk_ascends (Some (short d)) ds (reduced_direction d (short d) (short_reduces d n)) up.1)
  where
    by : (t : Bool) → is_fresh last d ≡ t → DirWalk last ds (walk last ds) → (IsDirection d → DirWalk (Some (short d)) ds (walk (Some (short d)) ds)) → DirWalk last (d ∷ ds) (walk last (d ∷ ds))
    by true e over take = let of = fresh_parts last d e in subst (λ t. DirWalk last (d ∷ ds) (cond t (short d ∷ walk (Some (short d)) ds) (walk last ds))) (sym e) (taken last d ds _ g of.0 of.1 up.0 (take of.0))
    by false e over take = subst (λ t. DirWalk last (d ∷ ds) (cond t (short d ∷ walk (Some (short d)) ds) (walk last ds))) (sym e) (passed last d ds _ g (not_fresh last d e) over)

-- the walk of the sorted list
pub walk_is : (ds es : List Dir) → IsPermutation ds es → IsSortedBy comes_first es → AllReduced ds (walk None es)
walk_is ds es p sorted = record {
  each = λ dir. ((λ c. back dir (w.each dir (In-from_contains (walk None es) dir c)).0), λ x. Contains-from_in (walk None es) dir (w.covers dir (forth dir x) tt));
  order = w.order;
}
  where
    w : DirWalk None es (walk None es)
    w = walk_ascends None es tt (ascending_from_sorted es sorted)

    back : (dir : Dir) → Across es dir → Across ds dir
    back dir x = record { long = x.long; member = In-from_contains ds x.long (Contains-permutation es ds x.long (IsPermutation-sym ds es p) (Contains-from_in es x.long x.member)); reduces = x.reduces }

    forth : (dir : Dir) → Across ds dir → Across es dir
    forth dir x = record { long = x.long; member = In-from_contains es x.long (Contains-permutation ds es x.long p (Contains-from_in ds x.long x.member)); reduces = x.reduces }

pub sides_reduced : (S : List Spot) (ds dirs : List Dir) → ((dir : Dir) → Side S dir ↔ Across ds dir) → AllReduced ds dirs → AreSides S dirs
sides_reduced S ds dirs sides all = record { each = λ dir. ((λ c. (sides dir).1 ((all.each dir).0 c)), λ s. (all.each dir).1 ((sides dir).0 s)); order = all.order }

pub sides_of_corners : (C : List Spot) (dirs : List Dir) → AreCorners C → AllReduced (edges_of C) dirs → AreSides C dirs
sides_of_corners C dirs are all = sides_reduced C (edges_of C) dirs (λ dir. side_across C dir are) all

pub sides_of_difference : (A B F : List Spot) (dirs : List Dir) → AreOutlines A B F → AllReduced (all_edges A B F) dirs → AreSides (difference A B F) dirs
sides_of_difference A B F dirs o all = sides_reduced (difference A B F) (all_edges A B F) dirs (sides_are A B F o) all
