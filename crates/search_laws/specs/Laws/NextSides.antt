-- The sides of a difference, one after the other, until none comes after the last.
--
--   count_after last ds    how many of the directions come after the last
--   count_falls            fewer, after the next
--   Upto S dirs last       dirs are the sides up to the last, in order
--   upto_none, upto_more, upto_all   no sides at first; the next one more; and all where none comes after
--   next_falls             after the next side of a difference fewer of its edges come
--   next_direction         a next side is a direction
use Rattle.std.proofs.Common.{◌≡◌, ℕ, suc, ◌<◌, ◌≤◌, List, [], ◌∷◌, ◌++◌, refl, sym, subst, arith, ◌⊎◌, inl, inr, Bool, true, false, cond, Option, Some, None, AllPairs}
use Rattle.std.proofs.lemmas.List.Quantifiers.{all_pairs_push}
use Rattle.integer_laws.specs.Members.{In}
use Rattle.integer_laws.specs.Laws.Members.{In-from_contains, Contains-from_in, In-append_left, In-append_right, In-append_cases, All-from_in}
use Rattle.seq_model.specs.Contacts.{difference}
use Rattle.seq_model.specs.Sides.{Side, HasLesserAngle, AreSides}
use Rattle.seq_model.specs.declared.printer.Spot.{Spot}
use Rattle.seq_model.specs.declared.tree.Dir.{Dir}
use Rattle.outline_laws.specs.Laws.Sides.{not_both}
use Rattle.outline_laws.specs.Directions.{IsDirection, HaveSameAngle, is_zero, is_after, After, IsNext, IsGoodAfter}
use Rattle.outline_laws.specs.Laws.Angles.{lesser_trans, lesser_congr_right, same_not_lesser, same_reduced, same_turned, reduced_direction}
use Rattle.outline_laws.specs.Edges.{all_edges}
use Rattle.outline_laws.specs.Laws.Ahead.{after_is, not_after, direction_of, no_direction, no_truth, is_lesser}
use Rattle.outline_laws.specs.Outlines.{AreOutlines}
use Rattle.outline_laws.specs.Laws.Around.{sides_are, long_direction}

-- ---- how many are left
abbrev pub count_after : Option Dir → List Dir → ℕ
count_after last [] = 0
count_after last (d ∷ ds) = cond (is_zero d) (count_after last ds) (cond (is_after last d) (suc (count_after last ds)) (count_after last ds))

abbrev node : Bool → Bool → ℕ → ℕ
node z p n = cond z n (cond p (suc n) n)

is_after_both : (last : Option Dir) (r d : Dir) → IsGoodAfter last → IsDirection r → After last r → is_zero d ≡ false → is_after (Some r) d ≡ true → is_after last d ≡ true
is_after_both None r d g n a z p = refl
is_after_both (Some c) r d g n a z p = is_lesser c d (lesser_trans c r d g n (direction_of d z) a (after_is (Some r) d p))

node_le : (z p q : Bool) (m n : ℕ) → (z ≡ false → q ≡ true → p ≡ true) → m ≤ n → node z q m ≤ node z p n
node_le true p q m n f h = h
node_le false p false m n f h = later p
  where
    later : (p : Bool) → m ≤ node false p n
    later true = omega (arith, h)
    later false = h
node_le false true true m n f h = omega (arith, h)
node_le false false true m n f h = no_truth (f refl refl)

node_lt : (z p q : Bool) (m n : ℕ) → (z ≡ false → q ≡ true → p ≡ true) → m < n → node z q m < node z p n
node_lt true p q m n f h = h
node_lt false p false m n f h = later p
  where
    later : (p : Bool) → m < node false p n
    later true = omega (arith, h)
    later false = h
node_lt false true true m n f h = omega (arith, h)
node_lt false false true m n f h = no_truth (f refl refl)

pub count_le : (last : Option Dir) (r : Dir) (ds : List Dir) → IsGoodAfter last → IsDirection r → After last r → count_after (Some r) ds ≤ count_after last ds
count_le last r [] g n a = omega arith
count_le last r (d ∷ ds) g n a =
    node_le (is_zero d) (is_after last d) (is_after (Some r) d) (count_after (Some r) ds) (count_after last ds) (is_after_both last r d g n a) (count_le last r ds g n a)

-- where one of them has the angle of the next
pub count_falls : (last : Option Dir) (r : Dir) (ds : List Dir) → IsGoodAfter last → IsDirection r → After last r → (l : Dir) → In l ds → IsDirection l → HaveSameAngle l r → count_after (Some r) ds < count_after last ds
count_falls last r [] g n a l i m s = absurd i
count_falls last r (d ∷ ds) g n a l (inl e) m s =
    here (is_zero d) (is_after last d) (is_after (Some r) d) refl refl refl (subst IsDirection e m) (subst (λ t. HaveSameAngle t r) e s) (count_le last r ds g n a)
  where
    After-same : (last : Option Dir) → IsGoodAfter last → After last r → IsDirection d → HaveSameAngle d r → After last d
    After-same None g a m s = tt
    After-same (Some c) g a m s = lesser_congr_right c r d g n m a (same_turned d r s)

    here : (z p q : Bool) → is_zero d ≡ z → is_after last d ≡ p → is_after (Some r) d ≡ q → IsDirection d → HaveSameAngle d r → count_after (Some r) ds ≤ count_after last ds
        → node (is_zero d) (is_after (Some r) d) (count_after (Some r) ds) < node (is_zero d) (is_after last d) (count_after last ds)
    here true p q ez ep eq m s h = absurd (no_direction d ez m)
    here false false q ez ep eq m s h = absurd (not_after last d ep (After-same last g a m s))
    here false true true ez ep eq m s h = absurd (same_not_lesser r d (same_turned d r s) (after_is (Some r) d eq))
    here false true false ez ep eq m s h = rw (ez, ep, eq) (omega (arith, h))
count_falls last r (d ∷ ds) g n a l (inr i) m s =
    node_lt (is_zero d) (is_after last d) (is_after (Some r) d) (count_after (Some r) ds) (count_after last ds) (is_after_both last r d g n a) (count_falls last r ds g n a l i m s)

-- ---- the list
pub record Upto (S : List Spot) (dirs : List Dir) (last : Option Dir) : Type 0 where
  pub each : (dir : Dir) → In dir dirs → Side S dir
  pub covers : (dir : Dir) → Side S dir → In dir dirs ⊎ After last dir
  pub before : (dir : Dir) → IsDirection dir → After last dir → (e : Dir) → In e dirs → HasLesserAngle e dir
  pub order : AllPairs HasLesserAngle dirs

pub upto_none : (S : List Spot) → Upto S [] None
upto_none S = record { each = λ d i. absurd i; covers = λ d s. inr tt; before = λ d n a e i. absurd i; order = λ i j d h k. absurd (omega arith) }

side_direction : (S : List Spot) (d : Dir) → Side S d → IsDirection d
side_direction S d s e f = not_both d.x d.y s.primitive e f

pub upto_more : (S : List Spot) (dirs : List Dir) (last : Option Dir) (d : Dir) → IsGoodAfter last → Upto S dirs last → IsNext S last (Some d) → Upto S (dirs ++ d ∷ []) (Some d)
upto_more S dirs last d g u next = record {
  each = λ e i. each e (In-append_cases dirs (d ∷ []) e i);
  covers = λ e s. covers e s (u.covers e s);
  before = λ e n a c i. before e n a c (In-append_cases dirs (d ∷ []) c i);
  order = all_pairs_push HasLesserAngle dirs d u.order (All-from_in (λ c. HasLesserAngle c d) dirs (u.before d dn next.1));
}
  where
    dn : IsDirection d
    dn = side_direction S d next.0

    each : (e : Dir) → In e dirs ⊎ In e (d ∷ []) → Side S e
    each e (inl i) = u.each e i
    each e (inr (inl q)) = subst (Side S) (sym q) next.0
    each e (inr (inr i)) = absurd i

    covers : (e : Dir) → Side S e → In e dirs ⊎ After last e → In e (dirs ++ d ∷ []) ⊎ After (Some d) e
    covers e s (inl i) = inl (In-append_left dirs (d ∷ []) e i)
    covers e s (inr a) = pick (next.2 e s a)
      where
        pick : (e ≡ d) ⊎ HasLesserAngle d e → In e (dirs ++ d ∷ []) ⊎ After (Some d) e
        pick (inl q) = inl (In-append_right dirs (d ∷ []) e (inl q))
        pick (inr h) = inr h

    through : (last : Option Dir) → IsGoodAfter last → After last d → (e : Dir) → IsDirection e → HasLesserAngle d e → After last e
    through None g a e n h = tt
    through (Some c) g a e n h = lesser_trans c d e g dn n a h

    before : (e : Dir) → IsDirection e → HasLesserAngle d e → (c : Dir) → In c dirs ⊎ In c (d ∷ []) → HasLesserAngle c e
    before e n a c (inl i) = u.before e n (through last g next.1 e n a) c i
    before e n a c (inr (inl q)) = subst (λ t. HasLesserAngle t e) (sym q) a
    before e n a c (inr (inr i)) = absurd i

pub upto_all : (S : List Spot) (dirs : List Dir) (last : Option Dir) → Upto S dirs last → IsNext S last None → AreSides S dirs
upto_all S dirs last u next = record {
  each = λ d. (λ i. u.each d (In-from_contains dirs d i), λ s. Contains-from_in dirs d (pick d s (u.covers d s)));
  order = u.order;
}
  where
    pick : (d : Dir) → Side S d → In d dirs ⊎ After last d → In d dirs
    pick d s (inl i) = i
    pick d s (inr a) = absurd (next d s a)

pub next_falls : (A B F : List Spot) (last : Option Dir) (d : Dir) → AreOutlines A B F → IsGoodAfter last → IsNext (difference A B F) last (Some d) → count_after (Some d) (all_edges A B F) < count_after last (all_edges A B F)
next_falls A B F last d o g next =
    let x = (sides_are A B F o d).0 next.0 in
    count_falls last d (all_edges A B F) g (reduced_direction x.long d x.reduces) next.1 x.long x.member (long_direction x.long d x.reduces) (same_reduced x.long d x.reduces)

pub next_direction : (S : List Spot) (last : Option Dir) (d : Dir) → IsNext S last (Some d) → IsDirection d
next_direction S last d next = side_direction S d next.0
