-- Edges of an outline as directions that needn't be primitive, and the first of them after a direction.
--
--   raw u v                 the outward direction of the way from u to v, as long as the way
--   raws u vs, edges_of C   those of a way, and of the closed way around C
--   Across raws dir         dir is one of them, reduced
--   side_across             the sides of an outline
--   lesser d e              whether d has the smaller angle
--   is_zero d, is_after after d
--   better, first_after     the one of least angle after `after`
--   IsFirst raws after r    what that is
--   first_is                it is so
use Rattle.std.proofs.Common.{◌≡◌, List, [], ◌∷◌, refl, ap₂, sym, subst, ◌∙◌, arith, ℤ, pos, ◌<ℤ◌, ◌⊎◌, inl, inr, ◌↔◌, Bool, true, false, cond, Option, Some, None}
use Rattle.std.proofs.lemmas.Int.{ints}
use Rattle.std.proofs.lemmas.Bool.Decides.{nat_tests}
use Rattle.std.specs.Prelude.{int_lt}
use Rattle.std.proofs.lemmas.Option.{same_Some, none-some}
use Rattle.integer_laws.specs.Divisors.{Reduces}
use Rattle.integer_laws.specs.Members.{In}
use Rattle.seq_model.specs.declared.printer.Spot.{Spot}
use Rattle.seq_model.specs.declared.tree.Dir.{Dir}
use Rattle.seq_model.specs.Sides.{Side, IsUpper, HasLesserAngle}
use Rattle.outline_laws.specs.Corners.{AreCorners}
use Rattle.outline_laws.specs.Laws.Polygons.{last_of}
use Rattle.outline_laws.specs.Laws.Edges.{Edge, HasNormal, side_of_normal, normal_of_side}
use Rattle.outline_laws.specs.Laws.Angles.{compare_angles, lesser_trans, lesser_congr, lesser_not_back}
pub use Rattle.outline_laws.specs.Edges.{raw, raws, edges_of, Across}
pub use Rattle.outline_laws.specs.Directions.{crossed, IsDirection, HaveSameAngle, upper, lesser, is_zero, is_after, is_ahead, better, first_after, After}

edge_of_raw : (u : Spot) (vs : List Spot) (d : Dir) → In d (raws u vs) → (a : Spot) × (b : Spot) × Edge u vs a b × (d ≡ raw a b)
edge_of_raw u [] d i = absurd i
edge_of_raw u (v ∷ vs) d (inl e) = (u, v, inl (refl, refl), e)
edge_of_raw u (v ∷ vs) d (inr i) = let r = edge_of_raw v vs d i in (r.0, r.1, inr r.2, r.3)

raw_of_edge : (u : Spot) (vs : List Spot) (a b : Spot) → Edge u vs a b → In (raw a b) (raws u vs)
raw_of_edge u [] a b e = absurd e
raw_of_edge u (v ∷ vs) a b (inl e) = inl (ap₂ raw e.0 e.1)
raw_of_edge u (v ∷ vs) a b (inr e) = inr (raw_of_edge v vs a b e)

pub normal_across : (C : List Spot) (dir : Dir) → HasNormal C dir → Across (edges_of C) dir
normal_across [] dir h = absurd h.edge
normal_across (c ∷ cs) dir h = record { long = raw h.a h.b; member = raw_of_edge (last_of c cs) (c ∷ cs) h.a h.b h.edge; reduces = h.normal }

pub across_normal : (C : List Spot) (dir : Dir) → Across (edges_of C) dir → HasNormal C dir
across_normal [] dir x = absurd x.member
across_normal (c ∷ cs) dir x =
    let r = edge_of_raw (last_of c cs) (c ∷ cs) x.long x.member in
    record { a = r.0; b = r.1; edge = r.2; normal = subst (λ (l : Dir). Reduces l.x l.y dir.x dir.y) r.3 x.reduces }

pub side_across : (C : List Spot) (dir : Dir) → AreCorners C → Side C dir ↔ Across (edges_of C) dir
side_across C dir are = (λ s. normal_across C dir (normal_of_side C dir are s), λ x. side_of_normal C dir are (across_normal C dir x))

-- ---- tests
upper_is : (d : Dir) → upper d ≡ true → IsUpper d
upper_is d e = grind (arith, ints, nat_tests)

is_upper : (d : Dir) → IsUpper d → upper d ≡ true
is_upper d (inl h) = grind (arith, ints, nat_tests)
is_upper d (inr h) = grind (arith, ints, nat_tests)

lt_of : (n : ℤ) → int_lt (pos 0) n ≡ true → pos 0 <ℤ n
lt_of n e = grind (arith, ints, nat_tests)

of_lt : (n : ℤ) → pos 0 <ℤ n → int_lt (pos 0) n ≡ true
of_lt n h = grind (arith, ints, nat_tests)

pub no_truth : {P : Type 0} → false ≡ true → P
no_truth e = cc

by_half : (d : Dir) {P : Type 0} → (upper d ≡ true → IsUpper d → P) → (upper d ≡ false → (IsUpper d → ⊥) → P) → P
by_half d {P} up down = by (upper d) refl
  where
    by : (t : Bool) → upper d ≡ t → P
    by true e = up e (upper_is d e)
    by false e = down e (λ h. no_truth (sym e ∙ is_upper d h))

pub lesser_is : (d e : Dir) → lesser d e ≡ true → HasLesserAngle d e
lesser_is d e h =
    by_half d (λ p u. by_half e (λ q v. inr ((λ k. v, λ k. u), lt_of (crossed d e) (sym (opened p q) ∙ h))) (λ q v. inl (u, v)))
    (λ p u. by_half e (λ q v. no_truth (sym (opened p q) ∙ h)) (λ q v. inr ((λ k. absurd (u k), λ k. absurd (v k)), lt_of (crossed d e) (sym (opened p q) ∙ h))))
  where
    opened : {s t : Bool} → upper d ≡ s → upper e ≡ t → lesser d e ≡ cond s (cond t (int_lt (pos 0) (crossed d e)) true) (cond t false (int_lt (pos 0) (crossed d e)))
    opened p q = rw (p, q) refl

pub is_lesser : (d e : Dir) → HasLesserAngle d e → lesser d e ≡ true
is_lesser d e (inl h) =
    by_half d (λ p u. by_half e (λ q v. absurd (h.1 v)) (λ q v. opened p q)) (λ p u. absurd (u h.0))
  where
    opened : {s t : Bool} → upper d ≡ s → upper e ≡ t → lesser d e ≡ cond s (cond t (int_lt (pos 0) (crossed d e)) true) (cond t false (int_lt (pos 0) (crossed d e)))
    opened p q = rw (p, q) refl
is_lesser d e (inr h) =
    by_half d (λ p u. by_half e (λ q v. opened p q ∙ of_lt (crossed d e) h.1) (λ q v. absurd (v (h.0.0 u)))) (λ p u. by_half e (λ q v. absurd (u (h.0.1 v))) (λ q v. opened p q ∙ of_lt (crossed d e) h.1))
  where
    opened : {s t : Bool} → upper d ≡ s → upper e ≡ t → lesser d e ≡ cond s (cond t (int_lt (pos 0) (crossed d e)) true) (cond t false (int_lt (pos 0) (crossed d e)))
    opened p q = rw (p, q) refl

-- ---- the first after a direction
-- r is one of the two, and no other one comes before it
abbrev pub IsFirst : Option Dir → Option Dir → List Dir → Option Dir → Type 0
IsFirst after best ds None = (best ≡ None) × ((d : Dir) → In d ds → IsDirection d → After after d → ⊥)
IsFirst after best ds (Some r) =
    ((best ≡ Some r) ⊎ (In r ds × IsDirection r × After after r)) × ((d : Dir) → In d ds → IsDirection d → After after d → HasLesserAngle d r → ⊥)
    × ((b : Dir) → best ≡ Some b → HasLesserAngle b r → ⊥)

abbrev pub IsGood : Option Dir → Type 0
IsGood None = Unit {0}
IsGood (Some b) = IsDirection b

pub direction_of : (d : Dir) → is_zero d ≡ false → IsDirection d
direction_of d e x y = no_truth (sym e ∙ zero_is d x y)
  where
    zero_is : (d : Dir) → d.x ≡ pos 0 → d.y ≡ pos 0 → is_zero d ≡ true
    zero_is d x y = grind (arith, ints, nat_tests)

pub no_direction : (d : Dir) → is_zero d ≡ true → IsDirection d → ⊥
no_direction d e n = n (x_zero d e) (y_zero d e)
  where
    x_zero : (d : Dir) → is_zero d ≡ true → d.x ≡ pos 0
    x_zero d e = grind (arith, ints, nat_tests)

    y_zero : (d : Dir) → is_zero d ≡ true → d.y ≡ pos 0
    y_zero d e = grind (arith, ints, nat_tests)

pub after_is : (after : Option Dir) (d : Dir) → is_after after d ≡ true → After after d
after_is None d e = tt
after_is (Some a) d e = lesser_is a d e

pub not_after : (after : Option Dir) (d : Dir) → is_after after d ≡ false → After after d → ⊥
not_after None d e h = no_truth (sym e)
not_after (Some a) d e h = no_truth (sym e ∙ is_lesser a d h)

ahead_is : (d : Dir) (best : Option Dir) → is_ahead d best ≡ true → (b : Dir) → best ≡ Some b → HasLesserAngle d b
ahead_is d None e b q = absurd (none-some b q)
ahead_is d (Some c) e b q = subst (HasLesserAngle d) (same_Some c b q) (lesser_is d c e)

record Holds (d : Dir) (best : Option Dir) : Type 0 where
  b : Dir
  is : best ≡ Some b
  not : HasLesserAngle d b → ⊥

not_ahead : (d : Dir) (best : Option Dir) → is_ahead d best ≡ false → Holds d best
not_ahead d None e = no_truth (sym e)
not_ahead d (Some c) e = record { b = c; is = refl; not = λ h. no_truth (sym e ∙ is_lesser d c h) }

good_of : (best : Option Dir) (b : Dir) → IsGood best → best ≡ Some b → IsDirection b
good_of None b g q = absurd (none-some b q)
good_of (Some c) b g q = subst IsDirection (same_Some c b q) g

taken : (after best : Option Dir) (d : Dir) (ds : List Dir) (r : Option Dir) → IsGood best → IsDirection d → After after d → ((b : Dir) → best ≡ Some b → HasLesserAngle d b) → IsFirst after (Some d) ds r → IsFirst after best (d ∷ ds) r
taken after best d ds None good n a l f = absurd (none-some d (sym f.0))
taken after best d ds (Some r) good n a l f = (first f.0, second, third)
  where
    first : (Some d ≡ Some r) ⊎ (In r ds × IsDirection r × After after r) → (best ≡ Some r) ⊎ (In r (d ∷ ds) × IsDirection r × After after r)
    first (inl e) = let s = same_Some d r e in inr (inl (sym s), subst IsDirection s n, subst (After after) s a)
    first (inr i) = inr (inr i.0, i.1, i.2)

    r_is : (Some d ≡ Some r) ⊎ (In r ds × IsDirection r × After after r) → IsDirection r
    r_is (inl e) = subst IsDirection (same_Some d r e) n
    r_is (inr i) = i.1

    second : (e : Dir) → In e (d ∷ ds) → IsDirection e → After after e → HasLesserAngle e r → ⊥
    second e (inl s) m b h = f.2 d refl (subst (λ t. HasLesserAngle t r) s h)
    second e (inr i) m b h = f.1 e i m b h

    third : (b : Dir) → best ≡ Some b → HasLesserAngle b r → ⊥
    third b q h = f.2 d refl (lesser_trans d b r n (good_of best b good q) (r_is f.0) (l b q) h)

left : (after best : Option Dir) (d : Dir) (ds : List Dir) (r : Option Dir) → IsGood best → (IsDirection d → After after d → Holds d best) → IsFirst after best ds r → IsFirst after best (d ∷ ds) r
left after best d ds None good s f = (f.0, none)
  where
    none : (e : Dir) → In e (d ∷ ds) → IsDirection e → After after e → ⊥
    none e (inl q) m b = let h = s (subst IsDirection q m) (subst (After after) q b) in none-some h.b (sym f.0 ∙ h.is)
    none e (inr i) m b = f.1 e i m b
left after best d ds (Some r) good s f = (first f.0, second, f.2)
  where
    first : (best ≡ Some r) ⊎ (In r ds × IsDirection r × After after r) → (best ≡ Some r) ⊎ (In r (d ∷ ds) × IsDirection r × After after r)
    first (inl e) = inl e
    first (inr i) = inr (inr i.0, i.1, i.2)

    r_is : (best ≡ Some r) ⊎ (In r ds × IsDirection r × After after r) → IsDirection r
    r_is (inl e) = good_of best r good e
    r_is (inr i) = i.1

    -- what isn't before the best isn't before the result
    kept : IsDirection d → Holds d best → HasLesserAngle d r → ⊥
    kept n h l = pick (compare_angles h.b d m n)
      where
        m : IsDirection h.b
        m = good_of best h.b good h.is

        pick : HasLesserAngle h.b d ⊎ (HaveSameAngle h.b d ⊎ HasLesserAngle d h.b) → ⊥
        pick (inl p) = f.2 h.b h.is (lesser_trans h.b d r m n (r_is f.0) p l)
        pick (inr (inl p)) = f.2 h.b h.is (lesser_congr h.b d r m n (r_is f.0) p l)
        pick (inr (inr p)) = h.not p

    second : (e : Dir) → In e (d ∷ ds) → IsDirection e → After after e → HasLesserAngle e r → ⊥
    second e (inl q) m b h = kept (subst IsDirection q m) (s (subst IsDirection q m) (subst (After after) q b)) (subst (λ t. HasLesserAngle t r) q h)
    second e (inr i) m b h = f.1 e i m b h

pub first_is : (after best : Option Dir) (ds : List Dir) → IsGood best → IsFirst after best ds (first_after after best ds)
first_is after None [] good = (refl, λ d i. absurd i)
first_is after (Some b) [] good = (inl refl, (λ d i. absurd i), λ c e h. same_back c b (same_Some b c e) h)
  where
    same_back : (c b : Dir) → b ≡ c → HasLesserAngle c b → ⊥
    same_back c b e h = lesser_not_back c b h (subst (λ t. HasLesserAngle t c) (sym e) (subst (λ t. HasLesserAngle c t) e h))
first_is after best (d ∷ ds) good = by (is_zero d) (is_after after d) (is_ahead d best) refl refl refl (first_is after best ds good) (λ n. first_is after (Some d) ds n)
  where
    opened : {z a h : Bool} → is_zero d ≡ z → is_after after d ≡ a → is_ahead d best ≡ h → cond z best (cond a (cond h (Some d) best) best) ≡ better after best d
    opened p q r = rw (p, q, r) refl

    as_it_is : {t : Option Dir} → t ≡ better after best d → IsFirst after best (d ∷ ds) (first_after after t ds) → IsFirst after best (d ∷ ds) (first_after after (better after best d) ds)
    as_it_is e f = subst (λ t. IsFirst after best (d ∷ ds) (first_after after t ds)) e f

    by : (z a h : Bool) → is_zero d ≡ z → is_after after d ≡ a → is_ahead d best ≡ h → IsFirst after best ds (first_after after best ds) → (IsDirection d → IsFirst after (Some d) ds (first_after after (Some d) ds)) → IsFirst after best (d ∷ ds) (first_after after (better after best d) ds)
    by true a h p q r keep take = as_it_is (opened p q r) (left after best d ds (first_after after best ds) good (λ n. absurd (no_direction d p n)) keep)
    by false false h p q r keep take = as_it_is (opened p q r) (left after best d ds (first_after after best ds) good (λ n b. absurd (not_after after d q b)) keep)
    by false true false p q r keep take = as_it_is (opened p q r) (left after best d ds (first_after after best ds) good (λ n b. not_ahead d best r) keep)
    by false true true p q r keep take = as_it_is (opened p q r) (taken after best d ds (first_after after (Some d) ds) good (direction_of d p) (after_is after d q) (ahead_is d best r) (take (direction_of d p)))
