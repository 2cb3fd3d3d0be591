-- One row less, where its slack is basic: its line goes, and what is left is divided by its content.
--
--   Removed        what is left of the basic variables and of the lines once one has gone
--   removed        the last one takes the place of what goes
--   shrunk         the table of the rows without the last one
use Rattle.std.proofs.Common.{◌≡◌, ◌≢◌, ℕ, zero, suc, ◌+◌, ◌-◌, ◌<◌, ◌≤◌, List, [], ◌∷◌, ◌++◌, length, map, get_or, set, take, refl, ap, sym, subst, ◌∙◌, arith, ℤ, pos, ◌≤ℤ◌, ◌⊎◌, inl, inr, int_div}
use Rattle.std.proofs.lemmas.Bool.{cases_lt}
use Rattle.std.specs.List.{swap_remove}
use Rattle.integer_laws.specs.Members.{In}
use Rattle.integer_laws.specs.Laws.Members.{All-in, All-from_in, In-append_left, In-append_right, In-append_cases}
use Rattle.row_pivots.specs.Laws.Grown.{at_end, length-more, line_less}
use Rattle.row_pivots.specs.Laws.Pivoting.{Line, says_set, get_or-In}
use Rattle.row_pivots.specs.Laws.Turned.{fresh_set, set_members, divided_reduced, says_content}
use Rattle.row_pivots.specs.Tables.{AreRowsOf, InRange, Fresh, Holds}
use Rattle.row_pivots.specs.Turns.{quotients, IsContent}
use Rattle.seq_model.specs.Dictionaries.{Says}
use Rattle.seq_model.specs.declared.row.Row.{Row}

pub record Removed (vars : ℕ) (rows : List Row) (d : ℤ) (free basic : List ℕ) (z : ℕ) (left : List ℕ) (lines : List (List ℤ)) : Type 0 where
  pub fresh : Fresh left
  pub stays : (y : ℕ) → In y basic → y ≢ z → In y left
  pub from : (y : ℕ) → In y left → In y basic × (y ≢ z)
  pub says : Says vars rows d free left lines
  pub many : suc (length left) ≡ length basic

-- ---- the last of a list
pub record Ending {A : Type 0} (xs : List A) : Type 0 where
  pub front : List A
  pub last : A
  pub is : xs ≡ front ++ last ∷ []

pub ending : {A : Type 0} (xs : List A) → 0 < length xs → Ending xs
ending [] h = absurd (omega (arith, h))
ending (x ∷ []) h = record { front = []; last = x; is = refl }
ending (x ∷ y ∷ ys) h = let e = ending (y ∷ ys) (omega arith) in record { front = x ∷ e.front; last = e.last; is = ap (λ t. x ∷ t) e.is }

pub take_front : {A : Type 0} (xs : List A) (x : A) → take (length xs) (xs ++ x ∷ []) ≡ xs
take_front [] x = refl
take_front (y ∷ xs) x = ap (λ t. y ∷ t) (take_front xs x)

set_end : {A : Type 0} (xs : List A) (x : A) → set (xs ++ x ∷ []) (length xs) x ≡ xs ++ x ∷ []
set_end [] x = refl
set_end (y ∷ xs) x = ap (λ t. y ∷ t) (set_end xs x)

set_front : {A : Type 0} (xs : List A) (x y : A) (r : ℕ) → r < length xs → set (xs ++ x ∷ []) r y ≡ set xs r y ++ x ∷ []
set_front [] x y r h = absurd (omega (arith, h))
set_front (z ∷ xs) x y zero h = refl
set_front (z ∷ xs) x y (suc r) h = ap (λ t. z ∷ t) (set_front xs x y r (omega (arith, h)))

length-put : {A : Type 0} (xs : List A) (r : ℕ) (y : A) → length (set xs r y) ≡ length xs
length-put [] r y = refl
length-put (x ∷ xs) zero y = refl
length-put (x ∷ xs) (suc r) y = ap suc (length-put xs r y)

all_but_one : {A : Type 0} (xs : List A) (x : A) → length (xs ++ x ∷ []) - 1 ≡ length xs
all_but_one xs x = let n = length-more xs x in omega (arith, n)

-- what is left where the last one goes, and where another one does
pub remove_last : {A : Type 0} (xs : List A) (x d : A) → swap_remove (xs ++ x ∷ []) (length xs) d ≡ xs
remove_last xs x d =
    ap (λ n. take n (set (xs ++ x ∷ []) (length xs) (get_or (xs ++ x ∷ []) n d))) (all_but_one xs x)
    ∙ ap (λ y. take (length xs) (set (xs ++ x ∷ []) (length xs) y)) (at_end xs x d)
    ∙ ap (take (length xs)) (set_end xs x) ∙ take_front xs x

pub remove_other : {A : Type 0} (xs : List A) (x d : A) (r : ℕ) → r < length xs → swap_remove (xs ++ x ∷ []) r d ≡ set xs r x
remove_other xs x d r h =
    ap (λ n. take n (set (xs ++ x ∷ []) r (get_or (xs ++ x ∷ []) n d))) (all_but_one xs x)
    ∙ ap (λ y. take (length xs) (set (xs ++ x ∷ []) r y)) (at_end xs x d)
    ∙ ap (take (length xs)) (set_front xs x x r h)
    ∙ ap (λ n. take n (set xs r x ++ x ∷ [])) (sym (length-put xs r x)) ∙ take_front (set xs r x) x

pub fresh_front : (xs : List ℕ) (x : ℕ) → Fresh (xs ++ x ∷ []) → Fresh xs × (In x xs → ⊥)
fresh_front [] x f = (tt, λ i. i)
fresh_front (y ∷ xs) x f = let k = fresh_front xs x f.1 in ((λ i. f.0 (In-append_left xs (x ∷ []) y i), k.0), by k.1)
  where
    by : (In x xs → ⊥) → In x (y ∷ xs) → ⊥
    by n (inl e) = f.0 (In-append_right xs (x ∷ []) y (inl (sym e)))
    by n (inr i) = n i

says_front : (vars : ℕ) (rows : List Row) (d : ℤ) (free bs : List ℕ) (b : ℕ) (ls : List (List ℤ)) (l : List ℤ) → length bs ≡ length ls → Says vars rows d free (bs ++ b ∷ []) (ls ++ l ∷ []) → Says vars rows d free bs ls × Line vars rows d free b l
says_front vars rows d free [] b [] l e s = (tt, s.0)
says_front vars rows d free [] b (k ∷ ls) l e s = absurd (omega (arith, e))
says_front vars rows d free (y ∷ bs) b [] l e s = absurd (omega (arith, e))
says_front vars rows d free (y ∷ bs) b (k ∷ ls) l e s = let h = says_front vars rows d free bs b ls l (omega (arith, e)) s.1 in ((s.0, h.0), h.1)

pub get_or-front : (xs : List ℕ) (x r : ℕ) → r < length xs → get_or (xs ++ x ∷ []) r 0 ≡ get_or xs r 0
get_or-front [] x r h = absurd (omega (arith, h))
get_or-front (y ∷ xs) x zero h = refl
get_or-front (y ∷ xs) x (suc r) h = get_or-front xs x r (omega (arith, h))

one_removed : (vars : ℕ) (rows : List Row) (d : ℤ) (free bs : List ℕ) (b : ℕ) (ls : List (List ℤ)) (l : List ℤ) → length bs ≡ length ls → Fresh (bs ++ b ∷ []) → Says vars rows d free (bs ++ b ∷ []) (ls ++ l ∷ [])
    → (r : ℕ) → r < suc (length bs) → (k : List ℤ) → Removed vars rows d free (bs ++ b ∷ []) (get_or (bs ++ b ∷ []) r 0) (swap_remove (bs ++ b ∷ []) r 0) (swap_remove (ls ++ l ∷ []) r k)
one_removed vars rows d free bs b ls l e f s r h k = by (cases_lt r (length bs))
  where
    ff : Fresh bs × (In b bs → ⊥)
    ff = fresh_front bs b f

    ss : Says vars rows d free bs ls × Line vars rows d free b l
    ss = says_front vars rows d free bs b ls l e s

    at_last : Removed vars rows d free (bs ++ b ∷ []) b bs ls
    at_last = record {
      fresh = ff.0;
      stays = λ y i n. other y (In-append_cases bs (b ∷ []) y i) n;
      from = λ y i. (In-append_left bs (b ∷ []) y i, λ q. ff.1 (subst (λ t. In t bs) q i));
      says = ss.0;
      many = sym (length-more bs b);
    }
      where
        other : (y : ℕ) → In y bs ⊎ In y (b ∷ []) → (y ≢ b) → In y bs
        other y (inl i) n = i
        other y (inr (inl q)) n = absurd (n q)
        other y (inr (inr i)) n = absurd i

    before : r < length bs → Removed vars rows d free (bs ++ b ∷ []) (get_or bs r 0) (set bs r b) (set ls r l)
    before m = record {
      fresh = fresh_set bs r b ff.0 ff.1;
      stays = λ y i n. (set_members bs r b y m ff.0 ff.1).1 (kept y (In-append_cases bs (b ∷ []) y i) n);
      from = λ y i. back y ((set_members bs r b y m ff.0 ff.1).0 i);
      says = says_set vars rows d free bs ls r b l ss.0 ss.1;
      many = ap suc (length-put bs r b) ∙ sym (length-more bs b);
    }
      where
        kept : (y : ℕ) → In y bs ⊎ In y (b ∷ []) → (y ≢ get_or bs r 0) → (y ≡ b) ⊎ (In y bs × (y ≢ get_or bs r 0))
        kept y (inl i) n = inr (i, n)
        kept y (inr (inl q)) n = inl q
        kept y (inr (inr i)) n = absurd i

        back : (y : ℕ) → (y ≡ b) ⊎ (In y bs × (y ≢ get_or bs r 0)) → In y (bs ++ b ∷ []) × (y ≢ get_or bs r 0)
        back y (inl q) = (In-append_right bs (b ∷ []) y (inl q), λ t. ff.1 (subst (λ w. In w bs) (sym t ∙ q) (get_or-In bs r 0 m)))
        back y (inr i) = (In-append_left bs (b ∷ []) y i.0, i.1)

    by : (r < length bs) ⊎ (length bs ≤ r) → Removed vars rows d free (bs ++ b ∷ []) (get_or (bs ++ b ∷ []) r 0) (swap_remove (bs ++ b ∷ []) r 0) (swap_remove (ls ++ l ∷ []) r k)
    by (inl m) =
        subst (λ z. Removed vars rows d free (bs ++ b ∷ []) z (swap_remove (bs ++ b ∷ []) r 0) (swap_remove (ls ++ l ∷ []) r k)) (sym (get_or-front bs b r m))
        (subst (λ (t : List ℕ). Removed vars rows d free (bs ++ b ∷ []) (get_or bs r 0) t (swap_remove (ls ++ l ∷ []) r k)) (sym (remove_other bs b 0 r m))
        (subst (λ (t : List (List ℤ)). Removed vars rows d free (bs ++ b ∷ []) (get_or bs r 0) (set bs r b) t) (sym (remove_other ls l k r (omega (arith, e, m)))) (before m)))
    by (inr m) = here (omega (arith, m, h))
      where
        here : r ≡ length bs → Removed vars rows d free (bs ++ b ∷ []) (get_or (bs ++ b ∷ []) r 0) (swap_remove (bs ++ b ∷ []) r 0) (swap_remove (ls ++ l ∷ []) r k)
        here q =
            subst (λ t. Removed vars rows d free (bs ++ b ∷ []) (get_or (bs ++ b ∷ []) t 0) (swap_remove (bs ++ b ∷ []) t 0) (swap_remove (ls ++ l ∷ []) t k)) (sym q)
            (subst (λ z. Removed vars rows d free (bs ++ b ∷ []) z (swap_remove (bs ++ b ∷ []) (length bs) 0) (swap_remove (ls ++ l ∷ []) (length bs) k)) (sym (at_end bs b 0))
            (subst (λ (t : List ℕ). Removed vars rows d free (bs ++ b ∷ []) b t (swap_remove (ls ++ l ∷ []) (length bs) k)) (sym (remove_last bs b 0))
            (subst (λ (t : List (List ℤ)). Removed vars rows d free (bs ++ b ∷ []) b bs t) (sym (ap (λ n. swap_remove (ls ++ l ∷ []) n k) e ∙ remove_last ls l k)) at_last)))

pub removed : (vars : ℕ) (rows : List Row) (d : ℤ) (free basic : List ℕ) (lines : List (List ℤ)) → length basic ≡ length lines → Fresh basic → Says vars rows d free basic lines → (r : ℕ) → r < length basic → (k : List ℤ)
    → Removed vars rows d free basic (get_or basic r 0) (swap_remove basic r 0) (swap_remove lines r k)
removed vars rows d free basic lines e f s r h k =
    subst (λ (bs : List ℕ). Removed vars rows d free bs (get_or bs r 0) (swap_remove bs r 0) (swap_remove lines r k)) (sym B.is)
    (subst (λ (ls : List (List ℤ)). Removed vars rows d free (B.front ++ B.last ∷ []) (get_or (B.front ++ B.last ∷ []) r 0) (swap_remove (B.front ++ B.last ∷ []) r 0) (swap_remove ls r k)) (sym L.is)
    (one_removed vars rows d free B.front B.last L.front L.last same (subst Fresh B.is f)
    (subst (λ (ls : List (List ℤ)). Says vars rows d free (B.front ++ B.last ∷ []) ls) L.is (subst (λ (bs : List ℕ). Says vars rows d free bs lines) B.is s)) r (let b = ap length B.is ∙ length-more B.front B.last in omega (arith, b, h)) k))
  where
    B : Ending basic
    B = ending basic (omega (arith, h))

    L : Ending lines
    L = ending lines (omega (arith, h, e))

    same : length B.front ≡ length L.front
    same = let b = ap length B.is ∙ length-more B.front B.last in let l = ap length L.is ∙ length-more L.front L.last in omega (arith, b, l, e)

says_less : (vars : ℕ) (rows : List Row) (row : Row) (d : ℤ) (free : List ℕ) → InRange (vars + length rows) free → (basic : List ℕ) (lines : List (List ℤ)) → InRange (vars + length rows) basic
    → Says vars (rows ++ row ∷ []) d free basic lines → Says vars rows d free basic lines
says_less vars rows row d free small [] [] r says = says
says_less vars rows row d free small [] (k ∷ lines) r says = absurd says
says_less vars rows row d free small (y ∷ basic) [] r says = absurd says
says_less vars rows row d free small (y ∷ basic) (k ∷ lines) r says =
    (line_less vars rows row d free small y (r y (inl refl)) k says.0, says_less vars rows row d free small basic lines (λ w i. r w (inr i)) says.1)

pub shrunk : (vars : ℕ) (rows : List Row) (row : Row) (d : ℤ) (basic free : List ℕ) (lines : List (List ℤ)) → Holds vars (rows ++ row ∷ []) d basic free lines → In (vars + length rows) basic
    → (left : List ℕ) (kept : List (List ℤ)) → Removed vars (rows ++ row ∷ []) d free basic (vars + length rows) left kept → (g : ℤ) → (g ≡ pos 0 → ⊥) → IsContent g d kept → pos 1 ≤ℤ int_div d g
    → Holds vars rows (int_div d g) left free (map (quotients g) kept)
shrunk vars rows row d basic free lines h in_z left kept m g some content sign = record {
  rows_are = are;
  positive = sign;
  many = let a = m.many in let b = h.many in let c = length-more rows row in omega (arith, a, b, c);
  fresh_basic = m.fresh;
  fresh_free = h.fresh_free;
  apart = λ y i k. h.apart y i (m.from y k).0;
  small_basic = small_left;
  small_free = small_free;
  cover = λ y k. cover y k (h.cover y (let n = length-more rows row in omega (arith, k, n)));
  says = says_content vars rows are d kept g some content free left small_free small_left (says_less vars rows row d free small_free left kept small_left m.says);
  reduced = divided_reduced d kept g some content;
}
  where
    z : ℕ
    z = vars + length rows

    are : AreRowsOf vars rows
    are = All-from_in (λ (r : Row). length r.a ≡ vars) rows (λ r i. All-in (λ (r : Row). length r.a ≡ vars) (rows ++ row ∷ []) r h.rows_are (In-append_left rows (row ∷ []) r i))

    less : (y n : ℕ) → n ≡ suc (length rows) → y < vars + n → (y ≢ vars + length rows) → y < vars + length rows
    less y n e k d = by (cases_lt y (vars + length rows))
      where
        by : (y < vars + length rows) ⊎ (vars + length rows ≤ y) → y < vars + length rows
        by (inl q) = q
        by (inr q) = absurd (d (omega (arith, e, k, q)))

    small_left : InRange (vars + length rows) left
    small_left y i = less y (length (rows ++ row ∷ [])) (length-more rows row) (h.small_basic y (m.from y i).0) (m.from y i).1

    small_free : InRange (vars + length rows) free
    small_free y i = less y (length (rows ++ row ∷ [])) (length-more rows row) (h.small_free y i) (λ e. h.apart (vars + length rows) (subst (λ t. In t free) e i) in_z)

    cover : (y : ℕ) → y < vars + length rows → In y basic ⊎ In y free → In y left ⊎ In y free
    cover y k (inl i) = inl (m.stays y i (λ e. absurd (omega (arith, e, k))))
    cover y k (inr i) = inr i
