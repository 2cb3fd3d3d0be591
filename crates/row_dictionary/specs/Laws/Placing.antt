-- Where a number stands in a list, and what stands beside it.
use Rattle.std.proofs.Common.{◌≡◌, ℕ, zero, suc, ◌+◌, ◌<◌, ◌≤◌, List, [], ◌∷◌, ◌++◌, length, map, get_or, All, refl, ap, sym, subst, ◌∙◌, arith, ℤ, pos, Bool, true, false, ◌⊎◌, inl, inr}
use Rattle.std.proofs.lemmas.Bool.{cases_lt}
use Rattle.std.proofs.lemmas.Bool.Decides.{nat_tests}
use Rattle.std.proofs.lemmas.List.Elements.{All-cons}
use Rattle.row_pivots.specs.Tables.{AreRowsOf}
use Rattle.std.specs.List.{filter, range_with_len}
use lib.Dec.{T}
use Rattle.std.specs.Prelude.{nat_eq, nat_lt, cond, if◌then◌else◌}
use Rattle.integer_laws.specs.Members.{In}
use Rattle.integer_laws.specs.Laws.Members.{In-map_cases, All-in, All-from_in}
use Rattle.row_laws.specs.Laws.Independence.{true_or_false, equal_is, is_equal, in_basis, is_in_member}
use Rattle.row_pivots.specs.Laws.Measure.{place_is}
use Rattle.row_pivots.specs.Tables.{place_of}
use Rattle.row_pivots.specs.Tables.{line_or, entry_of, rising}
use Rattle.row_pivots.specs.Ends.{slack_lines}
use Rattle.row_pivots.specs.Ends.{Small}
use Rattle.row_dictionary.specs.Scans.{number_at, pushed, IsSmallRow}
use Rattle.row_dictionary.specs.Tables.{AreLines, IsLine}
use Rattle.seq_model.specs.Dictionaries.{is_in}
use Rattle.seq_model.specs.declared.row.Row.{Row}
use Rattle.seq_model.specs.Walks.{entries}

differs : (x y : ℕ) → (x ≡ y → ⊥) → nat_eq x y ≡ false
differs x y n = grind (arith, nat_tests, n)

pub place_past : (z : ℕ) (zs : List ℕ) (i : ℕ) → i ≤ place_of z zs → i < length zs → (get_or zs i 0 ≡ z → ⊥) → i + 1 ≤ place_of z zs
place_past z [] i l h n = absurd (omega (arith, h))
place_past z (y ∷ zs) zero l h n = subst (λ (b : Bool). 1 ≤ (if b then 0 else suc (place_of z zs))) (sym (differs z y (λ e. n (sym e)))) (omega arith)
place_past z (y ∷ zs) (suc i) l h n = by (nat_eq z y) l (place_past z zs i)
  where
    by : (b : Bool) → suc i ≤ (if b then 0 else suc (place_of z zs)) → (i ≤ place_of z zs → i < length zs → (get_or zs i 0 ≡ z → ⊥) → i + 1 ≤ place_of z zs) → suc i + 1 ≤ (if b then 0 else suc (place_of z zs))
    by true k later = absurd (omega (arith, k))
    by false k later = let r = later (omega (arith, k)) (omega (arith, h)) n in omega (arith, r)

pub place_found : (z : ℕ) (zs : List ℕ) (i : ℕ) → i ≤ place_of z zs → i < length zs → get_or zs i 0 ≡ z → i ≡ place_of z zs
place_found z [] i l h e = absurd (omega (arith, h))
place_found z (y ∷ zs) zero l h e = ap (λ (b : Bool). if b then 0 else suc (place_of z zs)) (sym (is_equal z y (sym e)))
place_found z (y ∷ zs) (suc i) l h e = by (nat_eq z y) l (place_found z zs i)
  where
    by : (b : Bool) → suc i ≤ (if b then 0 else suc (place_of z zs)) → (i ≤ place_of z zs → i < length zs → get_or zs i 0 ≡ z → i ≡ place_of z zs) → suc i ≡ (if b then 0 else suc (place_of z zs))
    by true k later = absurd (omega (arith, k))
    by false k later = ap suc (later (omega (arith, k)) (omega (arith, h)) e)

pub place_end : (z : ℕ) (zs : List ℕ) → place_of z zs ≤ length zs
place_end z [] = omega arith
place_end z (y ∷ zs) = by (nat_eq z y) (place_end z zs)
  where
    by : (b : Bool) → place_of z zs ≤ length zs → (if b then 0 else suc (place_of z zs)) ≤ suc (length zs)
    by true k = omega arith
    by false k = omega (arith, k)

pub line_placed : (z : ℕ) (basic : List ℕ) (lines : List (List ℤ)) → length basic ≡ length lines → line_or z basic lines ≡ get_or lines (place_of z basic) []
line_placed z [] [] e = refl
line_placed z [] (l ∷ lines) e = absurd (omega (arith, e))
line_placed z (y ∷ basic) [] e = absurd (omega (arith, e))
line_placed z (y ∷ basic) (l ∷ lines) e = by (nat_eq z y) (line_placed z basic lines (omega (arith, e)))
  where
    by : (b : Bool) → line_or z basic lines ≡ get_or lines (place_of z basic) [] → (if b then l else line_or z basic lines) ≡ get_or (l ∷ lines) (if b then 0 else suc (place_of z basic)) []
    by true r = refl
    by false r = r

entry_es : (y : ℕ) (free : List ℕ) (es : List ℤ) → length es ≡ length free → entry_of y free es ≡ get_or es (place_of y free) (pos 0)
entry_es y [] [] e = refl
entry_es y [] (x ∷ es) e = absurd (omega (arith, e))
entry_es y (f ∷ free) [] e = absurd (omega (arith, e))
entry_es y (f ∷ free) (x ∷ es) e = by (nat_eq y f) (entry_es y free es (omega (arith, e)))
  where
    by : (b : Bool) → entry_of y free es ≡ get_or es (place_of y free) (pos 0) → (if b then x else entry_of y free es) ≡ get_or (x ∷ es) (if b then 0 else suc (place_of y free)) (pos 0)
    by true r = refl
    by false r = r

none_entry : (y : ℕ) (free : List ℕ) → entry_of y free [] ≡ pos 0
none_entry y [] = refl
none_entry y (f ∷ free) = refl

pub entry_placed : (y : ℕ) (free : List ℕ) (line : List ℤ) → (line ≡ []) ⊎ (length line ≡ suc (length free)) → entry_of y free (entries line) ≡ get_or line (suc (place_of y free)) (pos 0)
entry_placed y free [] e = none_entry y free
entry_placed y free (c ∷ es) (inl e) = absurd (omega (arith, ap length e))
entry_placed y free (c ∷ es) (inr e) = entry_es y free es (omega (arith, e))

pub placed_in : (z : ℕ) (zs : List ℕ) → place_of z zs < length zs → In z zs
placed_in z [] h = absurd (omega (arith, h))
placed_in z (y ∷ zs) h = by (true_or_false (nat_eq z y)) (placed_in z zs)
  where
    by : ((nat_eq z y ≡ true) ⊎ (nat_eq z y ≡ false)) → (place_of z zs < length zs → In z zs) → In z (y ∷ zs)
    by (inl e) later = inl (equal_is z y e)
    by (inr e) later = inr (later (let k = subst (λ (b : Bool). (if b then 0 else suc (place_of z zs)) < suc (length zs)) e h in omega (arith, k)))

pub contains_is : (z : ℕ) (zs : List ℕ) → nat_lt (place_of z zs) (length zs) ≡ is_in zs z
contains_is z zs = by (true_or_false (is_in zs z))
  where
    yes : (a b : ℕ) → a < b → nat_lt a b ≡ true
    yes a b h = grind (arith, nat_tests, h)

    no : (a b : ℕ) → (a < b → ⊥) → nat_lt a b ≡ false
    no a b h = grind (arith, nat_tests, h)

    by : ((is_in zs z ≡ true) ⊎ (is_in zs z ≡ false)) → nat_lt (place_of z zs) (length zs) ≡ is_in zs z
    by (inl e) = yes (place_of z zs) (length zs) (place_is z zs (in_basis zs z e)).0 ∙ sym e
    by (inr e) = no (place_of z zs) (length zs) (λ h. absurd (subst T (sym (is_in_member zs z (placed_in z zs h)) ∙ e) tt)) ∙ sym e

pub number_small : (n : ℕ) (lines : List (List ℤ)) → AreLines n lines → (r k : ℕ) → Small (number_at lines r k)
number_small n lines a r k = by (cases_lt r (length lines))
  where
    zero_small : Small (pos 0)
    zero_small = omega arith

    past : {A : Type 0} (xs : List A) (i : ℕ) (d : A) → length xs ≤ i → get_or xs i d ≡ d
    past [] i d h = refl
    past (x ∷ xs) zero d h = absurd (omega (arith, h))
    past (x ∷ xs) (suc i) d h = past xs i d (omega (arith, h))

    inside : (line : List ℤ) → All Small line → (k : ℕ) → Small (get_or line k (pos 0))
    inside line all k = at (cases_lt k (length line))
      where
        at : (k < length line) ⊎ (length line ≤ k) → Small (get_or line k (pos 0))
        at (inl h) = all k (pos 0) h
        at (inr h) = subst Small (sym (past line k (pos 0) h)) zero_small

    by : (r < length lines) ⊎ (length lines ≤ r) → Small (number_at lines r k)
    by (inl h) = inside (get_or lines r []) (a r [] h).1 k
    by (inr h) = subst (λ l. Small (get_or l k (pos 0))) (sym (past lines r [] h)) zero_small

-- ranges, from their end
pub range_on : (a n : ℕ) → range_with_len a (suc n) ≡ range_with_len a n ++ (a + n) ∷ []
range_on a zero = ap (λ t. t ∷ []) (none a)
  where
    none : (n : ℕ) → n ≡ n + 0
    none n = omega arith
range_on a (suc n) = ap (λ t. a ∷ t) (range_on (a + 1) n ∙ ap (λ t. range_with_len (a + 1) n ++ t ∷ []) (along a n))
  where
    along : (a b : ℕ) → (a + 1) + b ≡ a + suc b
    along a b = omega arith

filter_on : (p : ℕ → Bool) (xs : List ℕ) (x : ℕ) → filter p (xs ++ x ∷ []) ≡ filter p xs ++ cond (p x) (x ∷ []) []
filter_on p [] x = refl
filter_on p (y ∷ xs) x = by (p y) (filter_on p xs x)
  where
    by : (b : Bool) → filter p (xs ++ x ∷ []) ≡ filter p xs ++ cond (p x) (x ∷ []) [] → cond b (y ∷ filter p (xs ++ x ∷ [])) (filter p (xs ++ x ∷ [])) ≡ cond b (y ∷ filter p xs) (filter p xs) ++ cond (p x) (x ∷ []) []
    by true e = ap (λ t. y ∷ t) e
    by false e = e

joined_none : (xs : List ℕ) → xs ++ [] ≡ xs
joined_none [] = refl
joined_none (x ∷ xs) = ap (λ t. x ∷ t) (joined_none xs)

zero_plus : (n : ℕ) → 0 + n ≡ n
zero_plus n = omega arith

pub rising_in : (list : List ℕ) (z : ℕ) → is_in list z ≡ true → rising (suc z) list ≡ rising z list ++ z ∷ []
rising_in list z e = ap (filter (is_in list)) (range_on 0 z ∙ ap (λ t. range_with_len 0 z ++ t ∷ []) (zero_plus z)) ∙ filter_on (is_in list) (range_with_len 0 z) z ∙ ap (λ b. rising z list ++ cond b (z ∷ []) []) e

pub rising_out : (list : List ℕ) (z : ℕ) → is_in list z ≡ false → rising (suc z) list ≡ rising z list
rising_out list z e =
    ap (filter (is_in list)) (range_on 0 z ∙ ap (λ t. range_with_len 0 z ++ t ∷ []) (zero_plus z)) ∙ filter_on (is_in list) (range_with_len 0 z) z ∙ ap (λ b. rising z list ++ cond b (z ∷ []) []) e ∙ joined_none (rising z list)

map_on : {A B : Type 0} (f : A → B) (xs : List A) (x : A) → map f (xs ++ x ∷ []) ≡ map f xs ++ f x ∷ []
map_on f [] x = refl
map_on f (y ∷ xs) x = ap (λ t. f y ∷ t) (map_on f xs x)

pub range_next : (a n : ℕ) → range_with_len a (n + 1) ≡ range_with_len a n ++ (a + n) ∷ []
range_next a n = ap (range_with_len a) (one_on n) ∙ range_on a n
  where
    one_on : (n : ℕ) → n + 1 ≡ suc n
    one_on n = omega arith

pub rising_next : (list : List ℕ) (z : ℕ) → pushed (rising z list) z (is_in list z) ≡ rising (z + 1) list
rising_next list z = by (true_or_false (is_in list z))
  where
    one_on : (n : ℕ) → suc n ≡ n + 1
    one_on n = omega arith

    by : ((is_in list z ≡ true) ⊎ (is_in list z ≡ false)) → pushed (rising z list) z (is_in list z) ≡ rising (z + 1) list
    by (inl e) = ap (pushed (rising z list) z) e ∙ sym (rising_in list z e) ∙ ap (λ t. rising t list) (one_on z)
    by (inr e) = ap (pushed (rising z list) z) e ∙ sym (rising_out list z e) ∙ ap (λ t. rising t list) (one_on z)

pub entry_line : (basic free : List ℕ) (lines : List (List ℤ)) → length basic ≡ length lines → AreLines (suc (length free)) lines → (z y : ℕ)
    → entry_of y free (entries (line_or z basic lines)) ≡ number_at lines (place_of z basic) (suc (place_of y free))
entry_line basic free lines e all z y = ap (λ l. entry_of y free (entries l)) (line_placed z basic lines e) ∙ entry_placed y free (get_or lines (place_of z basic) []) (by (cases_lt (place_of z basic) (length lines)))
  where
    past : (xs : List (List ℤ)) (i : ℕ) → length xs ≤ i → get_or xs i [] ≡ []
    past [] i h = refl
    past (x ∷ xs) zero h = absurd (omega (arith, h))
    past (x ∷ xs) (suc i) h = past xs i (omega (arith, h))

    by : (place_of z basic < length lines) ⊎ (length lines ≤ place_of z basic) → (get_or lines (place_of z basic) [] ≡ []) ⊎ (length (get_or lines (place_of z basic) []) ≡ suc (length free))
    by (inl h) = inr (all (place_of z basic) [] h).0
    by (inr h) = inl (past lines (place_of z basic) h)

pub slack_long : (rows : List Row) → length (slack_lines rows) ≡ length rows
slack_long [] = refl
slack_long (x ∷ rows) = ap suc (slack_long rows)

pub slack_small : (vars : ℕ) (rows : List Row) → AreRowsOf vars rows → All IsSmallRow rows → AreLines (suc vars) (slack_lines rows)
slack_small vars rows are small = All-from_in (IsLine (suc vars)) (slack_lines rows) each
  where
    each : (line : List ℤ) → In line (slack_lines rows) → IsLine (suc vars) line
    each line i =
        let k = In-map_cases (λ (x : Row). x.c ∷ x.a) rows line i in
        subst (IsLine (suc vars)) (sym k.2) (ap suc (All-in (λ (x : Row). length x.a ≡ vars) rows k.0 are k.1), All-cons Small k.0.c k.0.a (All-in IsSmallRow rows k.0 small k.1).0 (All-in IsSmallRow rows k.0 small k.1).1)
