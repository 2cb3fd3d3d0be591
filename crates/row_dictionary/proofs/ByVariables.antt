-- What divides the new denominator and the new lines of variables divides those of slacks too: a slack's line is its row.
use Rattle.std.proofs.Common.{◌≡◌, ℕ, zero, suc, ◌+◌, ◌-◌, ◌<◌, ◌≤◌, List, [], ◌∷◌, ◌++◌, length, get_or, set, All, refl, ap, ap₂, sym, subst, ◌∙◌, arith, ℤ, pos, ◌+ℤ◌, ◌-ℤ◌, ◌*ℤ◌, ◌⊎◌, inl, inr, Bool, true, false, unsigned_abs, int_div, length-set}
use Rattle.std.proofs.lemmas.Bool.{cases_lt}
use Rattle.std.proofs.lemmas.Bool.Decides.{nat_tests}
use Rattle.std.proofs.lemmas.Int.{ints, unsigned_abs-mul}
use Rattle.std.proofs.lemmas.List.{length-map, length-replicate, get_or-set_same, get_or-set_other}
use Rattle.std.proofs.lemmas.List.Elements.{All-get_or, All-nil, All-cons, All-head, All-tail}
use Rattle.std.proofs.lemmas.Nat.Gcd.{dvd-zero, dvd_trans}
use Rattle.std.proofs.Math.Nat.{dvd-mul_right, dvd-mul_left}
use Rattle.std.specs.Int.{◌∣◌}
use Rattle.std.specs.List.{range_with_len}
use Rattle.std.specs.Prelude.{nat_eq, nat_lt, if◌then◌else◌}
use Rattle.integer_laws.specs.Laws.Divisors.{exact_quotient}
use Rattle.integer_laws.specs.Laws.Members.{All-in, All-from_in, In-append_left, In-map_cases}
use Rattle.integer_laws.specs.Laws.Ring.{expand}
use Rattle.integer_laws.specs.Laws.Vectors.{get_or-combined, length-combined}
use Rattle.integer_laws.specs.Members.{In}
use Rattle.integer_laws.specs.Vectors.{dot, scale, combined, zeros}
use Rattle.row_laws.specs.Laws.Independence.{past_the_end, true_or_false, in_basis, is_in_member}
use Rattle.row_laws.specs.Laws.OneForm.{any_default}
use Rattle.row_pivots.specs.Growing.{line_over, row_lines, row_line}
use Rattle.row_pivots.specs.Laws.Grown.{grown, line_more, meaning_more, at_end}
use Rattle.row_pivots.specs.Laws.Measure.{place_is}
use Rattle.row_pivots.specs.Laws.OneTable.{one_held}
use Rattle.row_pivots.specs.Laws.Pivoting.{Line, column, column_at, says_set, says_at, get_or-In, range_set}
use Rattle.row_pivots.specs.Laws.Points.{slack_is}
use Rattle.row_pivots.specs.Laws.Sorted.{line_is, says_long}
use Rattle.row_pivots.specs.Laws.Turned.{unit_says}
use Rattle.row_pivots.specs.Tables.{Fresh, Holds, line_or, place_of}
use Rattle.row_pivots.specs.Turns.{entry_at, line_at, pivoted_line, prepared, turned_lines, unit_line}
use Rattle.row_dictionary.specs.Tables.{of_variables}
use Rattle.row_dictionary.proofs.Lines.{at_map}
use Rattle.seq_model.specs.Dictionaries.{Has, Says, is_in, meaning}
use Rattle.seq_model.specs.Systems.{row_at, no_row}
use Rattle.seq_model.specs.declared.row.Row.{Row}

-- ---- the line of a slack is its row
set_end : {A : Type 0} (xs : List A) (x y : A) → set (xs ++ x ∷ []) (length xs) y ≡ xs ++ y ∷ []
set_end [] x y = refl
set_end (z ∷ xs) x y = ap (λ t. z ∷ t) (set_end xs x y)

same_row : (vars : ℕ) (rows : List Row) (d : ℤ) (basic free : List ℕ) (lines : List (List ℤ)) → Holds vars rows d basic free lines → (row : Row) → length row.a ≡ vars
    → (l : List ℤ) → Line vars (rows ++ row ∷ []) d free (vars + length rows) l → l ≡ row_line vars d basic free lines row
same_row vars rows d basic free lines h row long l says =
    sym (at_end lines l []) ∙ ap (λ (ls : List (List ℤ)). get_or ls (length lines) []) (sym same.1) ∙ at_end lines (row_line vars d basic free lines row) []
  where
    G : Holds vars (rows ++ row ∷ []) d (basic ++ (vars + length rows) ∷ []) free (lines ++ row_line vars d basic free lines row ∷ [])
    G = grown vars rows d basic free lines h row long

    many : length basic ≡ length lines
    many = says_long vars rows d free basic lines h.says

    told : Says vars (rows ++ row ∷ []) d free (basic ++ (vars + length rows) ∷ []) (lines ++ l ∷ [])
    told =
        subst (λ (b : List ℕ). Says vars (rows ++ row ∷ []) d free b (lines ++ l ∷ [])) (set_end basic (vars + length rows) (vars + length rows))
        (subst (λ (ls : List (List ℤ)). Says vars (rows ++ row ∷ []) d free (set (basic ++ (vars + length rows) ∷ []) (length basic) (vars + length rows)) ls)
        (ap (λ (n : ℕ). set (lines ++ row_line vars d basic free lines row ∷ []) n l) many ∙ set_end lines (row_line vars d basic free lines row) l)
        (says_set vars (rows ++ row ∷ []) d free (basic ++ (vars + length rows) ∷ []) (lines ++ row_line vars d basic free lines row ∷ []) (length basic) (vars + length rows) l G.says says))

    M : Holds vars (rows ++ row ∷ []) d (basic ++ (vars + length rows) ∷ []) free (lines ++ l ∷ [])
    M = record {
      rows_are = G.rows_are;
      positive = G.positive;
      many = G.many;
      fresh_basic = G.fresh_basic;
      fresh_free = G.fresh_free;
      apart = G.apart;
      small_basic = G.small_basic;
      small_free = G.small_free;
      cover = G.cover;
      says = told;
      reduced = λ k a. h.reduced k (a.0, All-from_in (λ (line : List ℤ). All (λ x. k ∣ unsigned_abs x) line) lines (λ w i. All-in (λ (line : List ℤ). All (λ x. k ∣ unsigned_abs x) line) (lines ++ l ∷ []) w a.1 (In-append_left lines (l ∷ []) w i)));
    }

    same : (d ≡ d) × (lines ++ row_line vars d basic free lines row ∷ [] ≡ lines ++ l ∷ [])
    same = one_held vars (rows ++ row ∷ []) d d (basic ++ (vars + length rows) ∷ []) free (lines ++ row_line vars d basic free lines row ∷ []) (lines ++ l ∷ []) G M

slack_line : (vars : ℕ) (rows : List Row) (d : ℤ) (basic free : List ℕ) (lines : List (List ℤ)) → Holds vars rows d basic free lines → (m : ℕ) → m < length rows → (l : List ℤ) → Line vars rows d free (vars + m) l
    → l ≡ row_line vars d basic free lines (row_at rows m)
slack_line vars rows d basic free lines h m in_m l says = same_row vars rows d basic free lines h (row_at rows m) long l (more.0, ap (scale d) meant ∙ more.1)
  where
    long : length (row_at rows m).a ≡ vars
    long = All-get_or (λ (r : Row). length r.a ≡ vars) rows m no_row in_m h.rows_are

    more : Line vars (rows ++ row_at rows m ∷ []) d free (vars + m) l
    more = line_more vars rows (row_at rows m) d free h.small_free (vars + m) (omega (arith, in_m)) l says

    meant : meaning vars (rows ++ row_at rows m ∷ []) (vars + length rows) ≡ meaning vars (rows ++ row_at rows m ∷ []) (vars + m)
    meant =
        slack_is vars (rows ++ row_at rows m ∷ []) (length rows) ∙ ap (λ (r : Row). r.c ∷ r.a) (at_end rows (row_at rows m) no_row)
        ∙ sym (slack_is vars rows m) ∙ sym (meaning_more vars rows (row_at rows m) (vars + m) (omega (arith, in_m)))

-- ---- divisors of sums
multiple : (g x : ℤ) → unsigned_abs g ∣ unsigned_abs (g *ℤ x)
multiple g x = subst (λ t. unsigned_abs g ∣ t) (sym (unsigned_abs-mul g x)) (dvd-mul_right (unsigned_abs g) (unsigned_abs x))

sum_divides : (n : ℕ) (a b : ℤ) → n ∣ unsigned_abs a → n ∣ unsigned_abs b → n ∣ unsigned_abs (a +ℤ b)
sum_divides n a b h k =
    subst (λ (t : ℤ). n ∣ unsigned_abs t) (sym (together a b (pos n) (int_div a (pos n)) (int_div b (pos n)) (exact_quotient a (pos n) h) (exact_quotient b (pos n) k)))
    (multiple (pos n) (int_div a (pos n) +ℤ int_div b (pos n)))
  where
    spread : (g s t : ℤ) → g *ℤ s +ℤ g *ℤ t ≡ g *ℤ (s +ℤ t)
    spread g s t = simp expand

    together : (a b g s t : ℤ) → a ≡ g *ℤ s → b ≡ g *ℤ t → a +ℤ b ≡ g *ℤ (s +ℤ t)
    together a b g s t e f = rw (e, f) (spread g s t)

times_divides : (n : ℕ) (e a : ℤ) → n ∣ unsigned_abs a → n ∣ unsigned_abs (e *ℤ a)
times_divides n e a h = subst (λ t. n ∣ t) (sym (unsigned_abs-mul e a)) (dvd_trans n h (dvd-mul_left (unsigned_abs a) (unsigned_abs e)))

nothing : (n : ℕ) (p y x z : ℤ) → x ≡ pos 0 → z ≡ pos 0 → n ∣ unsigned_abs (p *ℤ x -ℤ z *ℤ y)
nothing n p y x z e f = subst (λ (t : ℤ). n ∣ unsigned_abs t) (sym (none p y x z e f)) (dvd-zero n)
  where
    left : (p y : ℤ) → p *ℤ pos 0 -ℤ pos 0 *ℤ y ≡ pos 0
    left p y = simp expand (omega (arith, ints))

    none : (p y x z : ℤ) → x ≡ pos 0 → z ≡ pos 0 → p *ℤ x -ℤ z *ℤ y ≡ pos 0
    none p y x z e f = rw (e, f) (left p y)

combined_divides : (n : ℕ) (p y : ℤ) (j k : ℕ) (es : List ℤ) (vs : List (List ℤ)) → ((w : List ℤ) → In w vs → n ∣ unsigned_abs (p *ℤ get_or w j (pos 0) -ℤ get_or w k (pos 0) *ℤ y))
    → n ∣ unsigned_abs (p *ℤ dot es (column j vs) -ℤ dot es (column k vs) *ℤ y)
combined_divides n p y j k [] vs h = nothing n p y (pos 0) (pos 0) refl refl
combined_divides n p y j k (e ∷ es) [] h = nothing n p y (pos 0) (pos 0) refl refl
combined_divides n p y j k (e ∷ es) (w ∷ vs) h =
    subst (λ (t : ℤ). n ∣ unsigned_abs t) (sym (spread p y e (get_or w j (pos 0)) (get_or w k (pos 0)) (dot es (column j vs)) (dot es (column k vs))))
    (sum_divides n (e *ℤ (p *ℤ get_or w j (pos 0) -ℤ get_or w k (pos 0) *ℤ y)) (p *ℤ dot es (column j vs) -ℤ dot es (column k vs) *ℤ y)
    (times_divides n e (p *ℤ get_or w j (pos 0) -ℤ get_or w k (pos 0) *ℤ y) (h w (inl refl))) (combined_divides n p y j k es vs (λ v i. h v (inr i))))
  where
    spread : (p y e a b s t : ℤ) → p *ℤ (e *ℤ a +ℤ s) -ℤ (e *ℤ b +ℤ t) *ℤ y ≡ e *ℤ (p *ℤ a -ℤ b *ℤ y) +ℤ (p *ℤ s -ℤ t *ℤ y)
    spread p y e a b s t = simp expand (omega (arith, ints))

-- ---- one number of a pivoted line
is_here : (i k : ℕ) → nat_eq i k ≡ true → i ≡ k
is_here i k e = grind (arith, nat_tests)

is_elsewhere : (i k : ℕ) → nat_eq i k ≡ false → i ≡ k → ⊥
is_elsewhere i k e s = grind (arith, nat_tests)

zero_at : (n k : ℕ) → get_or (zeros n) k (pos 0) ≡ pos 0
zero_at zero k = refl
zero_at (suc n) zero = refl
zero_at (suc n) (suc k) = zero_at n k

corner : (d a b : ℤ) → a ≡ b → d *ℤ a ≡ d *ℤ b -ℤ a *ℤ pos 0
corner d a b e = rw e (plain d b)
  where
    plain : (d b : ℤ) → d *ℤ b ≡ d *ℤ b -ℤ b *ℤ pos 0
    plain d b = simp expand (omega (arith, ints))

-- k is the place of what enters, ys the line of what leaves
abbrev number_of : ℤ → List ℤ → ℕ → List ℤ → ℕ → ℤ
number_of d ys k v j = (if nat_eq j k then d else get_or ys k (pos 0)) *ℤ get_or v j (pos 0) -ℤ get_or v k (pos 0) *ℤ (if nat_eq j k then pos 0 else get_or ys j (pos 0))

abbrev Divides : ℕ → ℤ → List ℤ → ℕ → List ℤ → ℕ → Type 0
Divides n d ys k v j = n ∣ unsigned_abs (number_of d ys k v j)

pivoted_number : (d : ℤ) (ys : List ℤ) (k : ℕ) (v : List ℤ) (j : ℕ) → k < length v → length v ≡ length ys → get_or (pivoted_line d ys k v) j (pos 0) ≡ number_of d ys k v j
pivoted_number d ys k v j h l = by (nat_eq j k) refl
  where
    long : length (combined (get_or ys k (pos 0)) (get_or v k (pos 0)) v ys) ≡ length v
    long = let c = length-combined (get_or ys k (pos 0)) (get_or v k (pos 0)) v ys in omega (arith, c, l)

    by : (b : Bool) → nat_eq j k ≡ b → get_or (pivoted_line d ys k v) j (pos 0) ≡ (if b then d else get_or ys k (pos 0)) *ℤ get_or v j (pos 0) -ℤ get_or v k (pos 0) *ℤ (if b then pos 0 else get_or ys j (pos 0))
    by true e =
        ap (λ (t : ℕ). get_or (pivoted_line d ys k v) t (pos 0)) (is_here j k e)
        ∙ get_or-set_same (combined (get_or ys k (pos 0)) (get_or v k (pos 0)) v ys) k (d *ℤ get_or v k (pos 0)) (pos 0) (omega (arith, long, h))
        ∙ corner d (get_or v k (pos 0)) (get_or v j (pos 0)) (ap (λ (t : ℕ). get_or v t (pos 0)) (sym (is_here j k e)))
    by false e =
        get_or-set_other (combined (get_or ys k (pos 0)) (get_or v k (pos 0)) v ys) k j (d *ℤ get_or v k (pos 0)) (pos 0) (is_elsewhere j k e)
        ∙ get_or-combined (get_or ys k (pos 0)) (get_or v k (pos 0)) v ys j

unit_number : (n : ℕ) (d : ℤ) (ys : List ℤ) (k m a j : ℕ) → (k ≡ a → ⊥) → a < m → n ∣ unsigned_abs (d *ℤ get_or ys k (pos 0)) → Divides n d ys k (unit_line m a d) j
unit_number n d ys k m a j far in_a h = by (nat_eq j a) refl
  where
    at_k : get_or (unit_line m a d) k (pos 0) ≡ pos 0
    at_k = get_or-set_other (zeros m) a k d (pos 0) far ∙ zero_at m k

    alone : (d p y x z : ℤ) → x ≡ d → z ≡ pos 0 → p *ℤ x -ℤ z *ℤ y ≡ d *ℤ p
    alone d p y x z e f = rw (e, f) (left d p y)
      where
        left : (d p y : ℤ) → p *ℤ d -ℤ pos 0 *ℤ y ≡ d *ℤ p
        left d p y = simp expand (omega (arith, ints))

    here : (b : Bool) → nat_eq j k ≡ b → j ≡ a → n ∣ unsigned_abs ((if b then d else get_or ys k (pos 0)) *ℤ get_or (unit_line m a d) j (pos 0) -ℤ get_or (unit_line m a d) k (pos 0) *ℤ (if b then pos 0 else get_or ys j (pos 0)))
    here true e s = absurd (far (sym (is_here j k e) ∙ s))
    here false e s =
        subst (λ (t : ℤ). n ∣ unsigned_abs t)
        (sym (alone d (get_or ys k (pos 0)) (get_or ys j (pos 0)) (get_or (unit_line m a d) j (pos 0)) (get_or (unit_line m a d) k (pos 0))
        (ap (λ (t : ℕ). get_or (unit_line m a d) t (pos 0)) s ∙ get_or-set_same (zeros m) a d (pos 0) (let l = length-replicate m (pos 0) in omega (arith, l, in_a))) at_k)) h

    by : (b : Bool) → nat_eq j a ≡ b → Divides n d ys k (unit_line m a d) j
    by true e = here (nat_eq j k) refl (is_here j a e)
    by false e = nothing n _ _ (get_or (unit_line m a d) j (pos 0)) (get_or (unit_line m a d) k (pos 0)) (get_or-set_other (zeros m) a j d (pos 0) (is_elsewhere j a e) ∙ zero_at m j) at_k

own_number : (n : ℕ) (d : ℤ) (ys : List ℤ) (k j : ℕ) → n ∣ unsigned_abs (d *ℤ get_or ys k (pos 0)) → Divides n d ys k ys j
own_number n d ys k j h = by (nat_eq j k) refl
  where
    gone : (p y : ℤ) → p *ℤ y -ℤ p *ℤ y ≡ pos 0
    gone p y = omega (arith, ints)

    by : (b : Bool) → nat_eq j k ≡ b → n ∣ unsigned_abs ((if b then d else get_or ys k (pos 0)) *ℤ get_or ys j (pos 0) -ℤ get_or ys k (pos 0) *ℤ (if b then pos 0 else get_or ys j (pos 0)))
    by true e = subst (λ (t : ℤ). n ∣ unsigned_abs t) (corner d (get_or ys k (pos 0)) (get_or ys j (pos 0)) (ap (λ (t : ℕ). get_or ys t (pos 0)) (sym (is_here j k e)))) h
    by false e = subst (λ (t : ℤ). n ∣ unsigned_abs t) (sym (gone (get_or ys k (pos 0)) (get_or ys j (pos 0)))) (dvd-zero n)

-- ---- the line of what stands at a place
has_at : {X : Type 0} (zs : List ℕ) (xs : List X) (i : ℕ) (d : X) → i < length zs → length zs ≡ length xs → Has zs xs (get_or zs i 0) (get_or xs i d)
has_at [] xs i d h l = absurd (omega (arith, h))
has_at (z ∷ zs) [] i d h l = absurd (omega (arith, l))
has_at (z ∷ zs) (x ∷ xs) zero d h l = inl (refl, refl)
has_at (z ∷ zs) (x ∷ xs) (suc i) d h l = inr (has_at zs xs i d (omega (arith, h)) (omega (arith, l)))

pub line_there : (basic : List ℕ) (lines : List (List ℤ)) (i z : ℕ) → Fresh basic → length basic ≡ length lines → i < length basic → get_or basic i 0 ≡ z → line_or z basic lines ≡ get_or lines i []
line_there basic lines i z f l h e = line_is z basic lines (get_or lines i []) f (subst (λ t. Has basic lines t (get_or lines i [])) e (has_at basic lines i [] h l))

-- what is asked of the lines of variables
abbrev OfVariables : ℕ → ℕ → ℤ → List ℕ → List ℕ → List (List ℤ) → ℕ → ℕ → Type 0
OfVariables n vars d basic free lines r s =
    (i : ℕ) → i < length lines → get_or (set basic r (get_or free s 0)) i 0 < vars → (j : ℕ) → Divides n d (line_at lines r) (suc s) (get_or (prepared d lines r (suc s)) i []) j

variable_number : (vars : ℕ) (rows : List Row) (d : ℤ) (basic free : List ℕ) (lines : List (List ℤ)) → Holds vars rows d basic free lines → (r s : ℕ) → r < length basic → s < length free
    → (n : ℕ) → n ∣ unsigned_abs (d *ℤ entry_at (line_at lines r) (suc s)) → OfVariables n vars d basic free lines r s → (z : ℕ) → z < vars → (j : ℕ) → Divides n d (line_at lines r) (suc s) (line_over d basic free lines z) j
variable_number vars rows d basic free lines h r s in_r in_s n D V z small j = by (true_or_false (is_in basic z))
  where
    many : length basic ≡ length lines
    many = says_long vars rows d free basic lines h.says

    long : length (line_at lines r) ≡ suc (length free)
    long = (says_at vars rows d free basic lines r in_r h.says).0

    Wanted : List ℤ → Type 0
    Wanted v = Divides n d (line_at lines r) (suc s) v j

    fold : (b : Bool) → is_in basic z ≡ b → Divides n d (line_at lines r) (suc s) (if b then line_or z basic lines else unit_line (suc (length free)) (suc (place_of z free)) d) j
        → Divides n d (line_at lines r) (suc s) (line_over d basic free lines z) j
    fold b e t = subst (λ (c : Bool). Divides n d (line_at lines r) (suc s) (if c then line_or z basic lines else unit_line (suc (length free)) (suc (place_of z free)) d) j) (sym e) t

    of_basic : (i : ℕ) → i < length basic → get_or basic i 0 ≡ z → Divides n d (line_at lines r) (suc s) (line_or z basic lines) j
    of_basic i in_i e = subst (λ (v : List ℤ). Divides n d (line_at lines r) (suc s) v j) (sym (line_there basic lines i z h.fresh_basic many in_i e)) (at (nat_eq i r) refl)
      where
        at : (b : Bool) → nat_eq i r ≡ b → Divides n d (line_at lines r) (suc s) (get_or lines i []) j
        at true q = subst (λ (t : ℕ). Divides n d (line_at lines r) (suc s) (get_or lines t []) j) (sym (is_here i r q)) (own_number n d (line_at lines r) (suc s) j D)
        at false q =
            subst (λ (v : List ℤ). Divides n d (line_at lines r) (suc s) v j) (get_or-set_other lines r i (unit_line (length (line_at lines r)) (suc s) d) [] (is_elsewhere i r q))
            (V i (omega (arith, in_i, many)) (subst (λ (t : ℕ). t < vars) (sym (get_or-set_other basic r i (get_or free s 0) 0 (is_elsewhere i r q) ∙ e)) small) j)

    of_free : (f : ℕ) → f < length free → get_or free f 0 ≡ z → Divides n d (line_at lines r) (suc s) (unit_line (suc (length free)) (suc f) d) j
    of_free f in_f e = at (nat_eq f s) refl
      where
        at : (b : Bool) → nat_eq f s ≡ b → Divides n d (line_at lines r) (suc s) (unit_line (suc (length free)) (suc f) d) j
        at true q =
            subst (λ (v : List ℤ). Divides n d (line_at lines r) (suc s) v j)
            (get_or-set_same lines r (unit_line (length (line_at lines r)) (suc s) d) [] (omega (arith, in_r, many)) ∙ ap₂ (λ (m t : ℕ). unit_line m (suc t) d) long (sym (is_here f s q)))
            (V r (omega (arith, in_r, many)) (subst (λ (t : ℕ). t < vars) (sym (get_or-set_same basic r (get_or free s 0) 0 in_r ∙ ap (λ (t : ℕ). get_or free t 0) (sym (is_here f s q)) ∙ e)) small) j)
        at false q = unit_number n d (line_at lines r) (suc s) (suc (length free)) (suc f) j (λ t. is_elsewhere f s q (omega (arith, t))) (omega (arith, in_f)) D

    into : is_in basic z ≡ false → In z basic ⊎ In z free → In z free
    into e (inl i) = absurd (clash (is_in_member basic z i) e)
      where
        clash : is_in basic z ≡ true → is_in basic z ≡ false → ⊥
        clash p q = grind arith
    into e (inr i) = i

    by : (is_in basic z ≡ true) ⊎ (is_in basic z ≡ false) → Divides n d (line_at lines r) (suc s) (line_over d basic free lines z) j
    by (inl e) = let at = place_is z basic (in_basis basic z e) in fold true e (of_basic (place_of z basic) at.0 at.1)
    by (inr e) = let at = place_is z free (into e (h.cover z (omega (arith, small)))) in fold false e (of_free (place_of z free) at.0 at.1)

range_below : (low n z : ℕ) → In z (range_with_len low n) → z < low + n
range_below low zero z i = absurd i
range_below low (suc n) z (inl e) = omega (arith, e)
range_below low (suc n) z (inr i) = let k = range_below (low + 1) n z i in omega (arith, k)

row_number : (vars : ℕ) (rows : List Row) (d : ℤ) (basic free : List ℕ) (lines : List (List ℤ)) → Holds vars rows d basic free lines → (r s : ℕ) → r < length basic → s < length free
    → (n : ℕ) → n ∣ unsigned_abs (d *ℤ entry_at (line_at lines r) (suc s)) → OfVariables n vars d basic free lines r s → (row : Row) (j : ℕ) → Divides n d (line_at lines r) (suc s) (row_line vars d basic free lines row) j
row_number vars rows d basic free lines h r s in_r in_s n D V row j =
    subst (λ (t : ℤ). n ∣ unsigned_abs t)
    (ap₂ (λ (a b : ℤ). (if nat_eq j (suc s) then d else entry_at (line_at lines r) (suc s)) *ℤ a -ℤ b *ℤ (if nat_eq j (suc s) then pos 0 else get_or (line_at lines r) j (pos 0)))
    (sym (column_at (row.c ∷ row.a) (row_lines vars d basic free lines) j)) (sym (column_at (row.c ∷ row.a) (row_lines vars d basic free lines) (suc s))))
    (combined_divides n _ _ j (suc s) (row.c ∷ row.a) (row_lines vars d basic free lines) each)
  where
    each : (w : List ℤ) → In w (row_lines vars d basic free lines) → Divides n d (line_at lines r) (suc s) w j
    each w (inl e) = subst (λ (v : List ℤ). Divides n d (line_at lines r) (suc s) v j) (sym e) (unit_number n d (line_at lines r) (suc s) (suc (length free)) 0 j (λ t. absurd (omega (arith, t))) (omega arith) D)
    each w (inr i) =
        let k = In-map_cases (line_over d basic free lines) (range_with_len 0 vars) w i in
        let small = range_below 0 vars k.0 k.1 in
        subst (λ (v : List ℤ). Divides n d (line_at lines r) (suc s) v j) (sym k.2) (variable_number vars rows d basic free lines h r s in_r in_s n D V k.0 (omega (arith, small)) j)

each_number : (vars : ℕ) (rows : List Row) (d : ℤ) (basic free : List ℕ) (lines : List (List ℤ)) → Holds vars rows d basic free lines → (r s : ℕ) → r < length basic → s < length free
    → (n : ℕ) → n ∣ unsigned_abs (d *ℤ entry_at (line_at lines r) (suc s)) → OfVariables n vars d basic free lines r s
    → (i : ℕ) → i < length lines → (j : ℕ) → Divides n d (line_at lines r) (suc s) (get_or (prepared d lines r (suc s)) i []) j
each_number vars rows d basic free lines h r s in_r in_s n D V i in_i j = by (cases_lt (get_or (set basic r (get_or free s 0)) i 0) vars)
  where
    many : length basic ≡ length lines
    many = says_long vars rows d free basic lines h.says

    in_new : i < length (set basic r (get_or free s 0))
    in_new = let l = length-set basic r (get_or free s 0) in omega (arith, l, many, in_i)

    small : get_or (set basic r (get_or free s 0)) i 0 < vars + length rows
    small = range_set (vars + length rows) basic r (get_or free s 0) h.small_basic (h.small_free (get_or free s 0) (get_or-In free s 0 in_s)) (get_or (set basic r (get_or free s 0)) i 0) (get_or-In (set basic r (get_or free s 0)) i 0 in_new)

    enters : Line vars rows d free (get_or free s 0) (unit_line (length (line_at lines r)) (suc s) d)
    enters = subst (λ n. Line vars rows d free (get_or free s 0) (unit_line n (suc s) d)) (sym (says_at vars rows d free basic lines r in_r h.says).0) (unit_says vars rows h.rows_are d free h.small_free s in_s)

    line : Line vars rows d free (get_or (set basic r (get_or free s 0)) i 0) (get_or (prepared d lines r (suc s)) i [])
    line = says_at vars rows d free (set basic r (get_or free s 0)) (prepared d lines r (suc s)) i in_new (says_set vars rows d free basic lines r (get_or free s 0) (unit_line (length (line_at lines r)) (suc s) d) h.says enters)

    slack : (z : ℕ) → z < vars + length rows → vars ≤ z → Line vars rows d free z (get_or (prepared d lines r (suc s)) i []) → get_or (prepared d lines r (suc s)) i [] ≡ row_line vars d basic free lines (row_at rows (z - vars))
    slack z below above l = slack_line vars rows d basic free lines h (z - vars) (omega (arith, below, above)) (get_or (prepared d lines r (suc s)) i []) (subst (λ t. Line vars rows d free t (get_or (prepared d lines r (suc s)) i [])) (back vars z above) l)
      where
        back : (v z : ℕ) → v ≤ z → z ≡ v + (z - v)
        back v z h = omega (arith, h)

    by : (get_or (set basic r (get_or free s 0)) i 0 < vars) ⊎ (vars ≤ get_or (set basic r (get_or free s 0)) i 0) → Divides n d (line_at lines r) (suc s) (get_or (prepared d lines r (suc s)) i []) j
    by (inl k) = V i in_i k j
    by (inr k) = subst (λ (v : List ℤ). Divides n d (line_at lines r) (suc s) v j) (sym (slack (get_or (set basic r (get_or free s 0)) i 0) small k line)) (row_number vars rows d basic free lines h r s in_r in_s n D V (row_at rows (get_or (set basic r (get_or free s 0)) i 0 - vars)) j)

-- ---- all numbers of lists
divides_at : (n : ℕ) (xs : List ℤ) (j : ℕ) → All (λ x. n ∣ unsigned_abs x) xs → n ∣ unsigned_abs (get_or xs j (pos 0))
divides_at n xs j all = by (cases_lt j (length xs))
  where
    by : (j < length xs) ⊎ (length xs ≤ j) → n ∣ unsigned_abs (get_or xs j (pos 0))
    by (inl h) = all j (pos 0) h
    by (inr h) = subst (λ (t : ℤ). n ∣ unsigned_abs t) (sym (past_the_end xs j h)) (dvd-zero n)

divides_all : (n : ℕ) (xs : List ℤ) → ((j : ℕ) → n ∣ unsigned_abs (get_or xs j (pos 0))) → All (λ x. n ∣ unsigned_abs x) xs
divides_all n xs h = λ j d k. subst (λ (t : ℤ). n ∣ unsigned_abs t) (any_default xs j (pos 0) d k) (h j)

pub length-of_variables : (vars : ℕ) (basic : List ℕ) (lines : List (List ℤ)) → length basic ≡ length lines → length (of_variables vars basic lines) ≡ length lines
length-of_variables vars [] lines l = l
length-of_variables vars (z ∷ basic) [] l = refl
length-of_variables vars (z ∷ basic) (x ∷ lines) l = ap suc (length-of_variables vars basic lines (omega (arith, l)))

pub at_of_variables : (vars : ℕ) (basic : List ℕ) (lines : List (List ℤ)) (i : ℕ) (d : List ℤ) → length basic ≡ length lines → i < length lines
    → get_or (of_variables vars basic lines) i d ≡ (if nat_lt (get_or basic i 0) vars then get_or lines i [] else [])
at_of_variables vars [] lines i d l h = absurd (omega (arith, l, h))
at_of_variables vars (z ∷ basic) [] i d l h = absurd (omega (arith, h))
at_of_variables vars (z ∷ basic) (x ∷ lines) zero d l h = refl
at_of_variables vars (z ∷ basic) (x ∷ lines) (suc i) d l h = at_of_variables vars basic lines i d (omega (arith, l)) (omega (arith, h))

is_below : (z vars : ℕ) → z < vars → nat_lt z vars ≡ true
is_below z vars h = grind (arith, nat_tests, h)

is_above : (z vars : ℕ) → vars ≤ z → nat_lt z vars ≡ false
is_above z vars h = grind (arith, nat_tests, h)

pub at_variable : (vars : ℕ) (basic : List ℕ) (lines : List (List ℤ)) (i : ℕ) (d : List ℤ) → length basic ≡ length lines → i < length lines → get_or basic i 0 < vars → get_or (of_variables vars basic lines) i d ≡ get_or lines i []
at_variable vars basic lines i d l h k = at_of_variables vars basic lines i d l h ∙ ap (λ (b : Bool). if b then get_or lines i [] else []) (is_below (get_or basic i 0) vars k)

pub at_slack : (vars : ℕ) (basic : List ℕ) (lines : List (List ℤ)) (i : ℕ) (d : List ℤ) → length basic ≡ length lines → i < length lines → vars ≤ get_or basic i 0 → get_or (of_variables vars basic lines) i d ≡ []
at_slack vars basic lines i d l h k = at_of_variables vars basic lines i d l h ∙ ap (λ (b : Bool). if b then get_or lines i [] else []) (is_above (get_or basic i 0) vars k)

pub variables_divided : (n vars : ℕ) (basic : List ℕ) (lines : List (List ℤ)) → All (λ line. All (λ x. n ∣ unsigned_abs x) line) lines → All (λ line. All (λ x. n ∣ unsigned_abs x) line) (of_variables vars basic lines)
variables_divided n vars [] lines all = All-nil (λ line. All (λ x. n ∣ unsigned_abs x) line)
variables_divided n vars (z ∷ basic) [] all = All-nil (λ line. All (λ x. n ∣ unsigned_abs x) line)
variables_divided n vars (z ∷ basic) (x ∷ lines) all =
    All-cons (λ line. All (λ x. n ∣ unsigned_abs x) line) (if nat_lt z vars then x else []) (of_variables vars basic lines) (first (nat_lt z vars)) (variables_divided n vars basic lines (All-tail (λ line. All (λ x. n ∣ unsigned_abs x) line) x lines all))
  where
    first : (b : Bool) → All (λ x. n ∣ unsigned_abs x) (if b then x else [])
    first true = All-head (λ line. All (λ x. n ∣ unsigned_abs x) line) x lines all
    first false = All-nil (λ x. n ∣ unsigned_abs x)

pub all_divided : (vars : ℕ) (rows : List Row) (d : ℤ) (basic free : List ℕ) (lines : List (List ℤ)) → Holds vars rows d basic free lines → (r s : ℕ) → r < length basic → s < length free
    → (n : ℕ) → n ∣ unsigned_abs (d *ℤ entry_at (line_at lines r) (suc s))
    → All (λ line. All (λ x. n ∣ unsigned_abs x) line) (of_variables vars (set basic r (get_or free s 0)) (turned_lines d lines r (suc s)))
    → All (λ line. All (λ x. n ∣ unsigned_abs x) line) (turned_lines d lines r (suc s))
all_divided vars rows d basic free lines h r s in_r in_s n D all = λ i e k. subst (All (λ x. n ∣ unsigned_abs x)) (sym (at_map (pivoted_line d (line_at lines r) (suc s)) (prepared d lines r (suc s)) i e [] (in_prepared i k))) (divided i (in_lines i k))
  where
    many : length basic ≡ length lines
    many = says_long vars rows d free basic lines h.says

    in_lines : (i : ℕ) → i < length (turned_lines d lines r (suc s)) → i < length lines
    in_lines i k = let a = length-map (prepared d lines r (suc s)) (pivoted_line d (line_at lines r) (suc s)) in let b = length-set lines r (unit_line (length (line_at lines r)) (suc s) d) in omega (arith, a, b, k)

    in_prepared : (i : ℕ) → i < length (turned_lines d lines r (suc s)) → i < length (prepared d lines r (suc s))
    in_prepared i k = let a = length-map (prepared d lines r (suc s)) (pivoted_line d (line_at lines r) (suc s)) in omega (arith, a, k)

    in_turned : (i : ℕ) → i < length lines → i < length (turned_lines d lines r (suc s))
    in_turned i k = let a = length-map (prepared d lines r (suc s)) (pivoted_line d (line_at lines r) (suc s)) in let b = length-set lines r (unit_line (length (line_at lines r)) (suc s) d) in omega (arith, a, b, k)

    same_length : length (set basic r (get_or free s 0)) ≡ length (turned_lines d lines r (suc s))
    same_length =
        let a = length-map (prepared d lines r (suc s)) (pivoted_line d (line_at lines r) (suc s)) in
        let b = length-set lines r (unit_line (length (line_at lines r)) (suc s) d) in
        let c = length-set basic r (get_or free s 0) in
        omega (arith, a, b, c, many)

    leaves : length (line_at lines r) ≡ suc (length free)
    leaves = (says_at vars rows d free basic lines r in_r h.says).0

    enters : Line vars rows d free (get_or free s 0) (unit_line (length (line_at lines r)) (suc s) d)
    enters = subst (λ n. Line vars rows d free (get_or free s 0) (unit_line n (suc s) d)) (sym leaves) (unit_says vars rows h.rows_are d free h.small_free s in_s)

    long : (i : ℕ) → i < length lines → length (get_or (prepared d lines r (suc s)) i []) ≡ suc (length free)
    long i k =
        (says_at vars rows d free (set basic r (get_or free s 0)) (prepared d lines r (suc s)) i (let c = length-set basic r (get_or free s 0) in omega (arith, c, many, k))
        (says_set vars rows d free basic lines r (get_or free s 0) (unit_line (length (line_at lines r)) (suc s) d) h.says enters)).0

    number : (i : ℕ) → i < length lines → (j : ℕ) → get_or (pivoted_line d (line_at lines r) (suc s) (get_or (prepared d lines r (suc s)) i [])) j (pos 0) ≡ number_of d (line_at lines r) (suc s) (get_or (prepared d lines r (suc s)) i []) j
    number i k j = let l = long i k in pivoted_number d (line_at lines r) (suc s) (get_or (prepared d lines r (suc s)) i []) j (omega (arith, l, in_s)) (l ∙ sym leaves)

    given : OfVariables n vars d basic free lines r s
    given i k small j =
        let t = in_turned i k in
        let line : All (λ x. n ∣ unsigned_abs x) (pivoted_line d (line_at lines r) (suc s) (get_or (prepared d lines r (suc s)) i [])) =
        subst (All (λ x. n ∣ unsigned_abs x)) (at_variable vars (set basic r (get_or free s 0)) (turned_lines d lines r (suc s)) i [] same_length t small ∙ at_map (pivoted_line d (line_at lines r) (suc s)) (prepared d lines r (suc s)) i [] [] (in_prepared i t))
        (all i [] (let l = length-of_variables vars (set basic r (get_or free s 0)) (turned_lines d lines r (suc s)) same_length in omega (arith, l, t))) in
        subst (λ (x : ℤ). n ∣ unsigned_abs x) (number i k j) (divides_at n (pivoted_line d (line_at lines r) (suc s) (get_or (prepared d lines r (suc s)) i [])) j line)

    divided : (i : ℕ) → i < length lines → All (λ x. n ∣ unsigned_abs x) (pivoted_line d (line_at lines r) (suc s) (get_or (prepared d lines r (suc s)) i []))
    divided i k = divides_all n (pivoted_line d (line_at lines r) (suc s) (get_or (prepared d lines r (suc s)) i [])) (λ j. subst (λ (x : ℤ). n ∣ unsigned_abs x) (sym (number i k j)) (each_number vars rows d basic free lines h r s in_r in_s n D given i k j))
