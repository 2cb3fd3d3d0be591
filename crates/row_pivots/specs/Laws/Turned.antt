-- A table, pivoted.
--
--   unit_line n k d                 n numbers, all 0 but d at place k
--   prepared d lines r k            the lines, with that of what enters, over the old free variables, in place of that of what leaves
--   turned_lines d lines r k        all lines of the new basis, before they are divided: one rule for each line
--   quotients g xs                  all numbers divided
--   IsContent g d lines             g has just the divisors that d and all numbers of the lines have
--   turned                          what is pivoted and divided by its content, with the sign of the entry, is the table of the new basis
use Rattle.std.proofs.Common.{◌≡◌, ◌≢◌, ℕ, zero, suc, ◌+◌, ◌*◌, ◌<◌, List, [], ◌∷◌, length, map, get_or, set, All, refl, ap, ap₂, sym, subst, ◌∙◌, arith, ℤ, pos, negsuc, ◌+ℤ◌, ◌*ℤ◌, ◌≤ℤ◌, ◌⊎◌, inl, inr, unsigned_abs, int_div, ◌↔◌, mul-one, length-set}
use Rattle.std.proofs.lemmas.Int.{ints, unsigned_abs-mul}
use Rattle.std.proofs.lemmas.List.{length-map, length-replicate}
use Rattle.std.proofs.Math.Nat.{dvd-mul_right, mul-dvd-mul_left, eq-one_of_dvd-one, dvd_of_mul-dvd-mul_left}
use Rattle.std.specs.Int.{◌∣◌}
use Rattle.integer_laws.specs.Laws.Divisors.{exact_quotient}
use Rattle.integer_laws.specs.Members.{In}
use Rattle.integer_laws.specs.Laws.Members.{In-map, All-in, All-from_in}
use Rattle.integer_laws.specs.Vectors.{dot, scale, zeros}
use Rattle.integer_laws.specs.Laws.Vectors.{dot-set, dot-zeros}
use Rattle.row_pivots.specs.Laws.Pivoting.{Line, line_from, column, all_stay, says_set, says_at, says_divided, get_or-In, get_or-map, range_set, In-set, long_columns}
use Rattle.row_pivots.specs.Tables.{AreRowsOf, InRange}
use Rattle.row_pivots.specs.Turns.{entry_at, line_at}
use Rattle.row_pivots.specs.Tables.{Fresh, Holds}
use Rattle.seq_model.specs.Dictionaries.{meaning, one, Says, DividesAll}
use Rattle.seq_model.specs.declared.row.Row.{Row}
use Rattle.row_pivots.specs.Turns.{IsContent, prepared, quotients, turned_lines, unit_line}

-- ---- the line of what enters, over the old free variables
pub unit_says : (vars : ℕ) (rows : List Row) → AreRowsOf vars rows → (d : ℤ) (free : List ℕ) → InRange (vars + length rows) free → (s : ℕ) → s < length free
    → Line vars rows d free (get_or free s 0) (unit_line (suc (length free)) (suc s) d)
unit_says vars rows are d free small s h =
    line_from vars rows are d free small (get_or free s 0) (small (get_or free s 0) (get_or-In free s 0 h)) (unit_line (suc (length free)) (suc s) d) long each
  where
    long : length (unit_line (suc (length free)) (suc s) d) ≡ suc (length free)
    long = length-set (zeros (suc (length free))) (suc s) d ∙ length-replicate (suc (length free)) (pos 0)

    same : (cs : List ℤ) (k : ℕ) (x : ℤ) → set cs k (get_or cs k x) ≡ cs
    same [] k x = refl
    same (c ∷ cs) zero x = refl
    same (c ∷ cs) (suc k) x = ap (λ t. c ∷ t) (same cs k x)

    only : (n : ℕ) (cs : List ℤ) (k : ℕ) → k < n → k < length cs → dot (set (zeros n) k d) cs ≡ d *ℤ get_or cs k (pos 0)
    only n cs k in_n in_c =
        let e = dot-set k (zeros n) cs d (get_or cs k (pos 0)) (pos 0) (pos 0) (let l = length-replicate n (pos 0) in omega (arith, in_n, l)) in_c in
        let z = dot-zeros n cs in
        sym (ap (dot (set (zeros n) k d)) (same cs k (pos 0))) ∙ settle _ _ _ _ _ e (zero_at n k) z
      where
        zero_at : (n k : ℕ) → get_or (zeros n) k (pos 0) ≡ pos 0
        zero_at zero k = refl
        zero_at (suc n) zero = refl
        zero_at (suc n) (suc k) = zero_at n k

        settle : (g a x b c : ℤ) → g +ℤ a *ℤ x ≡ b +ℤ c → a ≡ pos 0 → b ≡ pos 0 → g ≡ c
        settle g a x b c e f h = let p = ap (λ t. t *ℤ x) f in omega (arith, ints, e, p, h)

    each : (j : ℕ) → d *ℤ get_or (meaning vars rows (get_or free s 0)) j (pos 0) ≡ dot (unit_line (suc (length free)) (suc s) d) (column j (one vars ∷ map (meaning vars rows) free))
    each j =
        let cs = column j (one vars ∷ map (meaning vars rows) free) in
        let lc = long_columns vars rows free j in
        let lm = length-map free (meaning vars rows) in
        let at : get_or cs (suc s) (pos 0) ≡ get_or (meaning vars rows (get_or free s 0)) j (pos 0) =
        get_or-map (λ v. get_or v j (pos 0)) (map (meaning vars rows) free) s (pos 0) [] (omega (arith, lm, h)) ∙ ap (λ v. get_or v j (pos 0)) (get_or-map (meaning vars rows) free s [] 0 h) in
        ap (λ t. d *ℤ t) (sym at) ∙ sym (only (suc (length free)) cs (suc s) (omega (arith, h)) (omega (arith, lc, h)))

pub says_turned : (vars : ℕ) (rows : List Row) → AreRowsOf vars rows → (d : ℤ) (free basic : List ℕ) (lines : List (List ℤ)) → InRange (vars + length rows) free → InRange (vars + length rows) basic
    → (r s : ℕ) → r < length basic → s < length free → Says vars rows d free basic lines
    → Says vars rows (d *ℤ entry_at (line_at lines r) (suc s)) (set free s (get_or basic r 0)) (set basic r (get_or free s 0)) (turned_lines d lines r (suc s))
says_turned vars rows are d free basic lines small_free small_basic r s in_r in_s says =
    let out = get_or basic r 0 in
    let into = get_or free s 0 in
    let ys = line_at lines r in
    let in_out = small_basic out (get_or-In basic r 0 in_r) in
    let in_into = small_free into (get_or-In free s 0 in_s) in
    let leaves = says_at vars rows d free basic lines r in_r says in
    all_stay vars rows are d free small_free s out in_s in_out ys leaves (set basic r into) (prepared d lines r (suc s)) (range_set (vars + length rows) basic r into small_basic in_into)
    (says_set vars rows d free basic lines r into (unit_line (length ys) (suc s) d) says
    (subst (λ n. Line vars rows d free into (unit_line n (suc s) d)) (sym leaves.0) (unit_says vars rows are d free small_free s in_s)))

-- ---- what stands in the lists
pub fresh_set : (xs : List ℕ) (i y : ℕ) → Fresh xs → (In y xs → ⊥) → Fresh (set xs i y)
fresh_set [] i y f n = tt
fresh_set (x ∷ xs) zero y f n = (λ k. n (inr k), f.1)
fresh_set (x ∷ xs) (suc i) y f n = (λ k. by (In-set xs i y x k), fresh_set xs i y f.1 (λ k. n (inr k)))
  where
    by : (x ≡ y) ⊎ In x xs → ⊥
    by (inl e) = n (inl (sym e))
    by (inr k) = f.0 k

-- what is put there is there, and what was there has gone
In-put : (xs : List ℕ) (i y : ℕ) → i < length xs → In y (set xs i y)
In-put [] i y h = absurd (omega (arith, h))
In-put (x ∷ xs) zero y h = inl refl
In-put (x ∷ xs) (suc i) y h = inr (In-put xs i y (omega (arith, h)))

gone : (xs : List ℕ) (i y : ℕ) → i < length xs → Fresh xs → (In y xs → ⊥) → In (get_or xs i 0) (set xs i y) → ⊥
gone [] i y h f n k = absurd (omega (arith, h))
gone (x ∷ xs) zero y h f n (inl e) = n (inl (sym e))
gone (x ∷ xs) zero y h f n (inr k) = f.0 k
gone (x ∷ xs) (suc i) y h f n (inl e) = f.0 (subst (λ t. In t xs) e (get_or-In xs i 0 (omega (arith, h))))
gone (x ∷ xs) (suc i) y h f n (inr k) = gone xs i y (omega (arith, h)) f.1 (λ j. n (inr j)) k

kept_or : (xs : List ℕ) (i y z : ℕ) → i < length xs → In z xs → (z ≡ get_or xs i 0) ⊎ In z (set xs i y)
kept_or [] i y z h k = absurd k
kept_or (x ∷ xs) zero y z h (inl e) = inl e
kept_or (x ∷ xs) zero y z h (inr k) = inr (inr k)
kept_or (x ∷ xs) (suc i) y z h (inl e) = inr (inl e)
kept_or (x ∷ xs) (suc i) y z h (inr k) = by (kept_or xs i y z (omega (arith, h)) k)
  where
    by : (z ≡ get_or xs i 0) ⊎ In z (set xs i y) → (z ≡ get_or xs i 0) ⊎ In z (x ∷ set xs i y)
    by (inl e) = inl e
    by (inr j) = inr (inr j)

pub set_members : (xs : List ℕ) (i y z : ℕ) → i < length xs → Fresh xs → (In y xs → ⊥) → In z (set xs i y) ↔ ((z ≡ y) ⊎ (In z xs × (z ≢ get_or xs i 0)))
set_members xs i y z h f n = (there, back)
  where
    there : In z (set xs i y) → (z ≡ y) ⊎ (In z xs × (z ≢ get_or xs i 0))
    there k = by (In-set xs i y z k)
      where
        by : (z ≡ y) ⊎ In z xs → (z ≡ y) ⊎ (In z xs × (z ≢ get_or xs i 0))
        by (inl e) = inl e
        by (inr j) = inr (j, λ e. gone xs i y h f n (subst (λ t. In t (set xs i y)) e k))

    back : (z ≡ y) ⊎ (In z xs × (z ≢ get_or xs i 0)) → In z (set xs i y)
    back (inl e) = subst (λ t. In t (set xs i y)) (sym e) (In-put xs i y h)
    back (inr k) = by (kept_or xs i y z h k.0)
      where
        by : (z ≡ get_or xs i 0) ⊎ In z (set xs i y) → In z (set xs i y)
        by (inl e) = absurd (k.1 e)
        by (inr j) = j

-- ---- division
exact_line : (g : ℤ) (xs : List ℤ) → ((x : ℤ) → In x xs → unsigned_abs g ∣ unsigned_abs x) → xs ≡ scale g (quotients g xs)
exact_line g [] h = refl
exact_line g (x ∷ xs) h = ap₂ (λ a rest. a ∷ rest) (exact_quotient x g (h x (inl refl))) (exact_line g xs (λ y i. h y (inr i)))

exact_lines : (g : ℤ) (lines : List (List ℤ)) → ((l : List ℤ) → In l lines → (x : ℤ) → In x l → unsigned_abs g ∣ unsigned_abs x) → lines ≡ map (scale g) (map (quotients g) lines)
exact_lines g [] h = refl
exact_lines g (l ∷ lines) h = ap₂ (λ a rest. a ∷ rest) (exact_line g l (h l (inl refl))) (exact_lines g lines (λ k i. h k (inr i)))

pub divides_self : (n : ℕ) → n ∣ n
divides_self n = subst (λ t. n ∣ t) (mul-one n) (dvd-mul_right n 1)

abs_some : (g : ℤ) → (g ≡ pos 0 → ⊥) → 0 < unsigned_abs g
abs_some (pos zero) n = absurd (n refl)
abs_some (pos (suc m)) n = omega arith
abs_some (negsuc m) n = omega arith

content_divides : (D : ℤ) (N : List (List ℤ)) (g : ℤ) → IsContent g D N → (l : List ℤ) → In l N → (x : ℤ) → In x l → unsigned_abs g ∣ unsigned_abs x
content_divides D N g content l i x k = All-in (λ x. unsigned_abs g ∣ unsigned_abs x) l x (All-in (λ l. All (λ x. unsigned_abs g ∣ unsigned_abs x) l) N l ((content (unsigned_abs g)).0 (divides_self (unsigned_abs g))).1 i) k

-- what is divided by its content has no divisor left
pub divided_reduced : (D : ℤ) (N : List (List ℤ)) (g : ℤ) → (g ≡ pos 0 → ⊥) → IsContent g D N → (k : ℕ) → DividesAll k (int_div D g) (map (quotients g) N) → k ≡ 1
divided_reduced D N g some content k a = eq-one_of_dvd-one (dvd_of_mul-dvd-mul_left k (abs_some g some) (subst (λ t. unsigned_abs g * k ∣ t) (sym (mul-one (unsigned_abs g))) ((content (unsigned_abs g * k)).1 (first, rest))))
  where
    times : (x : ℤ) → unsigned_abs g ∣ unsigned_abs x → k ∣ unsigned_abs (int_div x g) → unsigned_abs g * k ∣ unsigned_abs x
    times x v w = subst (λ t. unsigned_abs g * k ∣ t) (sym (ap unsigned_abs (exact_quotient x g v) ∙ unsigned_abs-mul g (int_div x g))) (mul-dvd-mul_left k (unsigned_abs g) w)

    first : unsigned_abs g * k ∣ unsigned_abs D
    first = times D ((content (unsigned_abs g)).0 (divides_self (unsigned_abs g))).0 a.0

    rest : All (λ l. All (λ x. unsigned_abs g * k ∣ unsigned_abs x) l) N
    rest = All-from_in (λ l. All (λ x. unsigned_abs g * k ∣ unsigned_abs x) l) N (λ l i. All-from_in (λ x. unsigned_abs g * k ∣ unsigned_abs x) l (λ x j.
        times x (content_divides D N g content l i x j) (All-in (λ x. k ∣ unsigned_abs x) (quotients g l) (int_div x g) (All-in (λ l. All (λ x. k ∣ unsigned_abs x) l) (map (quotients g) N) (quotients g l) a.1 (In-map (quotients g) N l i)) (In-map (λ x. int_div x g) l x j))))

-- lines that say a basis over what they are divided by still say it
pub says_content : (vars : ℕ) (rows : List Row) → AreRowsOf vars rows → (D : ℤ) (N : List (List ℤ)) (g : ℤ) → (g ≡ pos 0 → ⊥) → IsContent g D N → (free basic : List ℕ) → InRange (vars + length rows) free → InRange (vars + length rows) basic
    → Says vars rows D free basic N → Says vars rows (int_div D g) free basic (map (quotients g) N)
says_content vars rows are D N g some content free basic small_free small_basic says =
    says_divided vars rows are g (int_div D g) some free small_free basic small_basic (map (quotients g) N)
    (subst (λ e. Says vars rows e free basic (map (scale g) (map (quotients g) N))) (exact_quotient D g ((content (unsigned_abs g)).0 (divides_self (unsigned_abs g))).0)
    (subst (λ l. Says vars rows D free basic l) (exact_lines g N (content_divides D N g content)) says))

pub turned : (vars : ℕ) (rows : List Row) (d : ℤ) (basic free : List ℕ) (lines : List (List ℤ)) → Holds vars rows d basic free lines
    → (r s : ℕ) → r < length basic → s < length free → (g : ℤ) → (g ≡ pos 0 → ⊥) → IsContent g (d *ℤ entry_at (line_at lines r) (suc s)) (turned_lines d lines r (suc s))
    → pos 1 ≤ℤ int_div (d *ℤ entry_at (line_at lines r) (suc s)) g
    → Holds vars rows (int_div (d *ℤ entry_at (line_at lines r) (suc s)) g) (set basic r (get_or free s 0)) (set free s (get_or basic r 0)) (map (quotients g) (turned_lines d lines r (suc s)))
turned vars rows d basic free lines h r s in_r in_s g some content sign = record {
  rows_are = h.rows_are;
  positive = sign;
  many = length-set basic r into ∙ h.many;
  fresh_basic = fresh_set basic r into h.fresh_basic (h.apart into free_into);
  fresh_free = fresh_set free s out h.fresh_free (λ k. h.apart out k basic_out);
  apart = apart;
  small_basic = range_set (vars + length rows) basic r into h.small_basic (h.small_free into free_into);
  small_free = range_set (vars + length rows) free s out h.small_free (h.small_basic out basic_out);
  cover = cover;
  says = says_content vars rows h.rows_are D N g some content (set free s out) (set basic r into) (range_set (vars + length rows) free s out h.small_free (h.small_basic out basic_out))
      (range_set (vars + length rows) basic r into h.small_basic (h.small_free into free_into)) (says_turned vars rows h.rows_are d free basic lines h.small_free h.small_basic r s in_r in_s h.says);
  reduced = divided_reduced D N g some content;
}
  where
    into : ℕ
    into = get_or free s 0

    out : ℕ
    out = get_or basic r 0

    D : ℤ
    D = d *ℤ entry_at (line_at lines r) (suc s)

    N : List (List ℤ)
    N = turned_lines d lines r (suc s)

    free_into : In into free
    free_into = get_or-In free s 0 in_s

    basic_out : In out basic
    basic_out = get_or-In basic r 0 in_r

    apart : (y : ℕ) → In y (set free s out) → In y (set basic r into) → ⊥
    apart y i k = by (In-set free s out y i) (In-set basic r into y k)
      where
        by : (y ≡ out) ⊎ In y free → (y ≡ into) ⊎ In y basic → ⊥
        by (inl e) q = gone basic r into in_r h.fresh_basic (h.apart into free_into) (subst (λ t. In t (set basic r into)) e k)
        by (inr e) (inl q) = gone free s out in_s h.fresh_free (λ j. h.apart out j basic_out) (subst (λ t. In t (set free s out)) q i)
        by (inr e) (inr q) = h.apart y e q

    cover : (y : ℕ) → y < vars + length rows → In y (set basic r into) ⊎ In y (set free s out)
    cover y small = by (h.cover y small)
      where
        by : In y basic ⊎ In y free → In y (set basic r into) ⊎ In y (set free s out)
        by (inl i) = stays (kept_or basic r into y in_r i)
          where
            stays : (y ≡ out) ⊎ In y (set basic r into) → In y (set basic r into) ⊎ In y (set free s out)
            stays (inl e) = inr (subst (λ t. In t (set free s out)) (sym e) (In-put free s out in_s))
            stays (inr j) = inl j
        by (inr i) = stays (kept_or free s out y in_s i)
          where
            stays : (y ≡ into) ⊎ In y (set free s out) → In y (set basic r into) ⊎ In y (set free s out)
            stays (inl e) = inl (subst (λ t. In t (set basic r into)) (sym e) (In-put basic r into in_r))
            stays (inr j) = inr j
