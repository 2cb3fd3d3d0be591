-- The measure of a loop that walks by the least-index rule.
--
--   Table                          a basis with the denominator and the lines of its form
--   IsTable vars rows t            it is the form of its basis
--   content_of g lines             the greatest common divisor of a number and all numbers of the lines
--   place_of z zs                  the place of a number in a list
--   pivoted count t out into       the table of the next basis
--   next_of count t                the next table, or None where the walk stops
--   steps_left count k t           how many steps the walk still takes from the table, at most k
--   next_table                     the next table is that of the next basis
--   bounded                        a walk takes fewer than 2^n steps
--   falls                          each step makes it less
use Rattle.std.proofs.Common.{◌≡◌, ◌≢◌, ℕ, zero, suc, ◌+◌, ◌<◌, ◌^◌, List, [], ◌∷◌, length, map, get_or, set, All, refl, ap, ap₂, sym, subst, ◌∙◌, arith, ℤ, pos, ◌*ℤ◌, ◌≤ℤ◌, ◌<ℤ◌, ◌⊎◌, inl, inr, Bool, true, false, Option, Some, None, unsigned_abs, int_div, ◌↔◌}
use Rattle.std.proofs.lemmas.Bool.Decides.{nat_tests}
use Rattle.std.proofs.lemmas.Int.{ints}
use Rattle.std.proofs.lemmas.List.Elements.{All-nil, All-cons, All-head, All-tail}
use Rattle.std.proofs.lemmas.Nat.Gcd.{dvd_trans}
use Rattle.std.proofs.lemmas.Option.{same_Some, none-some}
use Rattle.std.proofs.Math.Nat.{zero-dvd}
use Rattle.std.specs.Int.{◌∣◌, IsGcd}
use Rattle.std.specs.Prelude.{nat_eq, if◌then◌else◌}
use lib.Dec.{T}
use Rattle.integer_laws.specs.Divisors.{gcd_of}
use Rattle.integer_laws.specs.Laws.Divisors.{gcd_of_is, exact_quotient}
use Rattle.integer_laws.specs.Members.{In}
use Rattle.integer_laws.specs.Laws.Order.{mul_positive, cancel_lt}
use Rattle.integer_laws.specs.Laws.Ring.{expand}
use Rattle.row_laws.specs.Computed.{leaving, entering, first_positive, line_of}
use Rattle.row_laws.specs.Laws.Independence.{from_zero, equal_is, is_equal}
use Rattle.row_laws.specs.Laws.Lines.{line_of_has, member}
use Rattle.row_laws.specs.Laws.OneForm.{one_form}
use Rattle.row_laws.specs.Laws.Pivots.{Left, left, Entered, entered, entering_is, below, free_climbs}
use Rattle.row_pivots.specs.Laws.Bland.{Step, Run, short, not_basic}
use Rattle.row_pivots.specs.Laws.Changes.{Change}
use Rattle.row_pivots.specs.Tables.{AreRowsOf}
use Rattle.row_pivots.specs.Turns.{entry_at, line_at}
use Rattle.row_pivots.specs.Laws.Points.{climbs_fresh}
use Rattle.row_pivots.specs.Laws.Sorted.{table_is_form, rising_members}
use Rattle.row_pivots.specs.Tables.{Fresh, Holds, Held, rising}
use Rattle.row_pivots.specs.Laws.Turned.{turned, set_members, divides_self}
use Rattle.row_pivots.specs.Turns.{turned_lines, quotients, IsContent}
use Rattle.row_pivots.specs.Laws.Values.{free_or_basic}
use Rattle.seq_model.specs.Dictionaries.{free_of, Form, Has}
use Rattle.seq_model.specs.Walks.{entries, Leaves, Enters}
use Rattle.seq_model.specs.declared.row.Row.{Row}
use Rattle.row_pivots.specs.Steps.{IsTable, Table, after_entering, after_leaving, content_of, line_content, next_of, pivoted, steps_left, table_of, then_one}
use Rattle.row_pivots.specs.Tables.{place_of}

-- ---- the content
line_divides : (g : ℕ) (xs : List ℤ) (k : ℕ) → (k ∣ line_content g xs) ↔ ((k ∣ g) × All (λ x. k ∣ unsigned_abs x) xs)
unfolding line_content
line_divides g [] k = (λ h. (h, All-nil (λ x. k ∣ unsigned_abs x)), λ p. p.0)
line_divides g (x ∷ xs) k = by (line_divides (gcd_of g (unsigned_abs x)) xs k)
  where
    by : ((k ∣ line_content (gcd_of g (unsigned_abs x)) xs) ↔ ((k ∣ (gcd_of g (unsigned_abs x))) × All (λ x. k ∣ unsigned_abs x) xs)) → (k ∣ line_content (gcd_of g (unsigned_abs x)) xs) ↔ ((k ∣ g) × All (λ x. k ∣ unsigned_abs x) (x ∷ xs))
    by more = (there more, back more)
      where
        G : IsGcd g (unsigned_abs x) (gcd_of g (unsigned_abs x))
        G = gcd_of_is g (unsigned_abs x)

        there : ((k ∣ line_content (gcd_of g (unsigned_abs x)) xs) ↔ ((k ∣ (gcd_of g (unsigned_abs x))) × All (λ x. k ∣ unsigned_abs x) xs)) → k ∣ line_content (gcd_of g (unsigned_abs x)) xs → (k ∣ g) × All (λ x. k ∣ unsigned_abs x) (x ∷ xs)
        there more h = let m = more.0 h in (dvd_trans k m.0 G.0, All-cons (λ x. k ∣ unsigned_abs x) x xs (dvd_trans k m.0 G.1) m.1)

        back : ((k ∣ line_content (gcd_of g (unsigned_abs x)) xs) ↔ ((k ∣ (gcd_of g (unsigned_abs x))) × All (λ x. k ∣ unsigned_abs x) xs)) → (k ∣ g) × All (λ x. k ∣ unsigned_abs x) (x ∷ xs) → k ∣ line_content (gcd_of g (unsigned_abs x)) xs
        back more p = more.1 (G.2 k p.0 (All-head (λ x. k ∣ unsigned_abs x) x xs p.1), All-tail (λ x. k ∣ unsigned_abs x) x xs p.1)

pub content_divides : (g : ℕ) (lines : List (List ℤ)) (k : ℕ) → (k ∣ content_of g lines) ↔ ((k ∣ g) × All (λ l. All (λ x. k ∣ unsigned_abs x) l) lines)
unfolding content_of
content_divides g [] k = (λ h. (h, All-nil (λ l. All (λ x. k ∣ unsigned_abs x) l)), λ p. p.0)
content_divides g (l ∷ lines) k = by (content_divides (line_content g l) lines k)
  where
    by : ((k ∣ content_of (line_content g l) lines) ↔ ((k ∣ line_content g l) × All (λ l. All (λ x. k ∣ unsigned_abs x) l) lines)) → (k ∣ content_of (line_content g l) lines) ↔ ((k ∣ g) × All (λ l. All (λ x. k ∣ unsigned_abs x) l) (l ∷ lines))
    by more = (
      λ h. let m = more.0 h in let n = (line_divides g l k).0 m.0 in (n.0, All-cons (λ l. All (λ x. k ∣ unsigned_abs x) l) l lines n.1 m.1),
      λ p. more.1 ((line_divides g l k).1 (p.0, All-head (λ l. All (λ x. k ∣ unsigned_abs x) l) l lines p.1), All-tail (λ l. All (λ x. k ∣ unsigned_abs x) l) l lines p.1),
    )

-- ---- places
pub place_is : (z : ℕ) (zs : List ℕ) → In z zs → (place_of z zs < length zs) × (get_or zs (place_of z zs) 0 ≡ z)
place_is z [] i = absurd i
place_is z (y ∷ zs) i = by (nat_eq z y) refl i (place_is z zs)
  where
    by : (b : Bool) → nat_eq z y ≡ b → In z (y ∷ zs) → (In z zs → (place_of z zs < length zs) × (get_or zs (place_of z zs) 0 ≡ z))
        → ((if b then 0 else suc (place_of z zs)) < suc (length zs)) × (get_or (y ∷ zs) (if b then 0 else suc (place_of z zs)) 0 ≡ z)
    by true e j later = (omega arith, sym (equal_is z y e))
    by false e (inl s) later = absurd (subst T (sym (is_equal z y s) ∙ e) tt)
    by false e (inr j) later = let r = later j in (omega (arith, r.0), r.1)

pub has_place : {X : Type 0} (zs : List ℕ) (xs : List X) (z : ℕ) (x d : X) → Has zs xs z x → Fresh zs → get_or xs (place_of z zs) d ≡ x
has_place [] xs z x d h f = absurd h
has_place (y ∷ zs) [] z x d h f = absurd h
has_place (y ∷ zs) (w ∷ xs) z x d (inl s) f = ap (λ (b : Bool). get_or (w ∷ xs) (if b then 0 else suc (place_of z zs)) d) (is_equal z y s.0) ∙ sym s.1
has_place (y ∷ zs) (w ∷ xs) z x d (inr h) f =
    ap (λ (b : Bool). get_or (w ∷ xs) (if b then 0 else suc (place_of z zs)) d) (other z y (λ e. f.0 (subst (λ t. In t zs) e (member zs xs z x h)))) ∙ has_place zs xs z x d h f.1
  where
    other : (x y : ℕ) → (x ≡ y → ⊥) → nat_eq x y ≡ false
    other x y m = grind (arith, nat_tests, m)

-- ---- a form is a table whose variables rise
holds_of : (vars : ℕ) (rows : List Row) → AreRowsOf vars rows → (basis : List ℕ) (f : Form vars rows basis) → Holds vars rows f.d basis (free_of (vars + length rows) basis) f.lines
holds_of vars rows are basis f = record {
  rows_are = are;
  positive = f.positive;
  many = f.many;
  fresh_basic = climbs_fresh 0 (vars + length rows) basis (from_zero (vars + length rows) basis f.rising);
  fresh_free = climbs_fresh 0 (vars + length rows) (free_of (vars + length rows) basis) (free_climbs (vars + length rows) basis);
  apart = λ y i k. not_basic (vars + length rows) basis y i k;
  small_basic = λ z i. (below 0 (vars + length rows) basis z (from_zero (vars + length rows) basis f.rising) i).1;
  small_free = λ z i. (below 0 (vars + length rows) (free_of (vars + length rows) basis) z (free_climbs (vars + length rows) basis) i).1;
  cover = λ y h. free_or_basic (vars + length rows) basis y h;
  says = f.says;
  reduced = f.reduced;
}

quotient_positive : (D g : ℤ) → pos 0 <ℤ D → pos 0 <ℤ g → D ≡ g *ℤ int_div D g → pos 1 ≤ℤ int_div D g
quotient_positive D g p q e =
    let z : g *ℤ pos 0 ≡ pos 0 = simp expand in
    let h : pos 0 <ℤ int_div D g = cancel_lt g q (omega (arith, ints, p, e, z)) in
    omega (arith, ints, h)

some_content : (n : ℕ) (D : ℤ) → pos 0 <ℤ D → n ∣ unsigned_abs D → 0 < n
some_content zero D p h = absurd (zero_no (unsigned_abs D) (size D p) h)
  where
    size : (D : ℤ) → pos 0 <ℤ D → 0 < unsigned_abs D
    size D p = omega (arith, ints, p)

    zero_no : (n : ℕ) → 0 < n → 0 ∣ n → ⊥
    zero_no n h k = let e : n ≡ 0 = zero-dvd.0 k in absurd (omega (arith, h, e))
some_content (suc n) D p h = omega arith

-- ---- the next table
pub record NextStep (vars : ℕ) (rows : List Row) (basis : List ℕ) (t : Table) : Type 0 where
  pub w : Change
  pub step : Step vars rows basis w t.basis
  pub table : IsTable vars rows t

at_entries : (line : List ℤ) (s : ℕ) → entry_at line (suc s) ≡ get_or (entries line) s (pos 0)
at_entries [] s = refl
at_entries (c ∷ es) s = refl

pub made : (vars : ℕ) (rows : List Row) → AreRowsOf vars rows → (basis : List ℕ) (f : Form vars rows basis) (out : ℕ) (l : Leaves basis f.lines out) (into : ℕ) → Enters (free_of (vars + length rows) basis) (entries l.line) into
    → NextStep vars rows basis (pivoted (vars + length rows) (table_of vars rows basis f) out into)
made vars rows are basis f out l into en = record {
  w = record { enter = into; leave = out };
  step = record { form = f; leaves = l; enters = en; swaps = swaps };
  table = record { form = H.form; d_is = H.d_is; lines_are = H.lines_are };
}
  where
    free : List ℕ
    free = free_of (vars + length rows) basis

    h : Holds vars rows f.d basis (free_of (vars + length rows) basis) f.lines
    h = holds_of vars rows are basis f

    r : ℕ
    r = place_of out basis

    s : ℕ
    s = place_of into (free_of (vars + length rows) basis)

    at_r : (place_of out basis < length basis) × (get_or basis (place_of out basis) 0 ≡ out)
    at_r = place_is out basis (member basis f.lines out l.line l.has)

    at_s : (place_of into (free_of (vars + length rows) basis) < length (free_of (vars + length rows) basis)) × (get_or (free_of (vars + length rows) basis) (place_of into (free_of (vars + length rows) basis)) 0 ≡ into)
    at_s = place_is into (free_of (vars + length rows) basis) (member (free_of (vars + length rows) basis) (entries l.line) into en.entry en.has)

    entry_is : entry_at (line_at f.lines r) (suc s) ≡ en.entry
    entry_is = ap (λ t. entry_at t (suc s)) (has_place basis f.lines out l.line [] l.has h.fresh_basic) ∙ at_entries l.line s ∙ has_place (free_of (vars + length rows) basis) (entries l.line) into en.entry (pos 0) en.has h.fresh_free

    D : ℤ
    D = f.d *ℤ entry_at (line_at f.lines r) (suc s)

    N : List (List ℤ)
    N = turned_lines f.d f.lines r (suc s)

    positive : pos 0 <ℤ (f.d *ℤ entry_at (line_at f.lines r) (suc s))
    positive = mul_positive f.d (entry_at (line_at f.lines r) (suc s)) (let p = f.positive in omega (arith, ints, p)) (subst (λ t. pos 0 <ℤ t) (sym entry_is) en.positive)

    c : ℕ
    c = content_of (unsigned_abs D) N

    content : IsContent (pos (content_of (unsigned_abs D) N)) D N
    content k = content_divides (unsigned_abs D) N k

    self : (n : ℕ) → n ∣ n
    self n = divides_self n

    some : 0 < content_of (unsigned_abs D) N
    some = some_content (content_of (unsigned_abs D) N) D positive ((content (content_of (unsigned_abs D) N)).0 (divides_self (content_of (unsigned_abs D) N))).0

    not_zero : (n : ℕ) → 0 < n → pos n ≡ pos 0 → ⊥
    not_zero n k e = absurd (omega (arith, ints, k, e))

    above : (n : ℕ) → 0 < n → pos 0 <ℤ pos n
    above n k = omega (arith, ints, k)

    sign : pos 1 ≤ℤ int_div D (pos (content_of (unsigned_abs D) N))
    sign = quotient_positive D (pos (content_of (unsigned_abs D) N)) positive (above (content_of (unsigned_abs D) N) some) (exact_quotient D (pos (content_of (unsigned_abs D) N)) ((content (content_of (unsigned_abs D) N)).0 (divides_self (content_of (unsigned_abs D) N))).0)

    H : Held vars rows (int_div D (pos (content_of (unsigned_abs D) N))) (set basis r (get_or (free_of (vars + length rows) basis) s 0)) (set (free_of (vars + length rows) basis) s (get_or basis r 0)) (map (quotients (pos (content_of (unsigned_abs D) N))) N)
    H = table_is_form vars rows (int_div D (pos (content_of (unsigned_abs D) N))) (set basis r (get_or (free_of (vars + length rows) basis) s 0)) (set (free_of (vars + length rows) basis) s (get_or basis r 0)) (map (quotients (pos (content_of (unsigned_abs D) N))) N) T
      where
        T : Holds vars rows (int_div D (pos (content_of (unsigned_abs D) N))) (set basis r (get_or (free_of (vars + length rows) basis) s 0)) (set (free_of (vars + length rows) basis) s (get_or basis r 0)) (map (quotients (pos (content_of (unsigned_abs D) N))) N)
        T = turned vars rows f.d basis (free_of (vars + length rows) basis) f.lines h r s at_r.0 at_s.0 (pos (content_of (unsigned_abs D) N)) (not_zero (content_of (unsigned_abs D) N) some) content sign

    swaps : (z : ℕ) → In z (rising (vars + length rows) (set basis r (get_or (free_of (vars + length rows) basis) s 0))) ↔ ((z ≡ into) ⊎ (In z basis × (z ≢ out)))
    swaps z = (λ i. there (m.0 (k.0 i)), λ j. k.1 (m.1 (back j)))
      where
        y : ℕ
        y = get_or (free_of (vars + length rows) basis) s 0

        small : (x : ℕ) → In x (set basis r (get_or (free_of (vars + length rows) basis) s 0)) → x < vars + length rows
        small x i = by ((set_members basis r (get_or (free_of (vars + length rows) basis) s 0) x at_r.0 h.fresh_basic out_of).0 i)
          where
            by : (x ≡ get_or (free_of (vars + length rows) basis) s 0) ⊎ (In x basis × (x ≢ get_or basis r 0)) → x < vars + length rows
            by (inl e) = subst (λ t. t < vars + length rows) (sym (e ∙ at_s.1)) (h.small_free into (member (free_of (vars + length rows) basis) (entries l.line) into en.entry en.has))
            by (inr j) = h.small_basic x j.0

            out_of : In (get_or (free_of (vars + length rows) basis) s 0) basis → ⊥
            out_of j = h.apart into (member (free_of (vars + length rows) basis) (entries l.line) into en.entry en.has) (subst (λ t. In t basis) at_s.1 j)

        out_of : In (get_or (free_of (vars + length rows) basis) s 0) basis → ⊥
        out_of j = h.apart into (member (free_of (vars + length rows) basis) (entries l.line) into en.entry en.has) (subst (λ t. In t basis) at_s.1 j)

        k : In z (rising (vars + length rows) (set basis r (get_or (free_of (vars + length rows) basis) s 0))) ↔ In z (set basis r (get_or (free_of (vars + length rows) basis) s 0))
        k = rising_members (vars + length rows) (set basis r (get_or (free_of (vars + length rows) basis) s 0)) small z

        m : In z (set basis r (get_or (free_of (vars + length rows) basis) s 0)) ↔ ((z ≡ get_or (free_of (vars + length rows) basis) s 0) ⊎ (In z basis × (z ≢ get_or basis r 0)))
        m = set_members basis r (get_or (free_of (vars + length rows) basis) s 0) z at_r.0 h.fresh_basic out_of

        there : (z ≡ get_or (free_of (vars + length rows) basis) s 0) ⊎ (In z basis × (z ≢ get_or basis r 0)) → (z ≡ into) ⊎ (In z basis × (z ≢ out))
        there (inl e) = inl (e ∙ at_s.1)
        there (inr j) = inr (j.0, λ e. j.1 (e ∙ sym at_r.1))

        back : (z ≡ into) ⊎ (In z basis × (z ≢ out)) → (z ≡ get_or (free_of (vars + length rows) basis) s 0) ⊎ (In z basis × (z ≢ get_or basis r 0))
        back (inl e) = inl (e ∙ sym at_s.1)
        back (inr j) = inr (j.0, λ e. j.1 (e ∙ at_r.1))

pub made_moves : (vars : ℕ) (rows : List Row) (are : AreRowsOf vars rows) (basis : List ℕ) (f : Form vars rows basis) (out : ℕ) (l : Leaves basis f.lines out) (into : ℕ) (en : Enters (free_of (vars + length rows) basis) (entries l.line) into)
    → ((made vars rows are basis f out l into en).w.enter ≡ into) × ((made vars rows are basis f out l into en).w.leave ≡ out)
unfolding made
made_moves vars rows are basis f out l into en = (refl, refl)

next_form : (vars : ℕ) (rows : List Row) → AreRowsOf vars rows → (basis : List ℕ) (f : Form vars rows basis) (t : Table) → next_of (vars + length rows) (table_of vars rows basis f) ≡ Some t → NextStep vars rows basis t
next_form vars rows are basis f t e = by (leaving basis f.lines) (left 0 (vars + length rows) basis f.lines (from_zero (vars + length rows) basis f.rising)) e
  where
    goes : (out : ℕ) (l : Leaves basis f.lines out) (found : Option ℕ) → Entered (free_of (vars + length rows) basis) (entries l.line) found → after_entering (vars + length rows) (table_of vars rows basis f) out found ≡ Some t → NextStep vars rows basis t
    goes out l None n q = absurd (none-some t q)
    goes out l (Some into) en q = subst (NextStep vars rows basis) (same_Some (pivoted (vars + length rows) (table_of vars rows basis f) out into) t q) (made vars rows are basis f out l into en)

    by : (found : Option ℕ) → Left basis f.lines found → after_leaving (vars + length rows) (table_of vars rows basis f) found ≡ Some t → NextStep vars rows basis t
    by None n q = absurd (none-some t q)
    by (Some out) l q =
        let same : entering (free_of (vars + length rows) basis) (line_of out basis f.lines) ≡ first_positive (free_of (vars + length rows) basis) (entries l.line) =
        ap (entering (free_of (vars + length rows) basis)) (line_of_has 0 (vars + length rows) basis f.lines out l.line (from_zero (vars + length rows) basis f.rising) l.has) ∙ entering_is (free_of (vars + length rows) basis) l.line in
        goes out l (first_positive (free_of (vars + length rows) basis) (entries l.line)) (entered 0 (vars + length rows) (free_of (vars + length rows) basis) (entries l.line) (free_climbs (vars + length rows) basis))
        (subst (λ x. after_entering (vars + length rows) (table_of vars rows basis f) out x ≡ Some t) same q)

pub next_table : (vars : ℕ) (rows : List Row) → AreRowsOf vars rows → (t m : Table) → IsTable vars rows t → next_of (vars + length rows) t ≡ Some m → NextStep vars rows t.basis m
next_table vars rows are t m is e = next_form vars rows are t.basis is.form m (subst (λ x. next_of (vars + length rows) x ≡ Some m) (sym same) e)
  where
    same : table_of vars rows t.basis is.form ≡ t
    same = ap₂ (λ d l. record { d = d; basis = t.basis; lines = l }) is.d_is is.lines_are

-- ---- the measure
record Counted (vars : ℕ) (rows : List Row) (t : Table) (n : ℕ) : Type 0 where
  ws : List Change
  last : List ℕ
  run : Run vars rows t.basis ws last
  long : length ws ≡ n

counted : (vars : ℕ) (rows : List Row) → AreRowsOf vars rows → (k : ℕ) (t : Table) → IsTable vars rows t → Counted vars rows t (steps_left (vars + length rows) k t)
unfolding steps_left
counted vars rows are zero t is = record { ws = []; last = t.basis; run = refl; long = refl }
counted vars rows are (suc k) t is = by (next_of (vars + length rows) t) refl (λ m i. counted vars rows are k m i)
  where
    by : (o : Option Table) → next_of (vars + length rows) t ≡ o → ((m : Table) → IsTable vars rows m → Counted vars rows m (steps_left (vars + length rows) k m)) → Counted vars rows t (then_one o (steps_left (vars + length rows) k))
    by None e later = record { ws = []; last = t.basis; run = refl; long = refl }
    by (Some m) e later =
        let n = next_table vars rows are t m is e in
        let c = later m n.table in
        record { ws = n.w ∷ c.ws; last = c.last; run = (m.basis, n.step, c.run); long = ap suc c.long }

pub bounded : (vars : ℕ) (rows : List Row) → AreRowsOf vars rows → (k : ℕ) (t : Table) → IsTable vars rows t → steps_left (vars + length rows) k t < 2 ^ (vars + length rows)
bounded vars rows are k t is =
    let c = counted vars rows are k t is in
    let h = short vars rows t.basis c.ws c.last c.run in
    let l = c.long in
    omega (arith, h, l)

one_more : (count k : ℕ) → ((m : Table) → steps_left count k m < k → steps_left count (suc k) m ≡ steps_left count k m) → (o : Option Table) → then_one o (steps_left count k) < suc k
    → then_one o (steps_left count (suc k)) ≡ then_one o (steps_left count k)
one_more count k ih None h = refl
one_more count k ih (Some m) h = ap suc (ih m (omega (arith, h)))

stable : (count k : ℕ) (t : Table) → steps_left count k t < k → steps_left count (suc k) t ≡ steps_left count k t
unfolding steps_left
stable count zero t h = absurd (omega (arith, h))
stable count (suc k) t h = one_more count k (stable count k) (next_of count t) h

unfolded : (count k : ℕ) (t m : Table) → next_of count t ≡ Some m → steps_left count (suc k) t ≡ suc (steps_left count k m)
unfolding steps_left
unfolded count k t m e = ap (λ o. then_one o (steps_left count k)) e

falls_by : (count k : ℕ) (t m : Table) → next_of count t ≡ Some m → steps_left count k t < k → steps_left count k m < steps_left count k t
falls_by count zero t m e h = absurd (omega (arith, h))
falls_by count (suc k) t m e h =
    let u = unfolded count k t m e in
    let s = stable count k m (omega (arith, u, h)) in
    omega (arith, u, s)

pub falls : (vars : ℕ) (rows : List Row) → AreRowsOf vars rows → (t m : Table) → IsTable vars rows t → next_of (vars + length rows) t ≡ Some m
    → steps_left (vars + length rows) (2 ^ (vars + length rows)) m < steps_left (vars + length rows) (2 ^ (vars + length rows)) t
falls vars rows are t m is e = falls_by (vars + length rows) (2 ^ (vars + length rows)) t m e (bounded vars rows are (2 ^ (vars + length rows)) t is)

-- ---- a basis has one table
abbrev AreNumbers : ℕ → List Row → List ℕ → ℤ → List (List ℤ) → Type 0
AreNumbers vars rows basis d lines = (f : Form vars rows basis) × (f.d ≡ d) × (f.lines ≡ lines)

pub one_table : (vars : ℕ) (rows : List Row) (t m : Table) → t.basis ≡ m.basis → IsTable vars rows t → IsTable vars rows m → t ≡ m
one_table vars rows t m e i j =
    let k : AreNumbers vars rows m.basis t.d t.lines = subst (λ b. AreNumbers vars rows b t.d t.lines) e (i.form, i.d_is, i.lines_are) in
    let s = one_form vars rows m.basis k.0 j.form in
    ap (λ b. record { d = t.d; basis = b; lines = t.lines }) e
    ∙ ap₂ (λ d l. record { d = d; basis = m.basis; lines = l }) (sym k.1 ∙ s.0 ∙ j.d_is) (sym k.2 ∙ s.1 ∙ j.lines_are)
