-- What is computed of a basis is the step of the walk.
--
--   Left basis lines z             what is found among the basic variables: Leaves, or NothingLeaves where z is None
--   Entered free numbers z         the same of the free ones: Enters, or NothingEnters
--   Swaps basis out into next      `next` has `into` and, but for `out`, what the basis has
--   Result vars rows basis next    Pivots, or Stops where `next` is None
--   same_result                    a basis has at most one result
--   next_is                        with a form of the basis, what is computed is the result
use Rattle.std.proofs.Common.{◌≡◌, ◌≢◌, ℕ, zero, suc, ◌+◌, ◌<◌, ◌≤◌, List, [], ◌∷◌, length, Contains, refl, ap, sym, subst, ◌∙◌, arith, ℤ, pos, ◌≤ℤ◌, ◌<ℤ◌, ◌⊎◌, inl, inr, Bool, true, false, ◌||◌, ◌&&◌, Option, Some, None, ◌↔◌}
use Rattle.std.proofs.lemmas.Bool.Decides.{nat_tests}
use Rattle.std.proofs.lemmas.Int.{ints}
use Rattle.std.specs.Int.Signed.{lt_z}
use Rattle.std.specs.Prelude.{not, nat_eq, cond, if◌then◌else◌}
use Rattle.std.specs.List.{filter, range_with_len}
use lib.Dec.{T}
use lib.Signed.{lt_z_yes, lt_z_no}
use Rattle.integer_laws.specs.Members.{In}
use Rattle.integer_laws.specs.Laws.Members.{In-from_contains, Contains-from_in}
use Rattle.row_laws.specs.Computed.{has_negative_constant, line_of, leaving, first_positive, entering, swapped, after_entering, after_leaving, next_basis}
use Rattle.row_laws.specs.Laws.Independence.{is_equal, equal_is, in_basis, is_in_member, In-filter, In-range, Climbs, from_zero}
use Rattle.row_laws.specs.Laws.Lines.{at_least, has_same, member, line_of_has}
use Rattle.row_laws.specs.Laws.OneForm.{one_form}
use Rattle.seq_model.specs.Dictionaries.{is_in, free_of, Rises, Form, Has}
use Rattle.seq_model.specs.declared.row.Row.{Row}
use Rattle.seq_model.specs.Walks.{constant, entries, Leaves, Enters, NothingLeaves, NothingEnters, Pivots, Stops}

-- ---- rising variables
lower : (low end : ℕ) (zs : List ℕ) → Climbs (low + 1) end zs → Climbs low end zs
lower low end [] c = tt
lower low end (z ∷ zs) c = (omega (arith, c.0), c.1, c.2)

pub filter_climbs : (p : ℕ → Bool) (low n end : ℕ) → end ≡ low + n → Climbs low end (filter p (range_with_len low n))
filter_climbs p low zero end e = tt
filter_climbs p low (suc n) end e = by (p low) (filter_climbs p (low + 1) n end (omega (arith, e)))
  where
    by : (b : Bool) → Climbs (low + 1) end (filter p (range_with_len (low + 1) n)) → Climbs low end (cond b (low ∷ filter p (range_with_len (low + 1) n)) (filter p (range_with_len (low + 1) n)))
    by true c = (omega arith, omega (arith, e), c)
    by false c = lower low end (filter p (range_with_len (low + 1) n)) c

pub to_rises : (low end : ℕ) (zs : List ℕ) → Climbs low end zs → Rises end zs
to_rises low end [] c = tt
to_rises low end (a ∷ []) c = c.1
to_rises low end (a ∷ b ∷ zs) c = (omega (arith, c.2.0), to_rises (a + 1) end (b ∷ zs) c.2)

-- ---- what leaves
negative_is : (line : List ℤ) → has_negative_constant line ≡ true → constant line <ℤ pos 0
negative_is [] e = absurd (subst T (sym e) tt)
negative_is (c ∷ rest) e = lt_z_yes (subst T (sym e) tt)

not_negative_is : (line : List ℤ) → has_negative_constant line ≡ false → pos 0 ≤ℤ constant line
not_negative_is [] e = omega (arith, ints)
not_negative_is (c ∷ rest) e = lt_z_no (subst (λ b. T (not b)) (sym e) tt)

-- what the search for it finds
abbrev pub Left : List ℕ → List (List ℤ) → Option ℕ → Type 0
Left basis lines None = NothingLeaves basis lines
Left basis lines (Some z) = Leaves basis lines z

pub left : (low end : ℕ) (basis : List ℕ) (lines : List (List ℤ)) → Climbs low end basis → Left basis lines (leaving basis lines)
left low end [] lines c = λ z line h. absurd h
left low end (z ∷ basis) [] c = λ y line h. absurd h
left low end (z ∷ basis) (line ∷ lines) c = by (has_negative_constant line) refl (leaving basis lines) (left (z + 1) end basis lines c.2)
  where
    first : has_negative_constant line ≡ true → Leaves (z ∷ basis) (line ∷ lines) z
    first e = record { line = line; has = inl (refl, refl); negative = negative_is line e; least = λ y other h n. at_least z end (z ∷ basis) (line ∷ lines) y other (omega arith, c.1, c.2) h }

    later : has_negative_constant line ≡ false → (found : Option ℕ) → Left basis lines found → Left (z ∷ basis) (line ∷ lines) found
    later e None nothing = none
      where
        none : NothingLeaves (z ∷ basis) (line ∷ lines)
        none y other (inl s) = subst (λ l. pos 0 ≤ℤ constant l) (sym s.1) (not_negative_is line e)
        none y other (inr h) = nothing y other h
    later e (Some out) l = record { line = l.line; has = inr l.has; negative = l.negative; least = least }
      where
        least : (y : ℕ) (other : List ℤ) → Has (z ∷ basis) (line ∷ lines) y other → constant other <ℤ pos 0 → out ≤ y
        least y other (inl s) n =
            let k : pos 0 ≤ℤ constant other = subst (λ l. pos 0 ≤ℤ constant l) (sym s.1) (not_negative_is line e) in
            absurd (omega (arith, ints, n, k))
        least y other (inr h) n = l.least y other h n

    by : (b : Bool) → has_negative_constant line ≡ b → (found : Option ℕ) → Left basis lines found
        → Left (z ∷ basis) (line ∷ lines) (if b then Some z else found)
    by true e found l = first e
    by false e found l = later e found l

-- ---- what enters
abbrev pub Entered : List ℕ → List ℤ → Option ℕ → Type 0
Entered free numbers None = NothingEnters free numbers
Entered free numbers (Some z) = Enters free numbers z

pub entered : (low end : ℕ) (free : List ℕ) (numbers : List ℤ) → Climbs low end free → Entered free numbers (first_positive free numbers)
entered low end [] numbers c = λ z x h. absurd h
entered low end (z ∷ free) [] c = λ y x h. absurd h
entered low end (z ∷ free) (n ∷ numbers) c = by (lt_z (pos 0) n) refl (first_positive free numbers) (entered (z + 1) end free numbers c.2)
  where
    first : lt_z (pos 0) n ≡ true → Enters (z ∷ free) (n ∷ numbers) z
    first e = record { entry = n; has = inl (refl, refl); positive = lt_z_yes (subst T (sym e) tt); least = λ y other h p. at_least z end (z ∷ free) (n ∷ numbers) y other (omega arith, c.1, c.2) h }

    small : lt_z (pos 0) n ≡ false → n ≤ℤ pos 0
    small e = lt_z_no (subst (λ b. T (not b)) (sym e) tt)

    later : lt_z (pos 0) n ≡ false → (found : Option ℕ) → Entered free numbers found → Entered (z ∷ free) (n ∷ numbers) found
    later e None nothing = none
      where
        none : NothingEnters (z ∷ free) (n ∷ numbers)
        none y x (inl s) = subst (λ l. l ≤ℤ pos 0) (sym s.1) (small e)
        none y x (inr h) = nothing y x h
    later e (Some into) l = record { entry = l.entry; has = inr l.has; positive = l.positive; least = least }
      where
        least : (y : ℕ) (other : ℤ) → Has (z ∷ free) (n ∷ numbers) y other → pos 0 <ℤ other → into ≤ y
        least y other (inl s) p =
            let k : other ≤ℤ pos 0 = subst (λ l. l ≤ℤ pos 0) (sym s.1) (small e) in
            absurd (omega (arith, ints, p, k))
        least y other (inr h) p = l.least y other h p

    by : (b : Bool) → lt_z (pos 0) n ≡ b → (found : Option ℕ) → Entered free numbers found → Entered (z ∷ free) (n ∷ numbers) (if b then Some z else found)
    by true e found l = first e
    by false e found l = later e found l

-- ---- the line of what leaves, and the next basis
pub entering_is : (free : List ℕ) (line : List ℤ) → entering free (Some line) ≡ first_positive free (entries line)
entering_is [] [] = refl
entering_is (z ∷ free) [] = refl
entering_is free (c ∷ rest) = refl

pub below : (low end : ℕ) (zs : List ℕ) (z : ℕ) → Climbs low end zs → In z zs → (low ≤ z) × (z < end)
below low end [] z c i = absurd i
below low end (y ∷ zs) z c (inl s) = (omega (arith, s, c.0), omega (arith, s, c.1))
below low end (y ∷ zs) z c (inr i) = let r = below (y + 1) end zs z c.2 i in (omega (arith, r.0, c.0), r.1)

pub of_filter : (p : ℕ → Bool) (xs : List ℕ) (z : ℕ) → In z (filter p xs) → p z ≡ true
of_filter p [] z i = absurd i
of_filter p (x ∷ xs) z i = by (p x) refl i (of_filter p xs z)
  where
    by : (b : Bool) → p x ≡ b → In z (cond b (x ∷ filter p xs) (filter p xs)) → (In z (filter p xs) → p z ≡ true) → p z ≡ true
    by true e (inl s) later = ap p s ∙ e
    by true e (inr j) later = later j
    by false e j later = later j

swapped_members : (count : ℕ) (basis : List ℕ) (out into : ℕ) → Climbs 0 count basis → into < count → (z : ℕ) → In z (swapped count basis out into) ↔ ((z ≡ into) ⊎ (In z basis × (z ≢ out)))
swapped_members count basis out into c small z = (there, back)
  where
    read : (a b d : Bool) → (a || (b && not d)) ≡ true → (a ≡ true) ⊎ ((b ≡ true) × (d ≡ false))
    read true b d e = inl refl
    read false true true e = absurd (subst T (sym e) tt)
    read false true false e = inr (refl, refl)
    read false false d e = absurd (subst T (sym e) tt)

    differs : nat_eq z out ≡ false → z ≢ out
    differs e s = absurd (subst T (sym (is_equal z out s) ∙ e) tt)

    there : In z (swapped count basis out into) → (z ≡ into) ⊎ (In z basis × (z ≢ out))
    there i = by (read (nat_eq z into) (is_in basis z) (nat_eq z out) (of_filter (λ y. nat_eq y into || (is_in basis y && not (nat_eq y out))) (range_with_len 0 count) z i))
      where
        by : ((nat_eq z into ≡ true) ⊎ ((is_in basis z ≡ true) × (nat_eq z out ≡ false))) → (z ≡ into) ⊎ (In z basis × (z ≢ out))
        by (inl e) = inl (equal_is z into e)
        by (inr e) = inr (in_basis basis z e.0, differs e.1)

    taken : (z < count) → (nat_eq z into || (is_in basis z && not (nat_eq z out))) ≡ true → In z (swapped count basis out into)
    taken h e = In-filter (λ y. nat_eq y into || (is_in basis y && not (nat_eq y out))) (range_with_len 0 count) z e (In-range 0 count z (omega arith) (omega (arith, h)))

    back : ((z ≡ into) ⊎ (In z basis × (z ≢ out))) → In z (swapped count basis out into)
    back (inl s) = taken (omega (arith, s, small)) (ap (λ b. b || (is_in basis z && not (nat_eq z out))) (is_equal z into s))
    back (inr k) = taken (below 0 count basis z c k.0).1 (last (nat_eq z into) (is_in basis z) (nat_eq z out) (is_in_member basis z k.0) (other z out k.1))
      where
        last : (a b d : Bool) → b ≡ true → d ≡ false → (a || (b && not d)) ≡ true
        last true b d e f = refl
        last false b d e f = rw (e, f) refl

        other : (z y : ℕ) → z ≢ y → nat_eq z y ≡ false
        other z y n = grind (arith, nat_tests, n)

abbrev pub Swaps : List ℕ → ℕ → ℕ → List ℕ → Type 0
Swaps basis out into next = (z : ℕ) → Contains next z ↔ ((z ≡ into) ⊎ (Contains basis z × (z ≢ out)))

swapped_is : (count : ℕ) (basis : List ℕ) (out into : ℕ) → Climbs 0 count basis → into < count → Swaps basis out into (swapped count basis out into)
swapped_is count basis out into c small z = (λ k. there (m.0 (In-from_contains next z k)), λ k. Contains-from_in next z (m.1 (back k)))
  where
    next : List ℕ
    next = swapped count basis out into

    m : In z next ↔ ((z ≡ into) ⊎ (In z basis × (z ≢ out)))
    m = swapped_members count basis out into c small z

    there : ((z ≡ into) ⊎ (In z basis × (z ≢ out))) → (z ≡ into) ⊎ (Contains basis z × (z ≢ out))
    there (inl e) = inl e
    there (inr k) = inr (Contains-from_in basis z k.0, k.1)

    back : ((z ≡ into) ⊎ (Contains basis z × (z ≢ out))) → (z ≡ into) ⊎ (In z basis × (z ≢ out))
    back (inl e) = inl e
    back (inr k) = inr (In-from_contains basis z k.0, k.1)

-- ---- what is computed is one or the other
abbrev pub Result : ℕ → List Row → List ℕ → Option (List ℕ) → Type 0
Result vars rows basis None = Stops vars rows basis
Result vars rows basis (Some next) = Pivots vars rows basis next

pub free_climbs : (count : ℕ) (basis : List ℕ) → Climbs 0 count (free_of count basis)
free_climbs count basis = filter_climbs (λ z. not (is_in basis z)) 0 count count (omega arith)

result : (vars : ℕ) (rows : List Row) (basis : List ℕ) (f : Form vars rows basis) → Result vars rows basis (next_basis (vars + length rows) basis f.lines)
result vars rows basis f = by (leaving basis f.lines) (left 0 (vars + length rows) basis f.lines climbs)
  where
    climbs : Climbs 0 (vars + length rows) basis
    climbs = from_zero (vars + length rows) basis f.rising

    goes_in : (out : ℕ) (l : Leaves basis f.lines out) (into : Option ℕ) → Entered (free_of (vars + length rows) basis) (entries l.line) into → Result vars rows basis (after_entering (vars + length rows) basis out into)
    goes_in out l None nothing = record { form = f; stops = inr (out, l, nothing) }
    goes_in out l (Some into) e = record {
      form = f;
      out = out;
      into = into;
      leaves = l;
      enters = e;
      rises = to_rises 0 (vars + length rows) (swapped (vars + length rows) basis out into) (filter_climbs (λ z. nat_eq z into || (is_in basis z && not (nat_eq z out))) 0 (vars + length rows) (vars + length rows) (omega arith));
      swaps = swapped_is (vars + length rows) basis out into (from_zero (vars + length rows) basis f.rising)
          (below 0 (vars + length rows) (free_of (vars + length rows) basis) into (free_climbs (vars + length rows) basis) (member (free_of (vars + length rows) basis) (entries l.line) into e.entry e.has)).1;
    }

    by : (found : Option ℕ) → Left basis f.lines found → Result vars rows basis (after_leaving (vars + length rows) basis f.lines found)
    by None nothing = record { form = f; stops = inl nothing }
    by (Some out) l =
        let free = free_of (vars + length rows) basis in
        let same : entering free (line_of out basis f.lines) ≡ first_positive free (entries l.line) =
        ap (entering free) (line_of_has 0 (vars + length rows) basis f.lines out l.line (from_zero (vars + length rows) basis f.rising) l.has) ∙ entering_is free l.line in
        subst (λ t. Result vars rows basis (after_entering (vars + length rows) basis out t)) (sym same)
        (goes_in out l (first_positive free (entries l.line)) (entered 0 (vars + length rows) free (entries l.line) (free_climbs (vars + length rows) basis)))

-- ---- and it is one alone
pub rising_same : (low end : ℕ) (a b : List ℕ) → Climbs low end a → Climbs low end b → ((z : ℕ) → In z a → In z b) → ((z : ℕ) → In z b → In z a) → a ≡ b
rising_same low end [] [] c d f g = refl
rising_same low end [] (y ∷ b) c d f g = absurd (g y (inl refl))
rising_same low end (x ∷ a) [] c d f g = absurd (f x (inl refl))
rising_same low end (x ∷ a) (y ∷ b) c d f g =
    ap (λ t. t ∷ a) same ∙ ap (λ t. y ∷ t) (rising_same (y + 1) end a b (subst (λ t. Climbs (t + 1) end a) same c.2) d.2 (λ z i. inner z (below (x + 1) end a z c.2 i).0 (f z (inr i))) (λ z i. outer z (below (y + 1) end b z d.2 i).0 (g z (inr i))))
  where
    low_end : (z w : ℕ) (zs : List ℕ) → Climbs (w + 1) end zs → (z ≡ w) ⊎ In z zs → w ≤ z
    low_end z w zs k (inl s) = omega (arith, s)
    low_end z w zs k (inr i) = let r = below (w + 1) end zs z k i in omega (arith, r.0)

    same : x ≡ y
    same = (let p = low_end x y b d.2 (f x (inl refl)) in let q = low_end y x a c.2 (g y (inl refl)) in omega (arith, p, q))

    inner : (z : ℕ) → x + 1 ≤ z → (z ≡ y) ⊎ In z b → In z b
    inner z h (inl s) = absurd (omega (arith, h, s, same))
    inner z h (inr i) = i

    outer : (z : ℕ) → y + 1 ≤ z → (z ≡ x) ⊎ In z a → In z a
    outer z h (inl s) = absurd (omega (arith, h, s, same))
    outer z h (inr i) = i

same_swap : (end : ℕ) (basis : List ℕ) (out into : ℕ) (a b : List ℕ) → Rises end a → Rises end b → Swaps basis out into a → Swaps basis out into b → a ≡ b
same_swap end basis out into a b r t f g = rising_same 0 end a b (from_zero end a r) (from_zero end b t) (λ z. one_way a b z (f z).0 (g z).1) (λ z. one_way b a z (g z).0 (f z).1)
  where
    one_way : (c d : List ℕ) (z : ℕ) → (Contains c z → (z ≡ into) ⊎ (Contains basis z × (z ≢ out))) → ((z ≡ into) ⊎ (Contains basis z × (z ≢ out)) → Contains d z) → In z c → In z d
    one_way c d z there back i = In-from_contains d z (back (there (Contains-from_in c z i)))

-- what leaves and enters, in one form's lines
abbrev Moves : List ℕ → List ℕ → List (List ℤ) → ℕ → ℕ → Type 0
Moves basis free lines out into = (l : Leaves basis lines out) × Enters free (entries l.line) into

abbrev Halts : List ℕ → List ℕ → List (List ℤ) → Type 0
Halts basis free lines = NothingLeaves basis lines ⊎ ((out : ℕ) × (l : Leaves basis lines out) × NothingEnters free (entries l.line))

pub same_line : (end : ℕ) (basis : List ℕ) (lines : List (List ℤ)) (a b : ℕ) → Climbs 0 end basis → (l : Leaves basis lines a) (m : Leaves basis lines b) → (a ≡ b) × (l.line ≡ m.line)
same_line end basis lines a b c l m =
    let p = l.least b m.line m.has m.negative in
    let q = m.least a l.line l.has l.negative in
    let s : a ≡ b = omega (arith, p, q) in
    (s, has_same 0 end basis lines b l.line m.line c (subst (λ z. Has basis lines z l.line) s l.has) m.has)

same_moves : (end : ℕ) (basis free : List ℕ) (lines : List (List ℤ)) (a b i j : ℕ) → Climbs 0 end basis → Moves basis free lines a i → Moves basis free lines b j → (a ≡ b) × (i ≡ j)
same_moves end basis free lines a b i j c m n =
    let s = same_line end basis lines a b c m.0 n.0 in
    let e : Enters free (entries n.0.line) i = subst (λ t. Enters free (entries t) i) s.1 m.1 in
    let p = e.least j n.1.entry n.1.has n.1.positive in
    let q = n.1.least i e.entry e.has e.positive in
    (s.0, omega (arith, p, q))

no_halt : (end : ℕ) (basis free : List ℕ) (lines : List (List ℤ)) (a i : ℕ) → Climbs 0 end basis → Moves basis free lines a i → Halts basis free lines → ⊥
no_halt end basis free lines a i c m (inl nothing) = (let h = nothing a m.0.line m.0.has in let n = m.0.negative in absurd (omega (arith, ints, h, n)))
no_halt end basis free lines a i c m (inr k) =
    let s = same_line end basis lines a k.0 c m.0 k.1 in
    let e : Enters free (entries k.1.line) i = subst (λ t. Enters free (entries t) i) s.1 m.1 in
    let h = k.2 i e.entry e.has in
    let p = e.positive in
    absurd (omega (arith, ints, h, p))

pub same_result : (vars : ℕ) (rows : List Row) (basis : List ℕ) (m n : Option (List ℕ)) → Result vars rows basis m → Result vars rows basis n → m ≡ n
same_result vars rows basis None None p q = refl
same_result vars rows basis None (Some next) p q =
    let free = free_of (vars + length rows) basis in
    absurd (no_halt (vars + length rows) basis free q.form.lines q.out q.into (from_zero (vars + length rows) basis q.form.rising) (q.leaves, q.enters) (subst (Halts basis free) (one_form vars rows basis p.form q.form).1 p.stops))
same_result vars rows basis (Some next) None p q =
    let free = free_of (vars + length rows) basis in
    absurd (no_halt (vars + length rows) basis free p.form.lines p.out p.into (from_zero (vars + length rows) basis p.form.rising) (p.leaves, p.enters) (subst (Halts basis free) (one_form vars rows basis q.form p.form).1 q.stops))
same_result vars rows basis (Some a) (Some b) p q =
    let free = free_of (vars + length rows) basis in
    let moved = subst (λ t. Moves basis free t p.out p.into) (one_form vars rows basis p.form q.form).1 (p.leaves, p.enters) in
    let s = same_moves (vars + length rows) basis free q.form.lines p.out q.out p.into q.into (from_zero (vars + length rows) basis q.form.rising) moved (q.leaves, q.enters) in
    let swaps = subst (λ o. Swaps basis o q.into a) s.0 (subst (λ i. Swaps basis p.out i a) s.1 p.swaps) in
    ap Some (same_swap (vars + length rows) basis q.out q.into a b p.rises q.rises swaps q.swaps)

pub next_is : (vars : ℕ) (rows : List Row) (basis : List ℕ) (f : Form vars rows basis) (m : Option (List ℕ)) → (next_basis (vars + length rows) basis f.lines ≡ m) ↔ Result vars rows basis m
next_is vars rows basis f m =
    let computed = result vars rows basis f in
    (λ e. subst (Result vars rows basis) e computed, λ r. same_result vars rows basis (next_basis (vars + length rows) basis f.lines) m computed r)
