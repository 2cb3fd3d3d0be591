-- The numbers of a row over the free variables.
use Rattle.std.proofs.Common.{◌≡◌, ℕ, zero, suc, ◌+◌, ◌<◌, ◌≤◌, List, [], ◌∷◌, length, map, get_or, set, take, take_all, refl, ap, ap₂, sym, ◌∙◌, arith, ℤ, pos, ◌+ℤ◌, ◌*ℤ◌, ◌⊎◌, inl, inr, Bool, true, false, Contains, length-set}
use Rattle.std.proofs.lemmas.Bool.Decides.{nat_tests}
use Rattle.std.proofs.lemmas.Int.{ints}
use Rattle.std.proofs.lemmas.List.{length-map, length-replicate, get_or-set_same, get_or-set_other}
use Rattle.std.specs.Prelude.{nat_eq, if◌then◌else◌}
use Rattle.std.proofs.lemmas.List.Elements.{All-get_or}
use Rattle.std.proofs.lemmas.List.FromFn.{length-range_with_len}
use Rattle.std.specs.List.{range_with_len}
use Rattle.integer_laws.specs.Members.{In}
use Rattle.integer_laws.specs.Laws.Members.{In-from_contains, Contains-from_in, In-map_cases}
use Rattle.integer_laws.specs.Vectors.{dot, zeros}
use Rattle.row_laws.specs.Laws.Independence.{true_or_false, in_basis, is_in_member}
use Rattle.row_pivots.specs.Growing.{line_over, row_lines, row_line}
use Rattle.row_pivots.specs.Laws.Pivoting.{column, column_at, get_or-map, long_combination}
use Rattle.row_pivots.specs.Laws.Measure.{place_is}
use Rattle.row_pivots.specs.Tables.{line_or, place_of}
use Rattle.row_pivots.specs.Turns.{unit_line}
use Rattle.row_dictionary.specs.Laws.Placing.{line_placed}
use Rattle.row_dictionary.specs.Scans.{number_at}
use Rattle.row_dictionary.specs.Tables.{IsLine, AreLines}
use Rattle.seq_model.specs.Dictionaries.{is_in}
use Rattle.seq_model.specs.declared.row.Row.{Row}

zero_at : (n k : ℕ) → get_or (zeros n) k (pos 0) ≡ pos 0
zero_at zero k = refl
zero_at (suc n) zero = refl
zero_at (suc n) (suc k) = zero_at n k

pub unit_number : (n k j : ℕ) (d : ℤ) → j < n → get_or (unit_line n k d) j (pos 0) ≡ (if nat_eq j k then d else pos 0)
unit_number n k j d h = by (nat_eq j k) refl
  where
    here : (i k : ℕ) → nat_eq i k ≡ true → i ≡ k
    here i k e = grind (arith, nat_tests)

    elsewhere : (i k : ℕ) → nat_eq i k ≡ false → i ≡ k → ⊥
    elsewhere i k e s = grind (arith, nat_tests)

    by : (b : Bool) → nat_eq j k ≡ b → get_or (unit_line n k d) j (pos 0) ≡ (if b then d else pos 0)
    by true e = ap (λ t. get_or (set (zeros n) t d) j (pos 0)) (sym (here j k e)) ∙ get_or-set_same (zeros n) j d (pos 0) (let l = length-replicate n (pos 0) in omega (arith, h, l))
    by false e = get_or-set_other (zeros n) k j d (pos 0) (elsewhere j k e) ∙ zero_at n j

-- of a variable that is basic, and of another
pub basic_number : (d : ℤ) (basic free : List ℕ) (lines : List (List ℤ)) (z j : ℕ) → length basic ≡ length lines → Contains basic z → number_at lines (place_of z basic) j ≡ get_or (line_over d basic free lines z) j (pos 0)
basic_number d basic free lines z j l c =
    sym (ap (λ (t : List ℤ). get_or t j (pos 0)) (line_placed z basic lines l))
    ∙ ap (λ (b : Bool). get_or (if b then line_or z basic lines else unit_line (suc (length free)) (suc (place_of z free)) d) j (pos 0)) (sym (is_in_member basic z (In-from_contains basic z c)))

pub free_number : (d : ℤ) (basic free : List ℕ) (lines : List (List ℤ)) (z j : ℕ) → (Contains basic z → ⊥) → j < suc (length free) → (if nat_eq j (suc (place_of z free)) then d else pos 0) ≡ get_or (line_over d basic free lines z) j (pos 0)
free_number d basic free lines z j n h =
    sym (unit_number (suc (length free)) (suc (place_of z free)) j d h)
    ∙ ap (λ (b : Bool). get_or (if b then line_or z basic lines else unit_line (suc (length free)) (suc (place_of z free)) d) j (pos 0)) (sym (out (true_or_false (is_in basic z))))
  where
    out : (is_in basic z ≡ true) ⊎ (is_in basic z ≡ false) → is_in basic z ≡ false
    out (inl e) = absurd (n (Contains-from_in basic z (in_basis basic z e)))
    out (inr e) = e

-- ---- sums of products, one by one
dot_more : (k : ℕ) (a b : List ℤ) → k < length a → k < length b → dot (take (k + 1) a) (take (k + 1) b) ≡ dot (take k a) (take k b) +ℤ get_or a k (pos 0) *ℤ get_or b k (pos 0)
dot_more k [] b h m = absurd (omega (arith, h))
dot_more k (x ∷ a) [] h m = absurd (omega (arith, m))
dot_more zero (x ∷ a) (y ∷ b) h m = swap (x *ℤ y)
  where
    swap : (p : ℤ) → p +ℤ pos 0 ≡ pos 0 +ℤ p
    swap p = omega (arith, ints)
dot_more (suc k) (x ∷ a) (y ∷ b) h m = ap (λ n. dot (take n (x ∷ a)) (take n (y ∷ b))) (next k) ∙ settle (x *ℤ y) _ _ _ (dot_more k a b (omega (arith, h)) (omega (arith, m)))
  where
    next : (k : ℕ) → suc k + 1 ≡ suc (k + 1)
    next k = omega arith

    settle : (p s t u : ℤ) → s ≡ t +ℤ u → p +ℤ s ≡ (p +ℤ t) +ℤ u
    settle p s t u e = omega (arith, ints, e)

-- the sum of the constant and of the first k variables
abbrev pub sum_upto : ℕ → ℕ → ℤ → List ℕ → List ℕ → List (List ℤ) → Row → ℕ → ℤ
sum_upto k j d basic free lines row vars = dot (take (k + 1) (row.c ∷ row.a)) (take (k + 1) (column j (row_lines vars d basic free lines)))

long_columns : (vars j : ℕ) (d : ℤ) (basic free : List ℕ) (lines : List (List ℤ)) → length (column j (row_lines vars d basic free lines)) ≡ suc vars
long_columns vars j d basic free lines = ap suc (length-map (map (line_over d basic free lines) (range_with_len 0 vars)) (λ (v : List ℤ). get_or v j (pos 0)) ∙ length-map (range_with_len 0 vars) (line_over d basic free lines) ∙ length-range_with_len 0 vars)

range_at : (low n k : ℕ) → k < n → get_or (range_with_len low n) k 0 ≡ low + k
range_at low zero k h = absurd (omega (arith, h))
range_at low (suc n) zero h = omega arith
range_at low (suc n) (suc k) h = let r = range_at (low + 1) n k (omega (arith, h)) in omega (arith, r)

pub sum_next : (k j : ℕ) (d : ℤ) (basic free : List ℕ) (lines : List (List ℤ)) (row : Row) → k < length row.a
    → sum_upto (k + 1) j d basic free lines row (length row.a) ≡ sum_upto k j d basic free lines row (length row.a) +ℤ get_or row.a k (pos 0) *ℤ get_or (line_over d basic free lines k) j (pos 0)
sum_next k j d basic free lines row h =
    dot_more (k + 1) (row.c ∷ row.a) cs (omega (arith, h)) (let l = long_columns (length row.a) j d basic free lines in omega (arith, h, l))
    ∙ ap₂ (λ x y. dot (take (k + 1) (row.c ∷ row.a)) (take (k + 1) cs) +ℤ x *ℤ y) (after k (row.c) row.a) at
  where
    cs : List ℤ
    cs = column j (row_lines (length row.a) d basic free lines)

    after : (k : ℕ) (c : ℤ) (a : List ℤ) → get_or (c ∷ a) (k + 1) (pos 0) ≡ get_or a k (pos 0)
    after k c a = ap (λ n. get_or (c ∷ a) n (pos 0)) (one_more k)
      where
        one_more : (k : ℕ) → k + 1 ≡ suc k
        one_more k = omega arith

    at : get_or (column j (row_lines (length row.a) d basic free lines)) (k + 1) (pos 0) ≡ get_or (line_over d basic free lines k) j (pos 0)
    at =
        after k (get_or (unit_line (suc (length free)) 0 d) j (pos 0)) (column j (map (line_over d basic free lines) (range_with_len 0 (length row.a))))
        ∙ get_or-map (λ (v : List ℤ). get_or v j (pos 0)) (map (line_over d basic free lines) (range_with_len 0 (length row.a))) k (pos 0) [] (let m = length-map (range_with_len 0 (length row.a)) (line_over d basic free lines) in let n = length-range_with_len 0 (length row.a) in omega (arith, h, m, n))
        ∙ ap (λ (v : List ℤ). get_or v j (pos 0)) (get_or-map (line_over d basic free lines) (range_with_len 0 (length row.a)) k [] 0 (let n = length-range_with_len 0 (length row.a) in omega (arith, h, n)) ∙ ap (line_over d basic free lines) (range_at 0 (length row.a) k h ∙ none k))
      where
        none : (k : ℕ) → 0 + k ≡ k
        none k = omega arith

pub sum_all : (k j : ℕ) (d : ℤ) (basic free : List ℕ) (lines : List (List ℤ)) (row : Row) → length row.a ≤ k → sum_upto k j d basic free lines row (length row.a) ≡ get_or (row_line (length row.a) d basic free lines row) j (pos 0)
sum_all k j d basic free lines row h =
    ap₂ dot (take_all (k + 1) (row.c ∷ row.a) (omega (arith, h))) (take_all (k + 1) (column j (row_lines (length row.a) d basic free lines)) (let l = long_columns (length row.a) j d basic free lines in omega (arith, h, l)))
    ∙ sym (column_at (row.c ∷ row.a) (row_lines (length row.a) d basic free lines) j)

pub row_length : (d : ℤ) (basic free : List ℕ) (lines : List (List ℤ)) (row : Row) → length basic ≡ length lines → AreLines (suc (length free)) lines → length (row_line (length row.a) d basic free lines row) ≡ suc (length free)
row_length d basic free lines row l are = long_combination (suc (length free)) row.c row.a (unit_line (suc (length free)) 0 d) (map (line_over d basic free lines) (range_with_len 0 (length row.a))) each
  where
    over : (z : ℕ) → (is_in basic z ≡ true) ⊎ (is_in basic z ≡ false) → length (line_over d basic free lines z) ≡ suc (length free)
    over z (inl e) =
        ap (λ (b : Bool). length (if b then line_or z basic lines else unit_line (suc (length free)) (suc (place_of z free)) d)) e ∙ ap length (line_placed z basic lines l)
        ∙ (All-get_or (IsLine (suc (length free))) lines (place_of z basic) [] (let k = (place_is z basic (in_basis basic z e)).0 in omega (arith, k, l)) are).0
    over z (inr e) =
        ap (λ (b : Bool). length (if b then line_or z basic lines else unit_line (suc (length free)) (suc (place_of z free)) d)) e ∙ length-set (zeros (suc (length free))) (suc (place_of z free)) d ∙ length-replicate (suc (length free)) (pos 0)

    each : (w : List ℤ) → In w (row_lines (length row.a) d basic free lines) → length w ≡ suc (length free)
    each w (inl e) = ap length e ∙ length-set (zeros (suc (length free))) 0 d ∙ length-replicate (suc (length free)) (pos 0)
    each w (inr i) = let k = In-map_cases (line_over d basic free lines) (range_with_len 0 (length row.a)) w i in ap length k.2 ∙ over k.0 (true_or_false (is_in basic k.0))
