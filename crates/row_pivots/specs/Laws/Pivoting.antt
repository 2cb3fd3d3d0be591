-- What a pivot makes of the lines of a basis, in place: the variables and the free ones may stand in any order.
--
--   AreRowsOf vars rows            each row has `vars` coefficients
--   pivoted_line d ys k zs         the line zs of a variable that stays, where ys is the line of what leaves and k the place of what
--                                  enters, over d times the entry of ys there
--   says_divided                   lines that say it still do where all numbers are divided by a common divisor, of either sign
use Rattle.std.proofs.Common.{◌≡◌, ℕ, zero, suc, ◌+◌, ◌-◌, ◌<◌, ◌≤◌, max, List, [], ◌∷◌, length, map, get_or, set, refl, ap, ap₂, sym, ◌∙◌, arith, ℤ, pos, neg_ℤ, ◌+ℤ◌, ◌-ℤ◌, ◌*ℤ◌, ◌⊎◌, inl, inr, Bool, true, false, length-set}
use Rattle.std.proofs.lemmas.Bool.Decides.{nat_tests}
use Rattle.std.proofs.lemmas.Int.{ints}
use Rattle.std.proofs.lemmas.List.{length-map, length-replicate}
use Rattle.std.specs.Prelude.{nat_lt, slice_set, replicate, if◌then◌else◌}
use Rattle.integer_laws.specs.Members.{In}
use Rattle.integer_laws.specs.Laws.Members.{In-map_cases}
use Rattle.integer_laws.specs.Laws.Order.{add_same, mul_same, same_from}
use Rattle.integer_laws.specs.Laws.Ring.{expand}
use Rattle.integer_laws.specs.Vectors.{dot, scale, combined}
use Rattle.integer_laws.specs.Laws.Vectors.{dot-scale, dot-combined, dot-set, get_or-plus, get_or-scale, get_or-combined, length-scale, length-plus, length-combined}
use Rattle.row_laws.specs.Laws.Kernel.{cancel_factor}
use Rattle.row_laws.specs.Laws.OneForm.{list_same}
use Rattle.seq_model.specs.Dictionaries.{meaning, one, combination, Says}
use Rattle.seq_model.specs.Systems.{row_at, no_row}
use Rattle.seq_model.specs.declared.row.Row.{Row}
use Rattle.row_pivots.specs.Tables.{AreRowsOf, InRange}
use Rattle.row_pivots.specs.Turns.{entry_at, line_at, pivoted_line}

-- ---- one coefficient of all vectors
abbrev pub column : ℕ → List (List ℤ) → List ℤ
column j vs = map (λ v. get_or v j (pos 0)) vs

pub column_at : (es : List ℤ) (vs : List (List ℤ)) (j : ℕ) → get_or (combination es vs) j (pos 0) ≡ dot es (column j vs)
column_at [] vs j = refl
column_at (e ∷ es) [] j = refl
column_at (e ∷ es) (v ∷ vs) j = get_or-plus (scale e v) (combination es vs) j ∙ ap₂ ◌+ℤ◌ (get_or-scale e v j) (column_at es vs j)

pub map-set : {A B : Type 0} (f : A → B) (xs : List A) (k : ℕ) (x : A) → map f (set xs k x) ≡ set (map f xs) k (f x)
map-set f [] k x = refl
map-set f (y ∷ xs) zero x = refl
map-set f (y ∷ xs) (suc k) x = ap (λ t. f y ∷ t) (map-set f xs k x)

pub get_or-map : {A B : Type 0} (f : A → B) (xs : List A) (k : ℕ) (d : B) (e : A) → k < length xs → get_or (map f xs) k d ≡ f (get_or xs k e)
get_or-map f [] k d e h = absurd (omega (arith, h))
get_or-map f (y ∷ xs) zero d e h = refl
get_or-map f (y ∷ xs) (suc k) d e h = get_or-map f xs k d e (omega (arith, h))

pub get_or-In : {A : Type 0} (xs : List A) (k : ℕ) (d : A) → k < length xs → In (get_or xs k d) xs
get_or-In [] k d h = absurd (omega (arith, h))
get_or-In (x ∷ xs) zero d h = inl refl
get_or-In (x ∷ xs) (suc k) d h = inr (get_or-In xs k d (omega (arith, h)))

-- ---- lengths
pub long_meaning : (vars : ℕ) (rows : List Row) → AreRowsOf vars rows → (z : ℕ) → z < vars + length rows → length (meaning vars rows z) ≡ suc vars
long_meaning vars rows are z h = by (nat_lt z vars) refl
  where
    past : nat_lt z vars ≡ false → (z - vars) < length rows
    past e = grind (arith, nat_tests, h)

    by : (b : Bool) → nat_lt z vars ≡ b → length (if b then pos 0 ∷ slice_set (replicate vars (pos 0)) z (pos 1) else (row_at rows (z - vars)).c ∷ (row_at rows (z - vars)).a) ≡ suc vars
    by true e = ap suc (length-set (replicate vars (pos 0)) z (pos 1) ∙ length-replicate vars (pos 0))
    by false e = ap suc (are (z - vars) no_row (past e))

pub long_one : (vars : ℕ) → length (one vars) ≡ suc vars
long_one vars = ap suc (length-replicate vars (pos 0))

pub long_combination : (n : ℕ) (e : ℤ) (es : List ℤ) (v : List ℤ) (vs : List (List ℤ)) → ((w : List ℤ) → In w (v ∷ vs) → length w ≡ n) → length (combination (e ∷ es) (v ∷ vs)) ≡ n
long_combination n e es v vs h = long n (length (scale e v)) (length (combination es vs)) (length-scale e v ∙ h v (inl refl)) (rest es vs (λ w i. h w (inr i))) (length-plus (scale e v) (combination es vs))
  where
    rest : (es : List ℤ) (vs : List (List ℤ)) → ((w : List ℤ) → In w vs → length w ≡ n) → length (combination es vs) ≤ n
    rest [] vs h = omega arith
    rest (e ∷ es) [] h = omega arith
    rest (e ∷ es) (v ∷ vs) h =
        let a = length-scale e v ∙ h v (inl refl) in
        let b = rest es vs (λ w i. h w (inr i)) in
        let c = length-plus (scale e v) (combination es vs) in
        omega (arith, a, b, c)

    long : (n a b : ℕ) {m : ℕ} → a ≡ n → b ≤ n → m ≡ max a b → m ≡ n
    long n a b e h k = omega (arith, e, h, k)

-- ---- numbers
cancels : (p q : ℤ) → p *ℤ q -ℤ q *ℤ p ≡ pos 0
cancels p q = simp expand (omega (arith, ints))

stays_sum : (d p q y z ys zs g : ℤ) → d *ℤ y ≡ ys → d *ℤ z ≡ zs → g ≡ (p *ℤ zs -ℤ q *ℤ ys) +ℤ (d *ℤ q) *ℤ y → (d *ℤ p) *ℤ z ≡ g
stays_sum d p q y z ys zs g leaves stays sum = same_from (add_same (mul_same (neg_ℤ q) leaves) (add_same (mul_same p stays) (sym sum))) (simp expand (omega (arith, ints)))

settle : (g a b c m x : ℤ) → g +ℤ a *ℤ x ≡ b +ℤ c → a ≡ pos 0 → b ≡ m → g ≡ m +ℤ c
settle g a b c m x e f h = let product = ap (λ t. t *ℤ x) f in omega (arith, ints)

pub stays_number : (d y z : ℤ) (ys zs cs : List ℤ) (k : ℕ) → k < length ys → k < length zs → k < length cs → d *ℤ y ≡ dot ys cs → d *ℤ z ≡ dot zs cs
    → (d *ℤ entry_at ys k) *ℤ z ≡ dot (pivoted_line d ys k zs) (set cs k y)
stays_number d y z ys zs cs k in_y in_z in_c leaves stays =
    let p = entry_at ys k in
    let q = entry_at zs k in
    let long = length-combined p q zs ys in
    let changed = dot-set k (combined p q zs ys) cs (d *ℤ q) y (pos 0) (pos 0) (omega (arith, long, in_y, in_z)) in_c in
    let none : get_or (combined p q zs ys) k (pos 0) ≡ pos 0 = get_or-combined p q zs ys k ∙ cancels p q in
    stays_sum d p q y z (dot ys cs) (dot zs cs) _ leaves stays (settle _ _ _ _ _ (get_or cs k (pos 0)) changed none (dot-combined p q zs ys cs))

-- ---- lines
abbrev pub Line : ℕ → List Row → ℤ → List ℕ → ℕ → List ℤ → Type 0
Line vars rows d free z line = (length line ≡ suc (length free)) × (scale d (meaning vars rows z) ≡ combination line (one vars ∷ map (meaning vars rows) free))

vectors_long : (vars : ℕ) (rows : List Row) → AreRowsOf vars rows → (free : List ℕ) → InRange (vars + length rows) free → (v : List ℤ) → In v (one vars ∷ map (meaning vars rows) free) → length v ≡ suc vars
vectors_long vars rows are free small v (inl e) = ap length e ∙ long_one vars
vectors_long vars rows are free small v (inr i) = let k = In-map_cases (meaning vars rows) free v i in ap length k.2 ∙ long_meaning vars rows are k.0 (small k.0 k.1)

-- a line from its coefficients, and back
pub line_from : (vars : ℕ) (rows : List Row) → AreRowsOf vars rows → (d : ℤ) (free : List ℕ) → InRange (vars + length rows) free → (z : ℕ) → z < vars + length rows → (line : List ℤ) → length line ≡ suc (length free)
    → ((j : ℕ) → d *ℤ get_or (meaning vars rows z) j (pos 0) ≡ dot line (column j (one vars ∷ map (meaning vars rows) free))) → Line vars rows d free z line
line_from vars rows are d free small z h [] long each = absurd (omega (arith, long))
line_from vars rows are d free small z h (e ∷ es) long each = (
  long,
  list_same (scale d (meaning vars rows z)) (combination (e ∷ es) (one vars ∷ map (meaning vars rows) free))
      (length-scale d (meaning vars rows z) ∙ long_meaning vars rows are z h ∙ sym (long_combination (suc vars) e es (one vars) (map (meaning vars rows) free) (vectors_long vars rows are free small)))
      (λ j. get_or-scale d (meaning vars rows z) j ∙ each j ∙ sym (column_at (e ∷ es) (one vars ∷ map (meaning vars rows) free) j)),
)

pub line_each : (vars : ℕ) (rows : List Row) (d : ℤ) (free : List ℕ) (z : ℕ) (line : List ℤ) → Line vars rows d free z line
    → (j : ℕ) → d *ℤ get_or (meaning vars rows z) j (pos 0) ≡ dot line (column j (one vars ∷ map (meaning vars rows) free))
line_each vars rows d free z line l j = sym (get_or-scale d (meaning vars rows z) j) ∙ ap (λ v. get_or v j (pos 0)) l.1 ∙ column_at line (one vars ∷ map (meaning vars rows) free) j

columns_set : (vars : ℕ) (rows : List Row) (free : List ℕ) (s out j : ℕ)
    → column j (one vars ∷ map (meaning vars rows) (set free s out)) ≡ set (column j (one vars ∷ map (meaning vars rows) free)) (suc s) (get_or (meaning vars rows out) j (pos 0))
columns_set vars rows free s out j =
    ap (λ t. get_or (one vars) j (pos 0) ∷ t) (ap (column j) (map-set (meaning vars rows) free s out) ∙ map-set (λ v. get_or v j (pos 0)) (map (meaning vars rows) free) s (meaning vars rows out))

pub long_columns : (vars : ℕ) (rows : List Row) (free : List ℕ) (j : ℕ) → length (column j (one vars ∷ map (meaning vars rows) free)) ≡ suc (length free)
long_columns vars rows free j = ap suc (length-map (map (meaning vars rows) free) (λ v. get_or v j (pos 0)) ∙ length-map free (meaning vars rows))

pub In-set : (xs : List ℕ) (k y z : ℕ) → In z (set xs k y) → (z ≡ y) ⊎ In z xs
In-set [] k y z i = absurd i
In-set (x ∷ xs) zero y z (inl e) = inl e
In-set (x ∷ xs) zero y z (inr i) = inr (inr i)
In-set (x ∷ xs) (suc k) y z (inl e) = inr (inl e)
In-set (x ∷ xs) (suc k) y z (inr i) = by (In-set xs k y z i)
  where
    by : (z ≡ y) ⊎ In z xs → (z ≡ y) ⊎ In z (x ∷ xs)
    by (inl e) = inl e
    by (inr j) = inr (inr j)

pub range_set : (count : ℕ) (xs : List ℕ) (k y : ℕ) → InRange count xs → y < count → InRange count (set xs k y)
range_set count xs k y r h z i = by (In-set xs k y z i)
  where
    by : (z ≡ y) ⊎ In z xs → z < count
    by (inl e) = omega (arith, e, h)
    by (inr j) = r z j

pub stays_line : (vars : ℕ) (rows : List Row) → AreRowsOf vars rows → (d : ℤ) (free : List ℕ) → InRange (vars + length rows) free → (s out : ℕ) → s < length free → out < vars + length rows
    → (ys : List ℤ) → Line vars rows d free out ys → (z : ℕ) → z < vars + length rows → (zs : List ℤ) → Line vars rows d free z zs
    → Line vars rows (d *ℤ entry_at ys (suc s)) (set free s out) z (pivoted_line d ys (suc s) zs)
stays_line vars rows are d free small s out in_s in_out ys leaves z in_z zs stays =
    line_from vars rows are (d *ℤ entry_at ys (suc s)) (set free s out) (range_set (vars + length rows) free s out small in_out) z in_z (pivoted_line d ys (suc s) zs) long each
  where
    long : length (pivoted_line d ys (suc s) zs) ≡ suc (length (set free s out))
    long =
        length-set (combined (entry_at ys (suc s)) (entry_at zs (suc s)) zs ys) (suc s) (d *ℤ entry_at zs (suc s))
        ∙ equal (length-combined (entry_at ys (suc s)) (entry_at zs (suc s)) zs ys) leaves.0 stays.0 (length-set free s out)
      where
        equal : {a b c f g : ℕ} → a ≡ max b c → c ≡ suc f → b ≡ suc f → g ≡ f → a ≡ suc g
        equal e h k l = omega (arith, e, h, k, l)

    each : (j : ℕ) → (d *ℤ entry_at ys (suc s)) *ℤ get_or (meaning vars rows z) j (pos 0) ≡ dot (pivoted_line d ys (suc s) zs) (column j (one vars ∷ map (meaning vars rows) (set free s out)))
    each j =
        let cs = column j (one vars ∷ map (meaning vars rows) free) in
        let lc = long_columns vars rows free j in
        stays_number d (get_or (meaning vars rows out) j (pos 0)) (get_or (meaning vars rows z) j (pos 0)) ys zs cs (suc s) (omega (arith, leaves.0, in_s)) (omega (arith, stays.0, in_s)) (omega (arith, lc, in_s))
        (line_each vars rows d free out ys leaves j) (line_each vars rows d free z zs stays j)
        ∙ ap (dot (pivoted_line d ys (suc s) zs)) (sym (columns_set vars rows free s out j))

-- ---- all lines
pub all_stay : (vars : ℕ) (rows : List Row) → AreRowsOf vars rows → (d : ℤ) (free : List ℕ) → InRange (vars + length rows) free → (s out : ℕ) → s < length free → out < vars + length rows
    → (ys : List ℤ) → Line vars rows d free out ys → (basic : List ℕ) (lines : List (List ℤ)) → InRange (vars + length rows) basic → Says vars rows d free basic lines
    → Says vars rows (d *ℤ entry_at ys (suc s)) (set free s out) basic (map (pivoted_line d ys (suc s)) lines)
all_stay vars rows are d free small s out in_s in_out ys leaves [] [] r says = says
all_stay vars rows are d free small s out in_s in_out ys leaves [] (l ∷ lines) r says = absurd says
all_stay vars rows are d free small s out in_s in_out ys leaves (z ∷ basic) [] r says = absurd says
all_stay vars rows are d free small s out in_s in_out ys leaves (z ∷ basic) (l ∷ lines) r says =
    (stays_line vars rows are d free small s out in_s in_out ys leaves z (r z (inl refl)) l says.0, all_stay vars rows are d free small s out in_s in_out ys leaves basic lines (λ y i. r y (inr i)) says.1)

pub says_set : (vars : ℕ) (rows : List Row) (d : ℤ) (free basic : List ℕ) (lines : List (List ℤ)) (r z : ℕ) (line : List ℤ) → Says vars rows d free basic lines → Line vars rows d free z line
    → Says vars rows d free (set basic r z) (set lines r line)
says_set vars rows d free [] [] r z line says l = says
says_set vars rows d free [] (k ∷ lines) r z line says l = absurd says
says_set vars rows d free (y ∷ basic) [] r z line says l = absurd says
says_set vars rows d free (y ∷ basic) (k ∷ lines) zero z line says l = (l, says.1)
says_set vars rows d free (y ∷ basic) (k ∷ lines) (suc r) z line says l = (says.0, says_set vars rows d free basic lines r z line says.1 l)

pub says_at : (vars : ℕ) (rows : List Row) (d : ℤ) (free basic : List ℕ) (lines : List (List ℤ)) (r : ℕ) → r < length basic → Says vars rows d free basic lines → Line vars rows d free (get_or basic r 0) (line_at lines r)
says_at vars rows d free [] lines r h says = absurd (omega (arith, h))
says_at vars rows d free (y ∷ basic) [] r h says = absurd says
says_at vars rows d free (y ∷ basic) (k ∷ lines) zero h says = says.0
says_at vars rows d free (y ∷ basic) (k ∷ lines) (suc r) h says = says_at vars rows d free basic lines r (omega (arith, h)) says.1

-- ---- division

scaled_number : (g d m x : ℤ) → (g ≡ pos 0 → ⊥) → (g *ℤ d) *ℤ m ≡ g *ℤ x → d *ℤ m ≡ x
scaled_number g d m x n e = differ (cancel_factor g (d *ℤ m -ℤ x) n (spread g d m x e))
  where
    spread : (g d m x : ℤ) → (g *ℤ d) *ℤ m ≡ g *ℤ x → g *ℤ (d *ℤ m -ℤ x) ≡ pos 0
    spread g d m x e = same_from e (simp expand (omega (arith, ints)))

    differ : {a b : ℤ} → a -ℤ b ≡ pos 0 → a ≡ b
    differ h = omega (arith, ints)

pub says_divided : (vars : ℕ) (rows : List Row) → AreRowsOf vars rows → (g d : ℤ) → (g ≡ pos 0 → ⊥) → (free : List ℕ) → InRange (vars + length rows) free → (basic : List ℕ) → InRange (vars + length rows) basic
    → (lines : List (List ℤ)) → Says vars rows (g *ℤ d) free basic (map (scale g) lines) → Says vars rows d free basic lines
says_divided vars rows are g d n free small [] r [] says = says
says_divided vars rows are g d n free small [] r (l ∷ lines) says = absurd says
says_divided vars rows are g d n free small (z ∷ basic) r [] says = absurd says
says_divided vars rows are g d n free small (z ∷ basic) r (l ∷ lines) says =
    (line_from vars rows are d free small z (r z (inl refl)) l (sym (length-scale g l) ∙ says.0.0) each, says_divided vars rows are g d n free small basic (λ y i. r y (inr i)) lines says.1)
  where
    each : (j : ℕ) → d *ℤ get_or (meaning vars rows z) j (pos 0) ≡ dot l (column j (one vars ∷ map (meaning vars rows) free))
    each j =
        scaled_number g d (get_or (meaning vars rows z) j (pos 0)) (dot l (column j (one vars ∷ map (meaning vars rows) free))) n
        (line_each vars rows (g *ℤ d) free z (scale g l) says.0 j ∙ dot-scale g l (column j (one vars ∷ map (meaning vars rows) free)))
