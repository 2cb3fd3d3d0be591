-- A basis has at most one form.
--
--   one_form      two forms of a basis have the same denominator and the same lines
use Rattle.std.proofs.Common.{◌≡◌, ℕ, zero, suc, ◌+◌, ◌*◌, ◌/◌, ◌<◌, List, [], ◌∷◌, length, map, get_or, refl, ap, sym, subst, ◌∙◌, arith, ℤ, pos, negsuc, ◌+ℤ◌, ◌-ℤ◌, ◌*ℤ◌, ◌≤ℤ◌, ◌<ℤ◌, unsigned_abs}
use Rattle.std.proofs.lemmas.Int.{ints, unsigned_abs-mul}
use Rattle.std.proofs.lemmas.List.{length-map}
use Rattle.std.proofs.lemmas.Nat.Gcd.{dvd_antisymm, mod-eq-zero_of_dvd}
use Rattle.std.proofs.Math.Nat.{mul-one, dvd-mul_right, dvd-mul_left, dvd_of_mul-dvd-mul_left, div-add-mod}
use Rattle.std.specs.Int.{◌∣◌}
use Rattle.integer_laws.specs.Laws.Divisors.{gcd_is, gcd_mul}
use Rattle.integer_laws.specs.Laws.Order.{cancel_same}
use Rattle.integer_laws.specs.Laws.Ring.{expand}
use Rattle.integer_laws.specs.Vectors.{scale, combined}
use Rattle.integer_laws.specs.Laws.Vectors.{get_or-plus, get_or-scale, get_or-combined, length-combined}
use Rattle.row_laws.specs.Laws.Independence.{IsIndependent, independent}
use Rattle.seq_model.specs.Dictionaries.{Form, Says, combination, one, meaning, free_of, DividesAll}
use Rattle.seq_model.specs.declared.row.Row.{Row}

-- ---- a combination of combined numbers
cross_sum : (p q e f v x y : ℤ) → (p *ℤ e -ℤ q *ℤ f) *ℤ v +ℤ (p *ℤ x -ℤ q *ℤ y) ≡ p *ℤ (e *ℤ v +ℤ x) -ℤ q *ℤ (f *ℤ v +ℤ y)
cross_sum p q e f v x y = simp expand (omega (arith, ints))

at-combination : (p q : ℤ) (es fs : List ℤ) (vs : List (List ℤ)) (k : ℕ) → length es ≡ length fs
    → get_or (combination (combined p q es fs) vs) k (pos 0) ≡ p *ℤ get_or (combination es vs) k (pos 0) -ℤ q *ℤ get_or (combination fs vs) k (pos 0)
at-combination p q [] [] vs k h = simp expand
at-combination p q [] (f ∷ fs) vs k h = absurd (omega (arith, h))
at-combination p q (e ∷ es) [] vs k h = absurd (omega (arith, h))
at-combination p q (e ∷ es) (f ∷ fs) [] k h = simp expand
at-combination p q (e ∷ es) (f ∷ fs) (v ∷ vs) k h =
    let r = at-combination p q es fs vs k (omega (arith, h)) in
    simp (get_or-plus, get_or-scale, r) (cross_sum p q e f (get_or v k (pos 0)) (get_or (combination es vs) k (pos 0)) (get_or (combination fs vs) k (pos 0)))

-- ---- two lines of one variable are proportional
lines_proportional : (d c : ℤ) (es fs m : List ℤ) (vs : List (List ℤ)) → IsIndependent vs → length es ≡ length vs → length fs ≡ length vs
    → scale d m ≡ combination es vs → scale c m ≡ combination fs vs → (j : ℕ) → c *ℤ get_or es j (pos 0) ≡ d *ℤ get_or fs j (pos 0)
lines_proportional d c es fs m vs i l l' e e' j =
    let same : length es ≡ length fs = l ∙ sym l' in
    let long = length-combined c d es fs in
    let zero_at = i (combined c d es fs) (omega (arith, long, same, l)) (λ k.
    at-combination c d es fs vs k same ∙ vanishes d c (get_or m k (pos 0)) _ _ (sym (ap (λ t. get_or t k (pos 0)) e) ∙ get_or-scale d m k) (sym (ap (λ t. get_or t k (pos 0)) e') ∙ get_or-scale c m k)) j in
    differ (sym (get_or-combined c d es fs j) ∙ zero_at)
  where
    vanishes : (d c m x y : ℤ) → x ≡ d *ℤ m → y ≡ c *ℤ m → c *ℤ x -ℤ d *ℤ y ≡ pos 0
    vanishes d c m x y h k = rw (h, k) (simp expand (omega (arith, ints)))

    differ : {x y : ℤ} → x -ℤ y ≡ pos 0 → x ≡ y
    differ h = omega (arith, ints)

all_proportional : (vars : ℕ) (rows : List Row) (d c : ℤ) (free : List ℕ) → IsIndependent (one vars ∷ map (meaning vars rows) free) → (basis : List ℕ) (L M : List (List ℤ))
    → Says vars rows d free basis L → Says vars rows c free basis M → (r j : ℕ) → c *ℤ get_or (get_or L r []) j (pos 0) ≡ d *ℤ get_or (get_or M r []) j (pos 0)
all_proportional vars rows d c free i [] [] [] s t r j = simp expand
all_proportional vars rows d c free i [] [] (m ∷ M) s t r j = absurd t
all_proportional vars rows d c free i [] (l ∷ L) M s t r j = absurd s
all_proportional vars rows d c free i (z ∷ basis) [] M s t r j = absurd s
all_proportional vars rows d c free i (z ∷ basis) (l ∷ L) [] s t r j = absurd t
all_proportional vars rows d c free i (z ∷ basis) (l ∷ L) (m ∷ M) s t zero j =
    let long = length-map free (meaning vars rows) in
    lines_proportional d c l m (meaning vars rows z) (one vars ∷ map (meaning vars rows) free) i (s.0.0 ∙ ap suc (sym long)) (t.0.0 ∙ ap suc (sym long)) s.0.1 t.0.1 j
all_proportional vars rows d c free i (z ∷ basis) (l ∷ L) (m ∷ M) s t (suc r) j = all_proportional vars rows d c free i basis L M s.1 t.1 r j

pub list_same : (a b : List ℤ) → length a ≡ length b → ((j : ℕ) → get_or a j (pos 0) ≡ get_or b j (pos 0)) → a ≡ b
list_same [] [] l h = refl
list_same [] (y ∷ b) l h = absurd (omega (arith, l))
list_same (x ∷ a) [] l h = absurd (omega (arith, l))
list_same (x ∷ a) (y ∷ b) l h = ap (λ t. t ∷ a) (h 0) ∙ ap (λ t. y ∷ t) (list_same a b (omega (arith, l)) (λ j. h (suc j)))

lines_same : (vars : ℕ) (rows : List Row) (d : ℤ) (free : List ℕ) → pos 0 <ℤ d → (basis : List ℕ) (L M : List (List ℤ)) → Says vars rows d free basis L → Says vars rows d free basis M
    → ((r j : ℕ) → d *ℤ get_or (get_or L r []) j (pos 0) ≡ d *ℤ get_or (get_or M r []) j (pos 0)) → L ≡ M
lines_same vars rows d free p [] [] [] s t h = refl
lines_same vars rows d free p [] [] (m ∷ M) s t h = absurd t
lines_same vars rows d free p [] (l ∷ L) M s t h = absurd s
lines_same vars rows d free p (z ∷ basis) [] M s t h = absurd s
lines_same vars rows d free p (z ∷ basis) (l ∷ L) [] s t h = absurd t
lines_same vars rows d free p (z ∷ basis) (l ∷ L) (m ∷ M) s t h =
    ap (λ u. u ∷ L) (list_same l m (s.0.0 ∙ sym t.0.0) (λ j. cancel_same d p (h 0 j))) ∙ ap (λ u. m ∷ u) (lines_same vars rows d free p basis L M s.1 t.1 (λ r j. h (suc r) j))

pub any_default : {X : Type 0} (xs : List X) (k : ℕ) (a b : X) → k < length xs → get_or xs k a ≡ get_or xs k b
any_default [] k a b h = absurd (omega (arith, h))
any_default (x ∷ xs) zero a b h = refl
any_default (x ∷ xs) (suc k) a b h = any_default xs k a b (omega (arith, h))

-- ---- the denominator of a least form divides that of a proportional one
divides_other : (d c : ℤ) (L M : List (List ℤ)) → pos 0 <ℤ d → ((k : ℕ) → DividesAll k d L → k ≡ 1)
    → ((r j : ℕ) → c *ℤ get_or (get_or L r []) j (pos 0) ≡ d *ℤ get_or (get_or M r []) j (pos 0)) → unsigned_abs d ∣ unsigned_abs c
divides_other d c L M p least h =
    let n = unsigned_abs d in
    let m = unsigned_abs c in
    let E = gcd_is m n in
    let g = E.0 in
    let a = n / g in
    let e : n ≡ g * a = exact n g E.1.1 in
    let some : 0 < g = some_factor g a n e (some_size d p) in
    let part : (x : ℕ) → n ∣ g * x → a ∣ x = λ x k. dvd_of_mul-dvd-mul_left a some (subst (λ t. t ∣ g * x) e k) in
    let entry : (r j : ℕ) → a ∣ unsigned_abs (get_or (get_or L r []) j (pos 0)) = λ r j.
    let x = get_or (get_or L r []) j (pos 0) in
    let y = get_or (get_or M r []) j (pos 0) in
    let k : n * unsigned_abs y ≡ m * unsigned_abs x = sym (unsigned_abs-mul d y) ∙ ap unsigned_abs (sym (h r j)) ∙ unsigned_abs-mul c x in
    part (unsigned_abs x) (gcd_mul m n g n (unsigned_abs x) E.1 (subst (λ t. n ∣ t) k (dvd-mul_right n (unsigned_abs y))) (dvd-mul_right n (unsigned_abs x))) in
    let one : a ≡ 1 = least a (
      part n (dvd-mul_left n g),
      λ r D l. λ j z i.
          subst (λ t. a ∣ unsigned_abs (get_or t j z)) (any_default L r [] D l)
          (subst (λ t. a ∣ unsigned_abs t) (any_default (get_or L r []) j (pos 0) z (subst (λ t. j < length t) (any_default L r D [] l) i)) (entry r j)),
    ) in
    subst (λ t. t ∣ m) (whole g a n e one) E.1.0
  where
    exact : (d g : ℕ) → g ∣ d → d ≡ g * (d / g)
    exact d g h = let m = mod-eq-zero_of_dvd g h in let n = div-add-mod d g in omega (arith, m, n)

    some_factor : (g a d : ℕ) → d ≡ g * a → 0 < d → 0 < g
    some_factor zero a d e h = absurd (omega (arith, e))
    some_factor (suc g) a d e h = omega arith

    some_size : (z : ℤ) → pos 0 <ℤ z → 0 < unsigned_abs z
    some_size (pos zero) h = absurd (omega (arith, ints))
    some_size (pos (suc n)) h = omega arith
    some_size (negsuc n) h = absurd (omega (arith, ints))

    whole : (g a d : ℕ) → d ≡ g * a → a ≡ 1 → g ≡ d
    whole g a d e h = sym (e ∙ ap (λ t. g * t) h ∙ mul-one g)

same_size : (x y : ℤ) → pos 0 <ℤ x → pos 0 <ℤ y → unsigned_abs x ≡ unsigned_abs y → x ≡ y
same_size (pos x) (pos y) h k e = ap pos e
same_size (pos x) (negsuc y) h k e = absurd (omega (arith, ints))
same_size (negsuc x) y h k e = absurd (omega (arith, ints))

positive : (d : ℤ) → pos 1 ≤ℤ d → pos 0 <ℤ d
positive d h = omega (arith, ints, h)

pub one_form : (vars : ℕ) (rows : List Row) (basis : List ℕ) (f g : Form vars rows basis) → (f.d ≡ g.d) × (f.lines ≡ g.lines)
one_form vars rows basis f g =
    let free = free_of (vars + length rows) basis in
    let one_way = all_proportional vars rows f.d g.d free (independent vars rows basis f) basis f.lines g.lines f.says g.says in
    let d : f.d ≡ g.d = same_size f.d g.d (positive f.d f.positive) (positive g.d g.positive)
    (dvd_antisymm (divides_other f.d g.d f.lines g.lines (positive f.d f.positive) f.reduced one_way) (divides_other g.d f.d g.lines f.lines (positive g.d g.positive) g.reduced (λ r j. sym (one_way r j)))) in
    let says : Says vars rows f.d free basis g.lines = subst (λ t. Says vars rows t free basis g.lines) (sym d) g.says in (
      d,
      lines_same vars rows f.d free (positive f.d f.positive) basis f.lines g.lines f.says says (λ r j. subst (λ t. t *ℤ get_or (get_or f.lines r []) j (pos 0) ≡ f.d *ℤ get_or (get_or g.lines r []) j (pos 0)) (sym d) (one_way r j)),
    )
