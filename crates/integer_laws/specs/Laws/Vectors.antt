-- Lists of integers as vectors: one that ends early goes on with zeros. The entry at place k is `get_or xs k (pos 0)`.
--
--
--   dot_comm                                           the order of the two lists
--   dot-plus, dot-scale, dot-combined                  with a list that is made from others
--   dot-append                                         of joined lists, where the first parts are of one length
--   dot-zeros, dot-unit                                with zeros; with a unit list, which takes one entry
--   dot-set                                            with one entry of each list changed
--   dot_nonpositive                                    of entries that are not positive with entries that are not negative
--   get_or-plus, get_or-scale, get_or-combined         the entry at a place
--   length-plus, length-scale, length-combined
use Rattle.std.proofs.Common.{◌≡◌, ℕ, zero, suc, ◌<◌, max, List, [], ◌∷◌, ◌++◌, length, set, get_or, refl, ap, arith, ℤ, pos, neg_ℤ, ◌+ℤ◌, ◌-ℤ◌, ◌*ℤ◌, ◌≤ℤ◌, All}
use Rattle.std.proofs.lemmas.Int.{ints}
use Rattle.std.proofs.lemmas.List.Elements.{All-head, All-tail}
use Rattle.integer_laws.specs.Laws.Ring.{expand, mul_comm}
use Rattle.integer_laws.specs.Laws.Order.{le_from, add_le, mul_le}
use Rattle.integer_laws.specs.Vectors.{dot, plus, scale, combined, zeros, unit}

-- ---- the sum of the products
pub dot_comm : (a u : List ℤ) → dot a u ≡ dot u a
dot_comm [] [] = refl
dot_comm [] (y ∷ u) = refl
dot_comm (x ∷ a) [] = refl
dot_comm (x ∷ a) (y ∷ u) = simp (dot_comm a u, mul_comm x y) (omega (arith, ints))

pub dot-plus : (a b u : List ℤ) → dot (plus a b) u ≡ dot a u +ℤ dot b u
dot-plus [] b u = omega (arith, ints)
dot-plus (x ∷ a) [] u = omega (arith, ints)
dot-plus (x ∷ a) (y ∷ b) [] = omega (arith, ints)
dot-plus (x ∷ a) (y ∷ b) (v ∷ u) = simp (dot-plus a b u, expand) (omega (arith, ints))

pub dot-scale : (t : ℤ) (a u : List ℤ) → dot (scale t a) u ≡ t *ℤ dot a u
dot-scale t [] u = simp expand
dot-scale t (x ∷ a) [] = simp expand
dot-scale t (x ∷ a) (v ∷ u) = simp (dot-scale t a u, expand) (omega (arith, ints))

pub dot-combined : (p q : ℤ) (a b u : List ℤ) → dot (combined p q a b) u ≡ p *ℤ dot a u -ℤ q *ℤ dot b u
dot-combined p q [] b u = simp (dot-scale (neg_ℤ q) b u, expand) (omega (arith, ints))
dot-combined p q (x ∷ a) [] u = simp (dot-scale p (x ∷ a) u, expand) (omega (arith, ints))
dot-combined p q (x ∷ a) (y ∷ b) [] = simp expand (omega (arith, ints))
dot-combined p q (x ∷ a) (y ∷ b) (v ∷ u) = simp (dot-combined p q a b u, expand) (omega (arith, ints))

pub dot-append : (a b u v : List ℤ) → length a ≡ length u → dot (a ++ b) (u ++ v) ≡ dot a u +ℤ dot b v
dot-append [] b [] v e = omega (arith, ints)
dot-append [] b (y ∷ u) v e = absurd (omega arith)
dot-append (x ∷ a) b [] v e = absurd (omega arith)
dot-append (x ∷ a) b (y ∷ u) v e = let r = dot-append a b u v (omega arith) in omega (arith, ints)

pub dot-zeros : (n : ℕ) (u : List ℤ) → dot (zeros n) u ≡ pos 0
dot-zeros zero u = refl
dot-zeros (suc n) [] = refl
dot-zeros (suc n) (y ∷ u) = let r = dot-zeros n u in omega (arith, ints)

pub dot-unit : (n j : ℕ) (u : List ℤ) → j < n → dot (unit n j) u ≡ get_or u j (pos 0)
dot-unit zero j u h = absurd (omega arith)
dot-unit (suc n) zero [] h = refl
dot-unit (suc n) (suc j) [] h = refl
dot-unit (suc n) zero (y ∷ u) h = let r = dot-zeros n u in omega (arith, ints)
dot-unit (suc n) (suc j) (y ∷ u) h = let r = dot-unit n j u (omega arith) in omega (arith, ints)

pub dot-set : (s : ℕ) (a u : List ℤ) (x y d e : ℤ) → s < length a → s < length u → dot (set a s x) (set u s y) +ℤ get_or a s d *ℤ get_or u s e ≡ dot a u +ℤ x *ℤ y
dot-set s [] u x y d e h k = absurd (omega arith)
dot-set s (b ∷ a) [] x y d e h k = absurd (omega arith)
dot-set zero (b ∷ a) (v ∷ u) x y d e h k = omega (arith, ints)
dot-set (suc s) (b ∷ a) (v ∷ u) x y d e h k = let r = dot-set s a u x y d e (omega arith) (omega arith) in omega (arith, ints)

pub dot_nonpositive : (a u : List ℤ) → All (λ x. x ≤ℤ pos 0) a → All (λ x. pos 0 ≤ℤ x) u → dot a u ≤ℤ pos 0
dot_nonpositive [] u h k = omega (arith, ints)
dot_nonpositive (x ∷ a) [] h k = omega (arith, ints)
dot_nonpositive (x ∷ a) (v ∷ u) h k =
    let first = mul_le v (All-head (λ y. pos 0 ≤ℤ y) v u k) (All-head (λ y. y ≤ℤ pos 0) x a h) in
    let rest = dot_nonpositive a u (All-tail (λ y. y ≤ℤ pos 0) x a h) (All-tail (λ y. pos 0 ≤ℤ y) v u k) in
    le_from (add_le first rest) (simp expand (omega (arith, ints)))

-- ---- the entry at a place
pub get_or-scale : (t : ℤ) (a : List ℤ) (k : ℕ) → get_or (scale t a) k (pos 0) ≡ t *ℤ get_or a k (pos 0)
get_or-scale t [] k = omega (arith, ints)
get_or-scale t (x ∷ a) zero = refl
get_or-scale t (x ∷ a) (suc k) = get_or-scale t a k

pub get_or-plus : (a b : List ℤ) (k : ℕ) → get_or (plus a b) k (pos 0) ≡ get_or a k (pos 0) +ℤ get_or b k (pos 0)
get_or-plus [] b k = omega (arith, ints)
get_or-plus (x ∷ a) [] k = omega (arith, ints)
get_or-plus (x ∷ a) (y ∷ b) zero = refl
get_or-plus (x ∷ a) (y ∷ b) (suc k) = get_or-plus a b k

pub get_or-combined : (p q : ℤ) (a b : List ℤ) (k : ℕ) → get_or (combined p q a b) k (pos 0) ≡ p *ℤ get_or a k (pos 0) -ℤ q *ℤ get_or b k (pos 0)
get_or-combined p q [] b k = simp (get_or-scale (neg_ℤ q) b k, expand) (omega (arith, ints))
get_or-combined p q (x ∷ a) [] k = simp (get_or-scale p (x ∷ a) k, expand) (omega (arith, ints))
get_or-combined p q (x ∷ a) (y ∷ b) zero = refl
get_or-combined p q (x ∷ a) (y ∷ b) (suc k) = get_or-combined p q a b k

-- ---- lengths
pub length-scale : (t : ℤ) (a : List ℤ) → length (scale t a) ≡ length a
length-scale t [] = refl
length-scale t (x ∷ a) = ap suc (length-scale t a)

pub length-plus : (a b : List ℤ) → length (plus a b) ≡ max (length a) (length b)
length-plus [] b = omega arith
length-plus (x ∷ a) [] = omega arith
length-plus (x ∷ a) (y ∷ b) = omega (arith, length-plus a b)

pub length-combined : (p q : ℤ) (a b : List ℤ) → length (combined p q a b) ≡ max (length a) (length b)
length-combined p q [] b = omega (arith, length-scale (neg_ℤ q) b)
length-combined p q (x ∷ a) [] = omega (arith, length-scale p (x ∷ a))
length-combined p q (x ∷ a) (y ∷ b) = omega (arith, length-combined p q a b)
