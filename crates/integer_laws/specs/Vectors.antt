-- Lists of integers as vectors: one that ends early goes on with zeros. The entry at place k is `get_or xs k (pos 0)`.
--
--   dot a u              the sum of the products
--   plus a b             entry by entry
--   scale t a            each entry times t
--   combined p q a b     p times each entry of a less q times that of b: the step of an elimination
--   zeros n, unit n j    n entries, all 0; or all but a 1 at place j
use Rattle.std.proofs.Common.{ℕ, List, [], ◌∷◌, set, replicate, ℤ, pos, neg_ℤ, ◌+ℤ◌, ◌-ℤ◌, ◌*ℤ◌}

abbrev pub dot : List ℤ → List ℤ → ℤ
dot [] u = pos 0
dot (x ∷ a) [] = pos 0
dot (x ∷ a) (y ∷ u) = x *ℤ y +ℤ dot a u

abbrev pub plus : List ℤ → List ℤ → List ℤ
plus [] b = b
plus (x ∷ a) [] = x ∷ a
plus (x ∷ a) (y ∷ b) = (x +ℤ y) ∷ plus a b

abbrev pub scale : ℤ → List ℤ → List ℤ
scale t [] = []
scale t (x ∷ a) = (t *ℤ x) ∷ scale t a

abbrev pub combined : ℤ → ℤ → List ℤ → List ℤ → List ℤ
combined p q [] b = scale (neg_ℤ q) b
combined p q (x ∷ a) [] = scale p (x ∷ a)
combined p q (x ∷ a) (y ∷ b) = (p *ℤ x -ℤ q *ℤ y) ∷ combined p q a b

abbrev pub zeros : ℕ → List ℤ
zeros n = replicate n (pos 0)

abbrev pub unit : ℕ → ℕ → List ℤ
unit n j = set (zeros n) j (pos 1)
