-- Three laws of the kind that geometry and linear systems need, each by the laws of this crate.
--
--   CornerIdentity     three vectors of the plane: the middle one, times the area that they span, from the areas of its two pairs
--   RowOfAPivot        what a pivot makes of the row of a variable that stays basic
--   MeanOfMeans        a weighted mean of two weighted means is a weighted mean
use Rattle.std.specs.Prelude.{◌≡◌, ℕ, ◌<◌, List, length, slice_index_or, slice_set, ℤ, pos, ◌+ℤ◌, ◌-ℤ◌, ◌*ℤ◌}
use Rattle.integer_laws.specs.Vectors.{dot, plus, scale, combined}
use Rattle.integer_laws.specs.Weights.{weigh, total}

pub record Vector : Type 0 where
  pub x : ℤ
  pub y : ℤ

-- the area that two vectors span
abbrev pub cross : Vector → Vector → ℤ
cross u v = u.x *ℤ v.y -ℤ u.y *ℤ v.x

-- the area that the ends of three span
abbrev pub corner : Vector → Vector → Vector → ℤ
corner u v w = cross u v +ℤ cross v w -ℤ cross u w

-- in a coordinate
abbrev pub CornerIdentityIn : (Vector → ℤ) → Type 0
CornerIdentityIn f = (u v w : Vector) → corner u v w *ℤ f v ≡ cross u v *ℤ (f v -ℤ f w) +ℤ cross v w *ℤ (f v -ℤ f u)

abbrev pub CornerIdentity : Type 0
CornerIdentity = CornerIdentityIn (λ v. v.x) × CornerIdentityIn (λ v. v.y)

-- y leaves and x, at place s, enters: d * y = cy * u + dot ys xs, and d * z = cz * u + dot zs xs
abbrev pub RowOfAPivot : Type 0
RowOfAPivot =
    (d cy cz u y z : ℤ) (ys zs xs : List ℤ) (s : ℕ) → s < length ys → s < length zs → s < length xs
    → d *ℤ y ≡ cy *ℤ u +ℤ dot ys xs → d *ℤ z ≡ cz *ℤ u +ℤ dot zs xs
    → (let p = slice_index_or ys s (pos 0) in let q = slice_index_or zs s (pos 0) in
    (d *ℤ p) *ℤ z ≡ (p *ℤ cz -ℤ q *ℤ cy) *ℤ u +ℤ dot (slice_set (combined p q zs ys) s (d *ℤ q)) (slice_set xs s y))

-- x / d and y / d are means of f by the weights w and v: (a * x + b * y) / ((a + b) * d) is one by weights made from both
abbrev pub MeanOfMeans : Type 0
MeanOfMeans =
    (f : Vector → ℤ) (S : List Vector) (w v : List ℤ) (a b d x y : ℤ)
    → d *ℤ weigh f S w ≡ x *ℤ total S w → d *ℤ weigh f S v ≡ y *ℤ total S v
    → (let both = plus (scale (a *ℤ total S v) w) (scale (b *ℤ total S w) v) in
    ((a +ℤ b) *ℤ d) *ℤ weigh f S both ≡ (a *ℤ x +ℤ b *ℤ y) *ℤ total S both)
