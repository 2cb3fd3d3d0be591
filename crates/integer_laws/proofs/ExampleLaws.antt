-- The proofs of the three examples: how the laws are used.
use Rattle.std.proofs.Common.{◌≡◌, get_or, ap, sym, ◌∙◌, arith, ℤ, pos, neg_ℤ, ◌+ℤ◌, ◌-ℤ◌, ◌*ℤ◌}
use Rattle.std.proofs.lemmas.Int.{ints}
use Rattle.integer_laws.specs.Laws.Ring.{expand}
use Rattle.integer_laws.specs.Laws.Order.{add_same, mul_same, same_from}
use Rattle.integer_laws.specs.Vectors.{dot, combined}
use Rattle.integer_laws.specs.Laws.Vectors.{dot-combined, dot-set, get_or-combined, length-combined}
use Rattle.integer_laws.specs.Weights.{weigh, total}
use Rattle.integer_laws.specs.Laws.Weights.{weigh-plus, weigh-scale}
use Rattle.integer_laws.specs.Examples.{CornerIdentity, RowOfAPivot, MeanOfMeans}

pub corner_identity : CornerIdentity
corner_identity = (λ u v w. simp expand (omega (arith, ints)), λ u v w. simp expand (omega (arith, ints)))

-- the facts, times the numbers that make them add up to the goal
pivot_sum : (d p q y z cy cz u dz dy g : ℤ) → d *ℤ y ≡ cy *ℤ u +ℤ dy → d *ℤ z ≡ cz *ℤ u +ℤ dz → g ≡ (p *ℤ dz -ℤ q *ℤ dy) +ℤ (d *ℤ q) *ℤ y
    → (d *ℤ p) *ℤ z ≡ (p *ℤ cz -ℤ q *ℤ cy) *ℤ u +ℤ g
pivot_sum d p q y z cy cz u dz dy g leaves stays sum =
    same_from (add_same (mul_same (neg_ℤ q) leaves) (add_same (mul_same p stays) (sym sum))) (simp expand (omega (arith, ints)))

pub row_of_a_pivot : RowOfAPivot
row_of_a_pivot d cy cz u y z ys zs xs s in_y in_z in_x leaves stays =
    let p = get_or ys s (pos 0) in
    let q = get_or zs s (pos 0) in
    let long = length-combined p q zs ys in
    let changed = dot-set s (combined p q zs ys) xs (d *ℤ q) y (pos 0) (pos 0) (omega arith) in_x in
    let none : get_or (combined p q zs ys) s (pos 0) ≡ pos 0 = get_or-combined p q zs ys s ∙ cancels p q in
    let both = dot-combined p q zs ys xs in
    pivot_sum d p q y z cy cz u (dot zs xs) (dot ys xs) _ leaves stays (settle _ _ _ _ _ (get_or xs s (pos 0)) changed none both)
  where
    cancels : (p q : ℤ) → p *ℤ q -ℤ q *ℤ p ≡ pos 0
    cancels p q = simp expand (omega (arith, ints))

    settle : (g a b c m x : ℤ) → g +ℤ a *ℤ x ≡ b +ℤ c → a ≡ pos 0 → b ≡ m → g ≡ m +ℤ c
    settle g a b c m x e f h = let product = ap (λ t. t *ℤ x) f in omega (arith, ints)

mean_sum : (a b d x y w v n m : ℤ) → d *ℤ w ≡ x *ℤ n → d *ℤ v ≡ y *ℤ m
    → ((a +ℤ b) *ℤ d) *ℤ ((a *ℤ m) *ℤ w +ℤ (b *ℤ n) *ℤ v) ≡ (a *ℤ x +ℤ b *ℤ y) *ℤ ((a *ℤ m) *ℤ n +ℤ (b *ℤ n) *ℤ m)
mean_sum a b d x y w v n m e f =
    same_from (add_same (mul_same ((a +ℤ b) *ℤ (a *ℤ m)) e) (mul_same ((a +ℤ b) *ℤ (b *ℤ n)) f)) (simp expand (omega (arith, ints)))

pub mean_of_means : MeanOfMeans
mean_of_means f S w v a b d x y e g =
    simp (weigh-plus, weigh-scale) (mean_sum a b d x y (weigh f S w) (weigh f S v) (total S w) (total S v) e g)
