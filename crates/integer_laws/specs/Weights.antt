-- Weighted sums over a list: the weights stand in a list of their own, and one that ends early goes on with zeros.
--
--   weigh f S w                  the sum of each weight times the value of f at its member
--   total S w                    the sum of the weights
--   AreWeights least S w         one weight for each member, each at least `least`
--   total_nonneg, total_positive the sign of their total
use Rattle.std.proofs.Common.{List, [], ◌∷◌, ℤ, pos, ◌+ℤ◌, ◌*ℤ◌, ◌≤ℤ◌}

abbrev pub weigh : {A : Type 0} → (A → ℤ) → List A → List ℤ → ℤ
weigh f [] w = pos 0
weigh f (s ∷ S) [] = pos 0
weigh f (s ∷ S) (k ∷ w) = k *ℤ f s +ℤ weigh f S w

abbrev pub total : {A : Type 0} → List A → List ℤ → ℤ
total S w = weigh (λ s. pos 1) S w

abbrev pub AreWeights : {A : Type 0} → ℤ → List A → List ℤ → Type 0
AreWeights least [] [] = Unit {0}
AreWeights least [] (k ∷ w) = ⊥
AreWeights least (s ∷ S) [] = ⊥
AreWeights least (s ∷ S) (k ∷ w) = (least ≤ℤ k) × AreWeights least S w
