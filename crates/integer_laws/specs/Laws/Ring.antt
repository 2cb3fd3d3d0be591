-- The integers as a ring. std has the laws of sums; here are those of products, one equation each, named by its left side.
-- They have the names of std's laws of natural numbers: where a file needs both, `use Rattle.integer_laws.specs.Laws.Ring as Ring`.
--
--   expand                               all of them, for `simp expand (omega (arith, ints))`, which closes an identity of polynomials
--   mul_comm, mul_assoc, mul_left_comm   the order of factors
--   mul-add, add-mul                     a product of a sum
--   neg-add, neg-mul, mul-neg, neg-neg   negation: into a sum, out of a product
--   mul-zero, zero-mul, mul-one, one-mul
use Rattle.std.proofs.Common.{◌≡◌, ◌*◌, ap, sym, ◌∙◌, arith, ℤ, pos, neg_ℤ, ◌+ℤ◌, ◌*ℤ◌}
use Rattle.std.proofs.lemmas.Int.{ints}
use Rattle.std.proofs.Math.IntN.{*ℤ-zero, zero-*ℤ}
use borrow.Author.Differences.{up, down, sum_is_lem, product_is, neg_is}

pub mul_comm : (a b : ℤ) → a *ℤ b ≡ b *ℤ a
mul_comm a b = omega (arith, ints)

pub mul_assoc : (a b c : ℤ) → (a *ℤ b) *ℤ c ≡ a *ℤ (b *ℤ c)
mul_assoc a b c =
    let l = product_is a b in
    let r = product_is b c in
    omega (arith, ints, ap (λ t. t * up c) l.0, ap (λ t. t * down c) l.0, ap (λ t. t * up c) l.1, ap (λ t. t * down c) l.1, ap (λ t. up a * t) r.0, ap (λ t. down a * t) r.0, ap (λ t. up a * t) r.1, ap (λ t. down a * t) r.1)

pub mul_left_comm : (a b c : ℤ) → a *ℤ (b *ℤ c) ≡ b *ℤ (a *ℤ c)
mul_left_comm a b c = sym (mul_assoc a b c) ∙ ap (λ t. t *ℤ c) (mul_comm a b) ∙ mul_assoc b a c

pub mul-add : (a b c : ℤ) → a *ℤ (b +ℤ c) ≡ a *ℤ b +ℤ a *ℤ c
mul-add a b c = omega (arith, ints, ap (λ t. up a * t) (sum_is_lem b c), ap (λ t. down a * t) (sum_is_lem b c))

pub add-mul : (a b c : ℤ) → (a +ℤ b) *ℤ c ≡ a *ℤ c +ℤ b *ℤ c
add-mul a b c = omega (arith, ints, ap (λ t. t * up c) (sum_is_lem a b), ap (λ t. t * down c) (sum_is_lem a b))

pub neg-add : (a b : ℤ) → neg_ℤ (a +ℤ b) ≡ neg_ℤ a +ℤ neg_ℤ b
neg-add a b = omega (arith, ints)

pub neg-mul : (a b : ℤ) → neg_ℤ a *ℤ b ≡ neg_ℤ (a *ℤ b)
neg-mul a b = omega (arith, ints, ap (λ t. t * up b) (neg_is a).0, ap (λ t. t * down b) (neg_is a).0, ap (λ t. t * up b) (neg_is a).1, ap (λ t. t * down b) (neg_is a).1)

pub mul-neg : (a b : ℤ) → a *ℤ neg_ℤ b ≡ neg_ℤ (a *ℤ b)
mul-neg a b = mul_comm a (neg_ℤ b) ∙ neg-mul b a ∙ ap neg_ℤ (mul_comm b a)

pub neg-neg : (a : ℤ) → neg_ℤ (neg_ℤ a) ≡ a
neg-neg a = omega (arith, ints)

pub mul-zero : (a : ℤ) → a *ℤ pos 0 ≡ pos 0
mul-zero a = *ℤ-zero a

pub zero-mul : (a : ℤ) → pos 0 *ℤ a ≡ pos 0
zero-mul a = zero-*ℤ a

pub mul-one : (a : ℤ) → a *ℤ pos 1 ≡ a
mul-one a = omega (arith, ints)

pub one-mul : (a : ℤ) → pos 1 *ℤ a ≡ a
one-mul a = omega (arith, ints)

pub ruleset expand = (mul-zero, zero-mul, mul-one, one-mul, mul-add, add-mul, mul_assoc, neg-mul, mul-neg, neg-add, neg-neg, mul_comm, mul_left_comm)
