-- How far an inner point can lie, and why two outlines that only touch don't overlap.
use Rattle.std.proofs.Common.{◌≡◌, List, [], ◌∷◌, ap, sym, arith, ℤ, pos, negsuc, ◌+ℤ◌, ◌-ℤ◌, ◌*ℤ◌, ◌≤ℤ◌, ◌<ℤ◌, inl, inr, subst}
use Rattle.std.proofs.lemmas.Int.{ints}
use Rattle.integer_laws.specs.Members.{In}
use Rattle.integer_laws.specs.Laws.Order.{cancel_lt, cancel_same, le_of_same, lt_from, same_from, add_lt_le, add_same, mul_lt, mul_le, mul_same, mul_positive}
use Rattle.integer_laws.specs.Laws.Ring.{expand}
use Rattle.integer_laws.specs.Weights.{weigh, total}
use Rattle.integer_laws.specs.Laws.Weights.{weigh_below, weigh_constant, weigh-linear}
use Rattle.seq_model.specs.Outlines.{Inner}
use Rattle.seq_model.specs.Points.{Point}
use Rattle.seq_model.specs.declared.printer.Spot.{Spot}

-- a fact of each member, by recursion, for lists that are written out
abbrev pub EachOf : (Spot → Type 0) → List Spot → Type 0
EachOf P [] = Unit {0}
EachOf P (s ∷ S) = P s × EachOf P S

pub member : (P : Spot → Type 0) (S : List Spot) → EachOf P S → (s : Spot) → In s S → P s
member P [] e s i = absurd i
member P (t ∷ S) e s (inl same) = subst P (sym same) e.0
member P (t ∷ S) e s (inr i) = member P S e.1 s i

-- an inner point lies strictly to the west of the greatest x, where some member does
pub west_of : (S : List Spot) (q : Point) (g : ℤ) (t : Spot) → Inner S q → EachOf (λ s. s.x ≤ℤ g) S → In t S → t.x <ℤ g → q.x <ℤ (g *ℤ q.d)
west_of S q g t m each i below =
    let w = weigh_below (λ (s : Spot). s.x) g S m.w t m.weights (member (λ s. s.x ≤ℤ g) S each) i below in
    let d : pos 0 <ℤ q.d = omega (arith, ints, m.point.positive) in
    let some : pos 0 <ℤ total S m.w = omega (arith, ints, m.some) in
    let times = mul_lt q.d {a = weigh (λ (s : Spot). s.x) S m.w} {b = g *ℤ total S m.w} d w in
    let less : (total S m.w *ℤ q.x) <ℤ (total S m.w *ℤ (g *ℤ q.d)) = lt_from (add_lt_le times (le_of_same (sym m.x))) (simp expand (omega (arith, ints))) in
    cancel_lt (total S m.w) some less

-- the mirrored value of a spot
abbrev mirror : Spot → ℤ
mirror s = negsuc 0 *ℤ s.x +ℤ pos 0 *ℤ s.y

mirror_le : (s : Spot) (g : ℤ) → g ≤ℤ s.x → mirror s ≤ℤ (negsuc 0 *ℤ g)
mirror_le s g h = simp expand (omega (arith, ints))

mirror_lt : (s : Spot) (g : ℤ) → g <ℤ s.x → mirror s <ℤ (negsuc 0 *ℤ g)
mirror_lt s g h = simp expand (omega (arith, ints))

negated : (W X Y g T : ℤ) → W ≡ negsuc 0 *ℤ X +ℤ pos 0 *ℤ Y → W <ℤ ((negsuc 0 *ℤ g) *ℤ T) → (g *ℤ T) <ℤ X
negated W X Y g T e h =
    let same : (negsuc 0 *ℤ g) *ℤ T ≡ negsuc 0 *ℤ (g *ℤ T) = simp expand in
    let zero : pos 0 *ℤ Y ≡ pos 0 = simp expand in
    omega (arith, ints, e, h, same, zero)

-- and strictly to the east of the least x, where some member does
pub east_of : (S : List Spot) (q : Point) (g : ℤ) (t : Spot) → Inner S q → EachOf (λ s. g ≤ℤ s.x) S → In t S → g <ℤ t.x → (g *ℤ q.d) <ℤ q.x
east_of S q g t m each i above =
    let w = weigh_below mirror (negsuc 0 *ℤ g) S m.w t m.weights (λ s j. mirror_le s g (member (λ r. g ≤ℤ r.x) S each s j)) i (mirror_lt t g above) in
    let linear : weigh mirror S m.w ≡ negsuc 0 *ℤ weigh (λ s. s.x) S m.w +ℤ pos 0 *ℤ weigh (λ s. s.y) S m.w = weigh-linear (negsuc 0) (pos 0) (λ (s : Spot). s.x) (λ (s : Spot). s.y) S m.w in
    let d : pos 0 <ℤ q.d = omega (arith, ints, m.point.positive) in
    let some : pos 0 <ℤ total S m.w = omega (arith, ints, m.some) in
    let plain : (g *ℤ total S m.w) <ℤ weigh (λ (s : Spot). s.x) S m.w = negated (weigh mirror S m.w) (weigh (λ s. s.x) S m.w) (weigh (λ s. s.y) S m.w) g (total S m.w) linear w in
    let times = mul_lt q.d {a = g *ℤ total S m.w} {b = weigh (λ s. s.x) S m.w} d plain in
    let less : (total S m.w *ℤ (g *ℤ q.d)) <ℤ (total S m.w *ℤ q.x) = lt_from (add_lt_le times (le_of_same m.x)) (simp expand (omega (arith, ints))) in
    cancel_lt (total S m.w) some less

only : (s t : Spot) → In t (s ∷ []) → t.x ≡ s.x
only s t (inl same) = ap (λ (r : Spot). r.x) same
only s t (inr i) = absurd i

-- the inner points of one spot are that spot
pub at_spot : (s : Spot) (q : Point) → Inner (s ∷ []) q → q.x ≡ s.x *ℤ q.d
at_spot s q m =
    let w = weigh_constant (λ (r : Spot). r.x) s.x (s ∷ []) m.w (only s) in
    let some : pos 0 <ℤ total (s ∷ []) m.w = omega (arith, ints, m.some) in
    cancel_same (total (s ∷ []) m.w) some (same_from (add_same m.x (mul_same q.d w)) (simp expand (omega (arith, ints))))

-- P / D lies to the west of a, Lx / Ld to the east of b and Fx / Fd not to the west of c; then P / D - R / h isn't
-- the sum of the other two where a - R / h is at most b + c
lt_le : {a b : ℤ} → a <ℤ b → a ≤ℤ b
lt_le h = omega (arith, ints)

pub no_sum : (P D Lx Ld Fx Fd R h a b c : ℤ) → pos 0 <ℤ D → pos 0 <ℤ Ld → pos 0 <ℤ Fd → pos 0 <ℤ h
    → P <ℤ (a *ℤ D) → (b *ℤ Ld) <ℤ Lx → (c *ℤ Fd) ≤ℤ Fx → (a *ℤ h -ℤ R) ≤ℤ ((b +ℤ c) *ℤ h)
    → (P *ℤ h -ℤ R *ℤ D) *ℤ (Ld *ℤ Fd) ≡ (Lx *ℤ Fd +ℤ Fx *ℤ Ld) *ℤ (D *ℤ h) → ⊥
no_sum P D Lx Ld Fx Fd R h a b c d l f g west east least far sum =
    let one = mul_lt ((Ld *ℤ Fd) *ℤ h) (mul_positive (Ld *ℤ Fd) h (mul_positive Ld Fd l f) g) west in
    let two = mul_lt ((Fd *ℤ D) *ℤ h) (mul_positive (Fd *ℤ D) h (mul_positive Fd D f d) g) east in
    let positive = mul_positive (Ld *ℤ D) h (mul_positive Ld D l d) g in
    let three = mul_le ((Ld *ℤ D) *ℤ h) (omega (arith, ints, positive)) least in
    let area = mul_positive (Ld *ℤ Fd) D (mul_positive Ld Fd l f) d in
    let four = mul_le ((Ld *ℤ Fd) *ℤ D) (omega (arith, ints, area)) far in
    let all = add_lt_le (add_lt_le (add_lt_le (add_lt_le one (lt_le two)) three) four) (le_of_same (sym sum)) in
    let never : pos 0 <ℤ pos 0 = lt_from all (simp expand (omega (arith, ints))) in
    omega (arith, ints, never)
