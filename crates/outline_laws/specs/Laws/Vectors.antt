-- Vectors of the plane, and what three of them say of points in order along a direction.
--
--   less a b            a - b
--   cross u v           more than 0 where v stands counterclockwise of u
--   corner u v w        the area that v spans with its neighbours
--   height hx hy u      how far u reaches along (hx, hy)
--   turn_on, turn_back, turn_turned, turn_from, turn_behind, turn_apart      a turn as a cross product
--   turn_round, turn_flipped                                    turns of the same three points
--   height_cross        the identity of three vectors and a direction
--   between, strictly_between    of three vectors that go up, the middle one between the others
--   rises, rises_or_same         the vector to a higher point goes up
--   opposite, rising, falling    heights against the direction
use Rattle.std.proofs.Common.{◌≡◌, arith, ℤ, pos, neg_ℤ, ◌+ℤ◌, ◌-ℤ◌, ◌*ℤ◌, ◌≤ℤ◌, ◌<ℤ◌}
use Rattle.std.proofs.lemmas.Int.{ints}
use Rattle.integer_laws.specs.Laws.Ring.{expand}
use Rattle.integer_laws.specs.Laws.Order.{le_from, lt_from, add_le, add_lt_le, cancel_le, cancel_lt, mul_nonneg, mul_positive}
use Rattle.seq_model.specs.declared.printer.Spot.{Spot}
use Rattle.outline_laws.specs.Corners.{turn}

abbrev pub less : Spot → Spot → Spot
less a b = record { x = a.x -ℤ b.x; y = a.y -ℤ b.y }

abbrev pub cross : Spot → Spot → ℤ
cross u v = u.x *ℤ v.y -ℤ u.y *ℤ v.x

abbrev pub corner : Spot → Spot → Spot → ℤ
corner u v w = (cross u v +ℤ cross v w) -ℤ cross u w

abbrev pub height : ℤ → ℤ → Spot → ℤ
height hx hy u = hx *ℤ u.x +ℤ hy *ℤ u.y

-- ---- turns
pub turn_on : (a b c : Spot) → turn a b c ≡ cross (less b a) (less c b)
turn_on a b c = simp expand (omega (arith, ints))

pub turn_back : (a b c : Spot) → turn a b c ≡ cross (less b c) (less b a)
turn_back a b c = simp expand (omega (arith, ints))

pub turn_turned : (a b c : Spot) → turn a b c ≡ cross (less a c) (less b a)
turn_turned a b c = simp expand (omega (arith, ints))

pub turn_from : (a b c : Spot) → turn a b c ≡ cross (less b a) (less c a)
turn_from a b c = simp expand (omega (arith, ints))

pub turn_behind : (a b c : Spot) → turn a b c ≡ cross (less a b) (less a c)
turn_behind a b c = simp expand (omega (arith, ints))

pub turn_apart : (a b c : Spot) → turn a b c ≡ cross (less c a) (less c b)
turn_apart a b c = simp expand (omega (arith, ints))

pub turn_round : (a b c : Spot) → turn a b c ≡ turn b c a
turn_round a b c = simp expand (omega (arith, ints))

pub turn_flipped : (a b c : Spot) → turn a b c ≡ neg_ℤ (turn b a c)
turn_flipped a b c = simp expand (omega (arith, ints))

pub turn_start : (a b : Spot) → turn a b a ≡ pos 0
turn_start a b = simp expand (omega (arith, ints))

pub turn_end : (a b : Spot) → turn a b b ≡ pos 0
turn_end a b = simp expand (omega (arith, ints))

pub cross_back : (u v : Spot) → cross u v ≡ neg_ℤ (cross v u)
cross_back u v = simp expand (omega (arith, ints))

-- ---- along a direction
pub height_cross : (hx hy : ℤ) (u v w : Spot) → height hx hy v *ℤ cross u w ≡ height hx hy w *ℤ cross u v +ℤ height hx hy u *ℤ cross v w
height_cross hx hy u v w = simp expand (omega (arith, ints))

pub between : (hx hy : ℤ) (u v w : Spot) → pos 0 <ℤ height hx hy v → pos 0 ≤ℤ height hx hy u → pos 0 ≤ℤ height hx hy w → pos 0 ≤ℤ cross u v → pos 0 ≤ℤ cross v w → pos 0 ≤ℤ cross u w
between hx hy u v w p q r h k =
    let a = mul_nonneg _ _ r h in
    let b = mul_nonneg _ _ q k in
    let e = height_cross hx hy u v w in
    cancel_le (height hx hy v) p (le_from (add_le a b) (rw e (omega (arith, ints))))

pub strictly_between : (hx hy : ℤ) (u v w : Spot) → pos 0 <ℤ height hx hy v → pos 0 ≤ℤ height hx hy u → pos 0 <ℤ height hx hy w → pos 0 <ℤ cross u v → pos 0 ≤ℤ cross v w → pos 0 <ℤ cross u w
strictly_between hx hy u v w p q r h k =
    let a = mul_positive _ _ r h in
    let b = mul_nonneg _ _ q k in
    let e = height_cross hx hy u v w in
    cancel_lt (height hx hy v) p (lt_from (add_lt_le a b) (rw e (omega (arith, ints))))

rise : (hx hy : ℤ) (a b : Spot) → height hx hy (less b a) ≡ height hx hy b -ℤ height hx hy a
rise hx hy a b = simp expand (omega (arith, ints))

pub rises : (hx hy : ℤ) (a b : Spot) → height hx hy a <ℤ height hx hy b → pos 0 <ℤ height hx hy (less b a)
rises hx hy a b h = rw (rise hx hy a b) (omega (arith, ints))

pub rises_or_same : (hx hy : ℤ) (a b : Spot) → height hx hy a ≤ℤ height hx hy b → pos 0 ≤ℤ height hx hy (less b a)
rises_or_same hx hy a b h = rw (rise hx hy a b) (omega (arith, ints))

pub opposite : (hx hy : ℤ) (s : Spot) → height (neg_ℤ hx) (neg_ℤ hy) s ≡ neg_ℤ (height hx hy s)
opposite hx hy s = simp expand (omega (arith, ints))

pub falling : (hx hy : ℤ) (a b : Spot) → height (neg_ℤ hx) (neg_ℤ hy) a <ℤ height (neg_ℤ hx) (neg_ℤ hy) b → height hx hy b <ℤ height hx hy a
falling hx hy a b h = let e = opposite hx hy a in let f = opposite hx hy b in omega (arith, ints)

pub rising : (hx hy : ℤ) (a b : Spot) → height hx hy b <ℤ height hx hy a → height (neg_ℤ hx) (neg_ℤ hy) a <ℤ height (neg_ℤ hx) (neg_ℤ hy) b
rising hx hy a b h = let e = opposite hx hy a in let f = opposite hx hy b in omega (arith, ints)
