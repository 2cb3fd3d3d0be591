-- Corner points, one by one.
use Rattle.std.proofs.Common.{◌≡◌, ◌≤◌, Bool, true, false, ℤ, pos, ◌+ℤ◌, ◌-ℤ◌, ◌*ℤ◌, ◌≤ℤ◌, ◌<ℤ◌, List, [], ◌∷◌, ◌++◌, refl, ap, sym, ◌∙◌, arith, unsigned_abs, mul-le-mul, append_assoc}
use Rattle.std.proofs.Math.Dec.{T}
use Rattle.std.proofs.lemmas.Int.{ints, unsigned_abs-mul}
use Rattle.std.specs.Int.Signed.{lt_z}
use Rattle.integer_laws.specs.Laws.Order.{one_le, mul_positive}
use Rattle.seq_model.specs.declared.mesh.Point3.{Point3}
use Rattle.seq_model.specs.Bands.{crossing_up}
use Rattle.seq_model.specs.Points.{Point}
use Rattle.mesh_slices.specs.declared.corner.CornerPoint.{CornerPoint}
use Rattle.mesh_slices.specs.CornerPoints.{as_point, points_of}

-- ---- sizes
pub part_size : (x rise : ℤ) → unsigned_abs x ≤ 10_000_000 → unsigned_abs rise ≤ 20_000_000 → unsigned_abs (x *ℤ rise) ≤ 200_000_000_000_000
part_size x rise h k = rw (unsigned_abs-mul x rise) (mul-le-mul h k)

pub span_size : (d grain : ℤ) → pos 1 ≤ℤ d → d ≤ℤ pos 20_000_000 → pos 1 ≤ℤ grain → grain ≤ℤ pos 10_000 → unsigned_abs (d *ℤ grain) ≤ 200_000_000_000
span_size d grain dl dh gl gh =
    let a : unsigned_abs d ≤ 20_000_000 = omega (arith, ints) in
    let b : unsigned_abs grain ≤ 10_000 = omega (arith, ints) in
    rw (unsigned_abs-mul d grain) (mul-le-mul a b)

pub span_low : (d grain : ℤ) → pos 1 ≤ℤ d → pos 1 ≤ℤ grain → pos 1 ≤ℤ (d *ℤ grain)
span_low d grain p q = one_le (mul_positive d grain (omega (arith, ints)) (omega (arith, ints)))

-- ---- lists
-- the points of a list and one more
points_pushed : (ps : List CornerPoint) (p : CornerPoint) → points_of (ps ++ p ∷ []) ≡ points_of ps ++ as_point p ∷ []
points_pushed [] p = refl
points_pushed (q ∷ ps) p = ap (λ l. as_point q ∷ l) (points_pushed ps p)

pub pushed : (old new : List CornerPoint) (p : CornerPoint) (found : List Point) → new ≡ old ++ p ∷ [] → found ≡ as_point p ∷ [] → points_of new ≡ points_of old ++ found
pushed old new p found e f = ap points_of e ∙ points_pushed old p ∙ ap (λ l. points_of old ++ l) (sym f)

-- lists, one appended after another
pub append_in_turn : (p0 p1 p2 p3 p4 p5 a b c l h : List Point) → p0 ≡ [] → p1 ≡ p0 ++ a → p2 ≡ p1 ++ b → p3 ≡ p2 ++ c → p4 ≡ p3 ++ l → p5 ≡ p4 ++ h → p5 ≡ (a ++ (b ++ c)) ++ (l ++ h)
append_in_turn p0 p1 p2 p3 p4 p5 a b c l h e0 e1 e2 e3 e4 e5 = rw (e5, e4, e3, e2, e1, e0) (simp append_assoc refl)

-- ---- tests
passes : (b : Bool) → T b → b ≡ true
passes true h = refl
passes false h = elim h [ ]

lt_is : (a b : ℤ) → a <ℤ b → lt_z a b ≡ true
lt_is a b h = passes (lt_z a b) h.lt

-- ---- a crossing
pub crossing_is : (height : ℤ) (p q : Point3) (x y d : ℤ) → p.z <ℤ height → height <ℤ q.z
    → x ≡ p.x *ℤ (q.z -ℤ height) +ℤ q.x *ℤ (height -ℤ p.z) → y ≡ p.y *ℤ (q.z -ℤ height) +ℤ q.y *ℤ (height -ℤ p.z) → d ≡ q.z -ℤ p.z
    → crossing_up height p q ≡ record { x = x; y = y; d = d } ∷ []
crossing_is height p q x y d low high ex ey ed = rw (lt_is p.z height low, lt_is height q.z high, ex, ey, ed) refl
