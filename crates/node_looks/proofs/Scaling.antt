-- Plans over smaller scales.
use Rattle.std.proofs.Common.{◌≡◌, ℕ, ◌*◌, ◌^◌, ◌<◌, List, [], ◌∷◌, ◌++◌, All, map, refl, sym, ap, ap₂, subst, ◌∙◌, arith, ℤ, pos, ◌*ℤ◌, ◌≤ℤ◌, ◌<ℤ◌, unsigned_abs, int_div, mul-one, one-mul}
use Rattle.std.proofs.lemmas.Int.{ints, unsigned_abs-mul}
use Rattle.std.proofs.lemmas.List.Elements.{All-nil, All-cons, All-head, All-tail, All-push}
use Rattle.std.proofs.lemmas.Nat.Gcd.{dvd_trans, dvd_refl}
use Rattle.std.proofs.Math.Nat.{eq-one_of_dvd-one, dvd_of_mul-dvd-mul_left, mul-dvd-mul_left, dvd-mul_right}
use Rattle.std.specs.Int.{◌∣◌}
use Rattle.integer_laws.specs.Divisors.{IsGcdOf}
use Rattle.integer_laws.specs.Laws.Divisors.{exact_quotient, gcd_positive}
use Rattle.integer_laws.specs.Laws.Order.{cancel_lt, mul_le}
use Rattle.integer_laws.specs.Laws.Ring.{expand}
use Rattle.model_laws.specs.Laws.SamePoints.{valid_at_same_places}
use Rattle.model_laws.specs.SamePoints.{SamePlace, SamePlaces}
use Rattle.node_looks.specs.Looks.{IsFound}
use Rattle.node_looks.specs.Scaled.{place_over, plan_over, IsShared, IsCommon, IsReduced}
use Rattle.plan_text.specs.PlanText.{DividesPlace, HasNoDivisor, IsPlace}
use Rattle.seq_model.specs.Jobs.{scene_of_job}
use Rattle.seq_model.specs.Scenes.{Valid}
use Rattle.seq_model.specs.declared.job.Job.{Job}
use Rattle.seq_model.specs.declared.plan.Place.{Place}
use Rattle.seq_model.specs.declared.plan.Plan.{Plan}

-- ---- the common divisor
some_divisor : (a b g : ℤ) → pos 1 ≤ℤ a → IsGcdOf a b g → pos 1 ≤ℤ g
some_divisor a b g one is =
    let n = is.nonneg in
    let p = gcd_positive (unsigned_abs a) (unsigned_abs b) (unsigned_abs g) is.is (omega (arith, ints, one)) in
    omega (arith, ints, n, p)

pub positive : (d x y e g : ℤ) → pos 1 ≤ℤ d → IsGcdOf d x e → IsGcdOf e y g → pos 1 ≤ℤ g
positive d x y e g one first second = some_divisor e y g (some_divisor d x e one first) second

pub shared : (d e g : ℤ) (p : Place) → pos 1 ≤ℤ g → IsGcdOf d p.x e → IsGcdOf e p.y g → IsShared g d p
shared d e g p one first second = record {
  positive = one;
  before = dvd_trans (unsigned_abs g) second.is.0 first.is.0;
  place = record { x = dvd_trans (unsigned_abs g) second.is.0 first.is.1; y = second.is.1 };
  greatest = λ c h k. second.is.2 c (first.is.2 c h k.x) k.y;
}

pub common_none : (d : ℤ) → pos 1 ≤ℤ d → IsCommon d d []
common_none d one = record { positive = one; scale = dvd_refl (unsigned_abs d); places = All-nil (DividesPlace (unsigned_abs d)); greatest = λ c h k. h }

divides_less : (g d : ℕ) (places : List Place) → g ∣ d → All (DividesPlace d) places → All (DividesPlace g) places
divides_less g d [] h all = All-nil (DividesPlace g)
divides_less g d (p ∷ ps) h all =
    let first = All-head (DividesPlace d) p ps all in
    All-cons (DividesPlace g) p ps (record { x = dvd_trans g h first.x; y = dvd_trans g h first.y }) (divides_less g d ps h (All-tail (DividesPlace d) p ps all))

all_front : (c : ℕ) (ps : List Place) (p : Place) → All (DividesPlace c) (ps ++ p ∷ []) → All (DividesPlace c) ps × DividesPlace c p
all_front c [] p all = (All-nil (DividesPlace c), All-head (DividesPlace c) p [] all)
all_front c (q ∷ ps) p all =
    let rest = all_front c ps p (All-tail (DividesPlace c) q (ps ++ p ∷ []) all) in
    (All-cons (DividesPlace c) q ps (All-head (DividesPlace c) q (ps ++ p ∷ []) all) rest.0, rest.1)

pub common_more : (scale d g : ℤ) (ps : List Place) (p : Place) → IsCommon d scale ps → IsShared g d p → IsCommon g scale (ps ++ p ∷ [])
common_more scale d g ps p is shared = record {
  positive = shared.positive;
  scale = dvd_trans (unsigned_abs g) shared.before is.scale;
  places = All-push (DividesPlace (unsigned_abs g)) ps p (divides_less (unsigned_abs g) (unsigned_abs d) ps shared.before is.places) shared.place;
  greatest = λ c h all. let parts = all_front c ps p all in shared.greatest c (is.greatest c h parts.0) parts.1;
}

-- ---- the plan over the smaller scale
same_numbers : (g x q E D : ℤ) → x ≡ g *ℤ q → D ≡ g *ℤ E → x *ℤ E ≡ q *ℤ D
same_numbers g x q E D h k = ap (λ t. t *ℤ E) h ∙ around g q E ∙ sym (ap (λ t. q *ℤ t) k)
  where
    around : (g q E : ℤ) → (g *ℤ q) *ℤ E ≡ q *ℤ (g *ℤ E)
    around g q E = simp expand (omega (arith, ints))

same_place : (g D : ℤ) (p : Place) → unsigned_abs g ∣ unsigned_abs D → DividesPlace (unsigned_abs g) p → SamePlace D (int_div D g) p (place_over g p)
same_place g D p h divides = record {
  object = refl;
  point = record {
    x = same_numbers g p.x (int_div p.x g) (int_div D g) D (exact_quotient p.x g divides.x) (exact_quotient D g h);
    y = same_numbers g p.y (int_div p.y g) (int_div D g) D (exact_quotient p.y g divides.y) (exact_quotient D g h);
  };
}

same_places : (g D : ℤ) (ps : List Place) → unsigned_abs g ∣ unsigned_abs D → All (DividesPlace (unsigned_abs g)) ps → SamePlaces (record { scale = D; places = ps }) (plan_over g (record { scale = D; places = ps }))
same_places g D [] h all = tt
same_places g D (p ∷ ps) h all =
    (same_place g D p h (All-head (DividesPlace (unsigned_abs g)) p ps all), same_places g D ps h (All-tail (DividesPlace (unsigned_abs g)) p ps all))

pub same_over : (g D : ℤ) (ps : List Place) → IsCommon g D ps → SamePlaces (record { scale = D; places = ps }) (plan_over g (record { scale = D; places = ps }))
same_over g D ps is = same_places g D ps is.scale is.places

pub scale_over : (g D : ℤ) → pos 1 ≤ℤ g → unsigned_abs g ∣ unsigned_abs D → pos 1 ≤ℤ D → pos 1 ≤ℤ int_div D g
scale_over g D one h positive = by (int_div D g) (exact_quotient D g h)
  where
    none : (g : ℤ) → g *ℤ pos 0 ≡ pos 0
    none g = simp expand

    by : (q : ℤ) → D ≡ g *ℤ q → pos 1 ≤ℤ q
    by q e =
        let z = none g in
        let more : (g *ℤ pos 0) <ℤ (g *ℤ q) = omega (arith, ints, z, e, positive) in
        let r = cancel_lt g {a = pos 0} {b = q} (omega (arith, ints, one)) more in
        omega (arith, ints, r)

-- ---- without a common divisor
times_size : (g q x : ℤ) (c : ℕ) → x ≡ g *ℤ q → c ∣ unsigned_abs q → unsigned_abs g * c ∣ unsigned_abs x
times_size g q x c e h = subst (λ t. unsigned_abs g * c ∣ t) (sym (ap unsigned_abs e ∙ unsigned_abs-mul g q)) (mul-dvd-mul_left c (unsigned_abs g) h)

times_place : (g : ℤ) (p : Place) (c : ℕ) → DividesPlace (unsigned_abs g) p → DividesPlace c (place_over g p) → DividesPlace (unsigned_abs g * c) p
times_place g p c by over = record { x = times_size g (int_div p.x g) p.x c (exact_quotient p.x g by.x) over.x; y = times_size g (int_div p.y g) p.y c (exact_quotient p.y g by.y) over.y }

times_places : (g : ℤ) (ps : List Place) (c : ℕ) → All (DividesPlace (unsigned_abs g)) ps → All (DividesPlace c) (map (place_over g) ps) → All (DividesPlace (unsigned_abs g * c)) ps
times_places g [] c by over = All-nil (DividesPlace (unsigned_abs g * c))
times_places g (p ∷ ps) c by over =
    All-cons (DividesPlace (unsigned_abs g * c)) p ps
    (times_place g p c (All-head (DividesPlace (unsigned_abs g)) p ps by) (All-head (DividesPlace c) (place_over g p) (map (place_over g) ps) over))
    (times_places g ps c (All-tail (DividesPlace (unsigned_abs g)) p ps by) (All-tail (DividesPlace c) (place_over g p) (map (place_over g) ps) over))

pub none_over : (g D : ℤ) (ps : List Place) → IsCommon g D ps → HasNoDivisor (plan_over g (record { scale = D; places = ps }))
none_over g D ps is = record {
  one = λ c h all.
      let both = is.greatest (unsigned_abs g * c) (times_size g (int_div D g) D c (exact_quotient D g is.scale) h) (times_places g ps c is.places all) in
      eq-one_of_dvd-one (dvd_of_mul-dvd-mul_left c (size_positive g is.positive) (subst (λ t. unsigned_abs g * c ∣ t) (sym (mul-one (unsigned_abs g))) both));
}
  where
    size_positive : (g : ℤ) → pos 1 ≤ℤ g → 0 < unsigned_abs g
    size_positive g h = omega (arith, ints, h)

-- ---- over 1
over_one : (g : ℤ) → pos 1 ≤ℤ g → unsigned_abs g ∣ 1 → g ≡ pos 1
over_one g one h = by (eq-one_of_dvd-one h)
  where
    by : unsigned_abs g ≡ 1 → g ≡ pos 1
    by e = omega (arith, ints, e, one)

same_by_one : (x : ℤ) → int_div x (pos 1) ≡ x
same_by_one x =
    let e = exact_quotient x (pos 1) (subst (λ t. 1 ∣ t) (one-mul (unsigned_abs x)) (dvd-mul_right 1 (unsigned_abs x))) in
    omega (arith, ints, e)

places_by_one : (ps : List Place) → map (place_over (pos 1)) ps ≡ ps
places_by_one [] = refl
places_by_one (p ∷ ps) = ap₂ (λ q qs. q ∷ qs) (ap₂ (at p.object) (same_by_one p.x) (same_by_one p.y)) (places_by_one ps)
  where
    at : ℕ → ℤ → ℤ → Place
    at o x y = record { object = o; x = x; y = y }

pub plan_by_one : (g : ℤ) (ps : List Place) → IsCommon g (pos 1) ps → plan_over g (record { scale = pos 1; places = ps }) ≡ record { scale = pos 1; places = ps }
plan_by_one g ps is = ap (λ t. plan_over t (plan (pos 1) ps)) (over_one g is.positive is.scale) ∙ ap₂ plan (same_by_one (pos 1)) (places_by_one ps)
  where
    plan : ℤ → List Place → Plan
    plan s qs = record { scale = s; places = qs }

pub unscaled : (d : ℤ) (ps : List Place) (plan : Plan) → d ≡ pos 1 → IsReduced d ps plan → plan ≡ record { scale = d; places = ps }
unscaled d ps plan e = subst (λ t. IsReduced t ps plan → plan ≡ record { scale = t; places = ps }) (sym e) (λ r. r.is ∙ plan_by_one r.g ps r.common)

-- ---- what is found
quotient_below : (g q D m : ℤ) → pos 1 ≤ℤ g → pos 1 ≤ℤ q → D ≡ g *ℤ q → D <ℤ m → q <ℤ m
quotient_below g q D m one some e h = below (mul_le q {a = pos 1} {b = g} (weak some) one) (turn q) (around q g)
  where
    weak : pos 1 ≤ℤ q → pos 0 ≤ℤ q
    weak s = omega (arith, ints, s)

    turn : (q : ℤ) → q *ℤ pos 1 ≡ q
    turn q = simp expand

    around : (q g : ℤ) → q *ℤ g ≡ g *ℤ q
    around q g = simp expand

    below : (q *ℤ pos 1) ≤ℤ (q *ℤ g) → q *ℤ pos 1 ≡ q → q *ℤ g ≡ g *ℤ q → q <ℤ m
    below l t a = omega (arith, ints, l, t, a, e, h)

pub found_plan : (job : Job) (e : ℕ) (d : ℤ) (ps : List Place) (plan : Plan) → pos 1 ≤ℤ d → d <ℤ pos (2 ^ 62) → Valid (scene_of_job job) e (record { scale = d; places = ps }) → IsReduced d ps plan
    → All IsPlace plan.places → IsFound job e plan
found_plan job e d ps plan one small valid r each = record {
  valid = subst (Valid (scene_of_job job) e) (sym r.is) (valid_at_same_places (scene_of_job job) e (record { scale = d; places = ps }) over low (same_over r.g d ps r.common) valid);
  scale_low = subst (λ (p : Plan). pos 1 ≤ℤ p.scale) (sym r.is) low;
  scale_high = subst (λ (p : Plan). p.scale <ℤ pos (2 ^ 62)) (sym r.is) (quotient_below r.g (int_div d r.g) d (pos (2 ^ 62)) r.common.positive low (exact_quotient d r.g r.common.scale) small);
  places = each;
  reduced = subst HasNoDivisor (sym r.is) (none_over r.g d ps r.common);
}
  where
    over : Plan
    over = plan_over r.g (record { scale = d; places = ps })

    low : pos 1 ≤ℤ int_div d r.g
    low = scale_over r.g d r.common.positive r.common.scale one
