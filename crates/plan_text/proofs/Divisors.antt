-- The common divisor that the reading computes: it is 1 just where no number but 1 divides scale and numerators.
use Rattle.std.proofs.Common.{◌≡◌, ℕ, ℤ, unsigned_abs, List, [], ◌∷◌, All, ap, ◌∙◌, subst}
use Rattle.std.specs.Int.{IsGcd, ◌∣◌}
use Rattle.std.proofs.Math.Nat.{eq-one_of_dvd-one}
use Rattle.std.proofs.lemmas.Nat.Gcd.{same_from_IsGcd, dvd_refl, dvd_trans}
use Rattle.std.proofs.lemmas.List.Elements.{All-nil, All-cons, All-head, All-tail}
use Rattle.integer_laws.specs.Divisors.{IsGcdOf, gcd_of}
use Rattle.integer_laws.specs.Laws.Divisors.{gcd_of_is}
use Rattle.seq_model.specs.declared.plan.Place.{Place}
use Rattle.plan_text.specs.PlanText.{DividesPlace}
use Rattle.plan_text.specs.Reading.{divisor_with, divisor_of}

pub gcd_of_size : (a b g : ℤ) → IsGcdOf a b g → unsigned_abs g ≡ gcd_of (unsigned_abs a) (unsigned_abs b)
gcd_of_size a b g is = same_from_IsGcd (unsigned_abs a) (unsigned_abs b) (unsigned_abs g) _ is.is (gcd_of_is (unsigned_abs a) (unsigned_abs b))

pub divisor_with_size : (d e g : ℤ) (p : Place) → IsGcdOf d p.x e → IsGcdOf e p.y g → unsigned_abs g ≡ divisor_with (unsigned_abs d) p
divisor_with_size d e g p first second = gcd_of_size e p.y g second ∙ ap (λ n. gcd_of n (unsigned_abs p.y)) (gcd_of_size d p.x e first)

-- it divides what it was and the numerators, and what divides these divides it
record Common (d : ℕ) (p : Place) : Type 0 where
  before : divisor_with d p ∣ d
  place : DividesPlace (divisor_with d p) p
  greatest : (c : ℕ) → c ∣ d → DividesPlace c p → c ∣ divisor_with d p

common : (d : ℕ) (p : Place) → Common d p
common d p =
    let x = unsigned_abs p.x in
    let y = unsigned_abs p.y in
    let first : IsGcd d x (gcd_of d x) = gcd_of_is d x in
    let second : IsGcd (gcd_of d x) y (gcd_of (gcd_of d x) y) = gcd_of_is (gcd_of d x) y in
    record {
      before = dvd_trans (divisor_with d p) second.0 first.0;
      place = record { x = dvd_trans (divisor_with d p) second.0 first.1; y = second.1 };
      greatest = λ c h k. second.2 c (first.2 c h k.x) k.y;
    }

pub record DividesAll (c d : ℕ) (ps : List Place) : Type 0 where
  pub start : c ∣ d
  pub places : All (DividesPlace c) ps

through : (c : ℕ) (p : Place) (d : ℕ) → c ∣ divisor_with d p → DividesPlace c p
through c p d h =
    let k = common d p in
    record { x = dvd_trans c h k.place.x; y = dvd_trans c h k.place.y }

pub divides_all : (ps : List Place) (d : ℕ) → DividesAll (divisor_of d ps) d ps
divides_all [] d = record { start = dvd_refl d; places = All-nil (DividesPlace d) }
divides_all (p ∷ ps) d =
    let rest = divides_all ps (divisor_with d p) in
    let k = common d p in
    record { start = dvd_trans (divisor_of d (p ∷ ps)) rest.start k.before; places = All-cons (DividesPlace (divisor_of d (p ∷ ps))) p ps (through _ p d rest.start) rest.places }

pub divides_divisor : (ps : List Place) (c d : ℕ) → c ∣ d → All (DividesPlace c) ps → c ∣ divisor_of d ps
divides_divisor [] c d h all = h
divides_divisor (p ∷ ps) c d h all =
    divides_divisor ps c (divisor_with d p) ((common d p).greatest c h (All-head (DividesPlace c) p ps all)) (All-tail (DividesPlace c) p ps all)

pub no_divisor_from : (ps : List Place) (d : ℕ) → divisor_of d ps ≡ 1 → (c : ℕ) → c ∣ d → All (DividesPlace c) ps → c ≡ 1
no_divisor_from ps d e c h all = eq-one_of_dvd-one (subst (λ n. c ∣ n) e (divides_divisor ps c d h all))

pub no_divisor_to : (ps : List Place) (d : ℕ) → ((c : ℕ) → c ∣ d → All (DividesPlace c) ps → c ≡ 1) → divisor_of d ps ≡ 1
no_divisor_to ps d one = let all = divides_all ps d in one (divisor_of d ps) all.start all.places
