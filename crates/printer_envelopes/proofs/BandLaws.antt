-- Heights in bands: their bounds and their order, and when zones meet.
use Rattle.std.proofs.Common.{◌≡◌, ◌≤◌, ℕ, ◌+◌, ◌-◌, max, Bool, true, ◌&&◌, nat_le, Option, Some, None, MatchOption, refl, ℤ, pos, ◌*ℤ◌, ◌≤ℤ◌, ◌<ℤ◌, arith}
use Rattle.std.proofs.lemmas.Int.{ints}
use Rattle.std.proofs.lemmas.Bool.{and_parts}
use Rattle.std.proofs.lemmas.Bool.Decides.{nat_tests}
use Rattle.std.specs.Option.{ForSome}
use Rattle.integer_laws.specs.Laws.Order.{mul_le}
use Rattle.integer_laws.specs.Quotients.{floor, IsFloor, IsCeil}
use Rattle.integer_laws.specs.Laws.Quotients.{floor_is, floor_le, floor_le_ceil, least_quotient}
use Rattle.seq_model.specs.Contacts.{ZonesMeet, reaches_to}
use Rattle.seq_model.specs.declared.job.Zone.{Zone}
use Rattle.seq_model.specs.declared.printer.Part.{Part}
use Rattle.printer_envelopes.specs.Bands.{first_band, last_band, SomeBandsMeet}

-- a whole number of bands, from 0 to 1,000,000
pub record AreBands (q : ℤ) : Type 0 where
  pub low : pos 0 ≤ℤ q
  pub high : q ≤ℤ pos 1_000_000

pub floor_near : (a d q : ℤ) → IsFloor a d q → pos 10 ≤ℤ d → pos 0 ≤ℤ a → a ≤ℤ pos 10_000_000 → AreBands q
floor_near a d q f p low high =
    let least : (pos 1_000_000 *ℤ pos 10) ≤ℤ (pos 1_000_000 *ℤ d) = mul_le (pos 1_000_000) (omega (arith, ints)) p in
    let positive : pos 0 <ℤ d = omega (arith, ints) in
    record {
      low = least_quotient d (pos 0) q positive (omega (arith, ints, f.high));
      high = least_quotient d q (pos 1_000_000) positive (omega (arith, ints, f.low, least));
    }

pub ceil_near : (a d q : ℤ) → IsCeil a d q → pos 10 ≤ℤ d → pos 0 ≤ℤ a → a ≤ℤ pos 10_000_000 → AreBands q
ceil_near a d q f p low high =
    let least : (pos 1_000_000 *ℤ pos 10) ≤ℤ (pos 1_000_000 *ℤ d) = mul_le (pos 1_000_000) (omega (arith, ints)) p in
    let positive : pos 0 <ℤ d = omega (arith, ints) in
    record {
      low = least_quotient d (pos 0) q positive (omega (arith, ints, f.high));
      high = least_quotient d q (pos 1_000_000) positive (omega (arith, ints, f.low, least));
    }

pub in_order : (from to step : ℤ) → pos 10 ≤ℤ step → pos 0 ≤ℤ from → from ≤ℤ to → to ≤ℤ pos 10_000_000 → first_band from step ≤ last_band to step
in_order from to step p low order high =
    let positive : pos 0 <ℤ step = omega (arith, ints) in
    let grows = floor_le step {a = from} {b = to} positive order in
    let rounds = floor_le_ceil to step positive in
    let f = floor_near from step (floor from step) (floor_is from step positive) p low (omega (arith, ints)) in
    omega (arith, ints, grows, rounds, f.low)

-- of the earlier zone the lowest band that a band of the later one reaches, and of the later one the lowest that reaches it
some_bands : (earlier later : Zone) (part : Part) (o : Option ℕ) → part.hi ≡ o → earlier.first ≤ earlier.last → later.first ≤ later.last → ForSome o (λ hi. part.lo ≤ hi)
    → later.first + part.lo ≤ earlier.last → MatchOption o (Unit {0}) (λ hi. earlier.first ≤ later.last + hi) → SomeBandsMeet earlier part later
some_bands earlier later part None e a b order low high = record {
  b = later.first;
  c = max earlier.first (later.first + part.lo);
  b_low = omega arith;
  b_high = b;
  c_low = omega arith;
  c_high = omega arith;
  meets = record { from_low = omega arith; to_high = rw e tt };
}
some_bands earlier later part (Some hi) e a b order low high =
    let rises : part.lo ≤ hi = order hi refl in
    record {
      b = max later.first (max earlier.first (later.first + part.lo) - hi);
      c = max earlier.first (later.first + part.lo);
      b_low = omega arith;
      b_high = omega (arith, rises, high);
      c_low = omega arith;
      c_high = omega arith;
      meets = record { from_low = omega (arith, rises); to_high = rw e (omega (arith, rises)) };
    }

-- the two tests of zones that meet
record Tests (a b : ℕ) (q : Bool) : Type 0 where
  low : a ≤ b
  high : q ≡ true

tests : (a b : ℕ) (q : Bool) → (nat_le a b && q) ≡ true → Tests a b q
tests a b q h =
    let two = and_parts (nat_le a b) q h in
    let first = two.0 in
    record { low = grind (arith, nat_tests); high = two.1 }

reaches : (o : Option ℕ) (last first : ℕ) → reaches_to o last first ≡ true → MatchOption o (Unit {0}) (λ hi. first ≤ last + hi)
reaches None last first h = tt
reaches (Some hi) last first h = grind (arith, nat_tests)

pub where_zones_meet : (earlier later : Zone) (part : Part) → earlier.first ≤ earlier.last → later.first ≤ later.last → ForSome part.hi (λ hi. part.lo ≤ hi)
    → ZonesMeet earlier part later → SomeBandsMeet earlier part later
where_zones_meet earlier later part a b order meet =
    let t = tests (later.first + part.lo) earlier.last (reaches_to part.hi later.last earlier.first) meet in
    some_bands earlier later part part.hi refl a b order t.low (reaches part.hi later.last earlier.first t.high)
