use Rattle.std.proofs.Common.{◌≡◌, ◌<◌, ◌^◌, drop, unsigned_abs}
use Rattle.plan_text.specs.Reading.{divisor_of}
use Rattle.plan_text.proofs.reading.divisor_of.Given as goal

abbrev pub invariant-loop-place : goal.invariant-loop-place
invariant-loop-place l = record {
  same : divisor_of (unsigned_abs l.divisor) (drop l.place-index l.places) ≡ divisor_of l.fn.scale l.places;
  size : unsigned_abs l.divisor < 2 ^ 126;
}
