use Rattle.std.proofs.Common.{◌<◌, ◌^◌, take, unsigned_abs}
use Rattle.node_looks.specs.Scaled.{IsCommon}
use Rattle.node_looks.proofs.plans.common_divisor.Given as goal

abbrev pub invariant-loop-place : goal.invariant-loop-place
invariant-loop-place l = record {
  common : IsCommon l.divisor l.at.den (take l.place-index l.places);
  size : unsigned_abs l.divisor < 2 ^ 90;
}
