use Rattle.std.proofs.Common.{◌≡◌, ◌<◌, ◌^◌, drop, fold, map, unsigned_abs}
use Rattle.std.specs.Int.{int_max}
use Rattle.seq_model.specs.Sides.{along, greatest_along}
use Rattle.outline_edges.proofs.values.greatest_value.Given as goal

abbrev pub invariant-loop-corner : goal.invariant-loop-corner
invariant-loop-corner l = record {
  most : fold int_max l.most (map (along l.dir) (drop l.corner-index l.corners)) ≡ greatest_along l.dir l.corners;
  size : unsigned_abs l.most < 2 ^ 44;
}
