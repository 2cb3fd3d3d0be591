use Rattle.std.proofs.Common.{◌≡◌, ◌≤◌, length, take}
use Rattle.node_looks.specs.Trails.{IsTrail}
use Rattle.node_looks.proofs.trail.Trail.back_to.Given as goal

abbrev pub invariant-loop-self : goal.invariant-loop-self
invariant-loop-self l = record {
  trail : IsTrail l.job l.self;
  extent : l.self.extent ≡ l.fn.self.extent;
  levels : l.self.levels.items ≡ take (length l.self.levels.items) l.fn.self.levels.items;
  within : l.n ≤ length l.self.levels.items;
}

abbrev pub decreases-loop-self : goal.decreases-loop-self
decreases-loop-self l = length l.self.levels.items
