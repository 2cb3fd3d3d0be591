use Rattle.std.proofs.Common.{◌≡◌, ◌++◌, map, drop, All}
use Rattle.node_looks.specs.Scaled.{place_over}
use Rattle.plan_text.specs.PlanText.{IsPlace}
use Rattle.node_looks.proofs.plans.all_divided.Given as goal

abbrev pub invariant-loop-place : goal.invariant-loop-place
invariant-loop-place l = record {
  same : l.made.items ++ map (place_over l.divisor) (drop l.place-index l.places) ≡ map (place_over l.divisor) l.places;
  each : All IsPlace l.made.items;
}
