use Rattle.std.proofs.Common.{◌≡◌, ◌++◌, map, drop, All}
use Rattle.node_looks.specs.Sites.{place_of_site}
use Rattle.plan_text.specs.PlanText.{IsPlace}
use Rattle.node_looks.proofs.plans.places.Given as goal

abbrev pub invariant-loop-o : goal.invariant-loop-o
invariant-loop-o l = record {
  same : l.made.items ++ map (place_of_site l.site) (drop l.o-index l.order) ≡ map (place_of_site l.site) l.order;
  each : All IsPlace l.made.items;
}
