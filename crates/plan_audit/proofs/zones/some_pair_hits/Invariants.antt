use Rattle.plan_audit.specs.Firsts.{NumberBelow}
use Rattle.plan_audit.specs.Steps.{SomeZoneHits}
use Rattle.seq_model.specs.Jobs.{no_zone}
use Rattle.std.specs.Prelude.{slice_index_or}
use Rattle.plan_audit.proofs.zones.some_pair_hits.Given as goal

abbrev pub invariant-loop-z : goal.invariant-loop-z
invariant-loop-z l = NumberBelow (λ z. SomeZoneHits l.parts l.zones (slice_index_or l.later_zones z no_zone) l.at) l.z
