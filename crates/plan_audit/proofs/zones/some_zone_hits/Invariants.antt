use Rattle.plan_audit.specs.Firsts.{NumberBelow}
use Rattle.plan_audit.specs.Steps.{SomePartHits}
use Rattle.seq_model.specs.Jobs.{no_zone}
use Rattle.std.specs.Prelude.{slice_index_or}
use Rattle.plan_audit.proofs.zones.some_zone_hits.Given as goal

abbrev pub invariant-loop-z : goal.invariant-loop-z
invariant-loop-z l = NumberBelow (λ z. SomePartHits l.parts (slice_index_or l.zones z no_zone) l.b l.at) l.z
