use Rattle.plan_audit.specs.Firsts.{NumberBelow}
use Rattle.plan_audit.specs.Steps.{ZonesHit}
use Rattle.seq_model.specs.Jobs.{no_part}
use Rattle.std.specs.Prelude.{slice_index_or}
use Rattle.plan_audit.proofs.zones.some_part_hits.Given as goal

abbrev pub invariant-loop-k : goal.invariant-loop-k
invariant-loop-k l = NumberBelow (λ k. ZonesHit l.a (slice_index_or l.parts k no_part) l.b l.at) l.k
