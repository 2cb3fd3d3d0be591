use Rattle.plan_laws.specs.Laws.Looking.{cycle_earns_each, cycle_earns}
use Rattle.plan_laws.proofs.looks.a_cycle_closes_or_is_split.Goals as goal

pub returns : goal.returns
returns c = record { each = cycle_earns_each; some = cycle_earns }
