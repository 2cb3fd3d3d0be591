use Rattle.model_laws.specs.Laws.Roots.{refutes_bound, refutes_cycle, refutes_order, refutes_side, pending_never, nothing_never}
use Rattle.model_laws.proofs.trees.a_tree_refutes_by_its_root.Goals as goal

pub returns-clause-bound : goal.returns-clause-bound
returns-clause-bound c = refutes_bound

pub returns-clause-cycle : goal.returns-clause-cycle
returns-clause-cycle c = refutes_cycle

pub returns-clause-order : goal.returns-clause-order
returns-clause-order c = refutes_order

pub returns-clause-side : goal.returns-clause-side
returns-clause-side c = refutes_side

pub returns-clause-pending : goal.returns-clause-pending
returns-clause-pending c = pending_never

pub returns-clause-none : goal.returns-clause-none
returns-clause-none c = nothing_never
