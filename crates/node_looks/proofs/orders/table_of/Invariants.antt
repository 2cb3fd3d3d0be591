use Rattle.std.proofs.Common.{take}
use Rattle.node_looks.specs.Held.{IsTable}
use Rattle.node_looks.proofs.orders.table_of.Given as goal

abbrev pub invariant-loop-choice : goal.invariant-loop-choice
invariant-loop-choice l = IsTable (take l.choice-index l.path) l.table
