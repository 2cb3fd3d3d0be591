use Rattle.std.proofs.Common.{◌≡◌, ◌++◌, drop}
use Rattle.seq_model.specs.Systems.{system, side_rows}
use Rattle.node_looks.proofs.system.system_rows.Given as goal

abbrev pub invariant-loop-choice : goal.invariant-loop-choice
invariant-loop-choice l = record { same : l.rows.items ++ side_rows l.job l.extent (drop l.choice-index l.path) ≡ system l.job l.extent l.path }
