use Rattle.std.proofs.Common.{◌≡◌, ◌*◌, ◌++◌, drop}
use Rattle.seq_model.specs.Systems.{bounds_of}
use Rattle.node_looks.proofs.system.bound_rows.Given as goal

abbrev pub invariant-loop-o : goal.invariant-loop-o
invariant-loop-o l = record { same : l.rows.items ++ bounds_of l.job l.extent (2 * l.o) (drop l.o l.job.objects) ≡ bounds_of l.job l.extent 0 l.job.objects }
