use Rattle.std.proofs.Common.{ℕ, ◌<◌, ◌++◌, drop, take, get_or}
use Rattle.plan_laws.specs.Looking.{OnPath}
use Rattle.node_looks.proofs.splits.open_pair.Given as goal

abbrev pub invariant-loop-k : goal.invariant-loop-k
invariant-loop-k l = record { each : (m : ℕ) → m < l.k → OnPath l.site.path.now (get_or l.objects m 0) (get_or (drop 1 l.objects ++ take 1 l.objects) m 0) }
