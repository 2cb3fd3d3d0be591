use Rattle.std.proofs.Common.{◌≡◌, ◌<◌, length}
use Rattle.bench_orders.proofs.added.Given as goal

abbrev pub invariant-loop : goal.invariant-loop
invariant-loop l = record { same : l.graph.objects ≡ 16; few : length l.graph.held < 256 }
