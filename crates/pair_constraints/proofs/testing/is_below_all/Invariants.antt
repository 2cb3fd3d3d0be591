use Rattle.std.proofs.Common.{◌≡◌, drop}
use Rattle.std.specs.List.{list_all}
use Rattle.pair_constraints.specs.Laws.Covering.{is_under}
use Rattle.pair_constraints.specs.Laws.Testing.{point_of}
use Rattle.pair_constraints.proofs.testing.is_below_all.Given as goal

abbrev pub invariant-loop-limit : goal.invariant-loop-limit
invariant-loop-limit l = record { same : list_all (is_under (point_of l.gap)) (drop l.limit-index l.limits) ≡ list_all (is_under (point_of l.gap)) l.limits }
