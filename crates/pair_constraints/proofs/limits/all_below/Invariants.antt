use Rattle.std.proofs.Common.{◌≡◌, drop}
use Rattle.std.specs.List.{list_all}
use Rattle.pair_constraints.specs.Laws.Covering.{is_under}
use Rattle.pair_constraints.proofs.limits.all_below.Given as goal

abbrev pub invariant-loop-limit : goal.invariant-loop-limit
invariant-loop-limit l = record { same : list_all (is_under l.at) (drop l.limit-index l.limits) ≡ list_all (is_under l.at) l.limits }
