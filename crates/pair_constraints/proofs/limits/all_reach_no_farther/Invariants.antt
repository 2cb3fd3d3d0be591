use Rattle.std.proofs.Common.{◌≡◌, drop}
use Rattle.std.specs.List.{list_all}
use Rattle.seq_model.specs.Contacts.{difference}
use Rattle.pair_constraints.specs.Laws.Covering.{is_short_of}
use Rattle.pair_constraints.proofs.limits.all_reach_no_farther.Given as goal

abbrev pub invariant-loop-limit : goal.invariant-loop-limit
invariant-loop-limit l = record { same : list_all (is_short_of (difference l.a l.b l.f)) (drop l.limit-index l.limits) ≡ list_all (is_short_of (difference l.a l.b l.f)) l.limits }
