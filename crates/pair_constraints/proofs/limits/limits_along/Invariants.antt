use Rattle.std.proofs.Common.{◌≡◌, ◌++◌, All, map, drop}
use Rattle.seq_model.specs.Contacts.{difference}
use Rattle.pair_constraints.specs.Limits.{IsFit}
use Rattle.pair_constraints.specs.Laws.Covering.{limit_of}
use Rattle.pair_constraints.proofs.limits.limits_along.Given as goal

abbrev pub invariant-loop-dir : goal.invariant-loop-dir
invariant-loop-dir l = record {
  same : l.limits.items ++ map (limit_of (difference l.a l.b l.f)) (drop l.dir-index l.dirs) ≡ map (limit_of (difference l.a l.b l.f)) l.dirs;
  fit : All IsFit l.limits.items;
}
