use Rattle.std.specs.List.{AllWithin}
use Rattle.pair_constraints.specs.Laws.Parting.{IsShort}
use Rattle.pair_constraints.proofs.maximal.is_covered.Given as goal

abbrev pub invariant-loop-other : goal.invariant-loop-other
invariant-loop-other l = AllWithin (IsShort l.job l.contact) l.kept 0 l.other-index
