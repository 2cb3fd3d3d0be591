use Rattle.std.proofs.Common.{◌≡◌, ◌++◌, drop}
use Rattle.pair_constraints.specs.Laws.Nesting.{corners_of_parts}
use Rattle.pair_constraints.proofs.nesting.outlines_of_parts.Given as goal

abbrev pub invariant-loop-part : goal.invariant-loop-part
invariant-loop-part l = l.outlines.items ++ corners_of_parts (drop l.part-index l.parts) ≡ corners_of_parts l.parts
