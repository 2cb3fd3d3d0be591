use Rattle.std.proofs.Common.{◌∙◌, All, subst, sym}
use Rattle.pair_constraints.specs.Laws.Nesting.{IsOutline, outlines_are_parts}
use Rattle.pair_constraints.proofs.nesting.table_of_parts.Goals as goal

pub table-requires : goal.table-requires
table-requires c = subst (All IsOutline) (sym (c.as_slice.ensures.value ∙ c.in_ok-outlines.ensures)) (outlines_are_parts c.args.parts.now c.requires)
