use Rattle.std.proofs.Common.{◌∙◌, All, subst, sym}
use Rattle.pair_constraints.specs.Laws.Nesting.{IsOutline, outlines_are_zones}
use Rattle.seq_model.specs.Soundness.{IsSoundZone}
use Rattle.pair_constraints.proofs.nesting.table_of_zones.Goals as goal

pub table-requires : goal.table-requires
table-requires c =
    subst (All IsOutline) (sym (c.as_slice-2.ensures.value ∙ c.in_ok-outlines.ensures))
    (outlines_are_zones c.as_slice.result.now (subst (All IsSoundZone) (sym c.as_slice.ensures) c.requires.zones.each))
