use Rattle.std.proofs.Common.{subst, sym}
use Rattle.mesh_slices.specs.Folding.{StandsFor}
use Rattle.mesh_slices.proofs.Outlines.{outline_is}
use Rattle.mesh_slices.proofs.outline.outline_of.Goals as goal

pub returns : goal.returns
returns c =
    let h = c.in_ok-hull.ensures in
    outline_is _ _ _ (subst (StandsFor _) (sym c.as_slice.ensures.value) c.in_ok-found.ensures.stand) h.corners h.members h.within
