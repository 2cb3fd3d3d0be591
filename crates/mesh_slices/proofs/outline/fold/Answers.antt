use Rattle.mesh_slices.proofs.Outlines.{folded, folded_near}
use Rattle.mesh_slices.proofs.outline.fold.Goals as goal

pub returns-clause-stand : goal.returns-clause-stand
returns-clause-stand c =
    let h = c.in_ok-corners.ensures in
    folded _ _ _ _ _ _ c.as_slice.ensures.value h.members h.within c.in_ok-extend_from_slice.ensures.items c.clear.ensures.items c.as_slice-2.ensures.value

pub returns-clause-near : goal.returns-clause-near
returns-clause-near c =
    let h = c.in_ok-corners.ensures in
    folded_near _ _ _ _ _ _ c.as_slice.ensures.value c.requires h.members c.in_ok-extend_from_slice.ensures.items c.clear.ensures.items c.as_slice-2.ensures.value
