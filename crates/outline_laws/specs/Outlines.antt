-- What the calls on differences take.
--
--   AreOutlines A B F     two outlines with area and a third that isn't empty, all near 0
use Rattle.std.specs.Prelude.{◌≤◌, List, All, length}
use Rattle.seq_model.specs.declared.printer.Spot.{Spot}
use Rattle.outline_laws.specs.Corners.{AreCorners, IsNarrow}

pub record AreOutlines (A B F : List Spot) : Type 0 where
  pub a : AreCorners A
  pub b : AreCorners B
  pub f : AreCorners F
  pub a_area : 3 ≤ length A
  pub b_area : 3 ≤ length B
  pub f_some : 1 ≤ length F
  pub a_near : All IsNarrow A
  pub b_near : All IsNarrow B
  pub f_near : All IsNarrow F
