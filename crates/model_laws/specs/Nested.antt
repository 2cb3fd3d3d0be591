-- Regions are nested.
--
--   LiesWithin inner outer   a region lies in another, edges included
use Rattle.std.proofs.Common.{◌+ℤ◌, ◌≤ℤ◌}
use Rattle.seq_model.specs.declared.plate.Region.{Region}

-- a region lies in another, edges included
pub record LiesWithin (inner outer : Region) : Type 0 where
  pub west : outer.low.x ≤ℤ inner.low.x
  pub east : (inner.low.x +ℤ inner.w) ≤ℤ (outer.low.x +ℤ outer.w)
  pub south : outer.low.y ≤ℤ inner.low.y
  pub north : (inner.low.y +ℤ inner.h) ≤ℤ (outer.low.y +ℤ outer.h)
