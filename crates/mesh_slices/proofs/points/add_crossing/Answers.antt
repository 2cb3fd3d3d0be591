use Rattle.std.proofs.Common.{◌≡◌, [], ◌∷◌, subst}
use Rattle.std.proofs.Math.Facts.{to_z-of_z}
use Rattle.seq_model.specs.Bands.{crossing_up}
use Rattle.mesh_slices.specs.CornerPoints.{as_point}
use Rattle.mesh_slices.proofs.Pushes.{pushed}
use Rattle.mesh_slices.proofs.points.add_crossing.Goals as goal

pub returns-in_ok-push : goal.returns-in_ok-push
returns-in_ok-push c = pushed _ _ _ _ c.in_ok-push.ensures.ok (subst (λ h. crossing_up h c.args.from.now c.args.to.now ≡ as_point c.crossing_of.result ∷ []) (to_z-of_z c.ranges.height) c.crossing_of.ensures)
