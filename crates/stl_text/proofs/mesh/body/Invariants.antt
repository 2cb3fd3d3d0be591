use Rattle.std.proofs.Common.{◌-◌, length}
use Rattle.stl_text.proofs.Bodies.{SoFar}
use Rattle.stl_text.proofs.mesh.body.Given as goal

abbrev pub invariant-loop-found : goal.invariant-loop-found
invariant-loop-found l = SoFar l.bytes l.first l.at l.found

abbrev pub decreases-loop-found : goal.decreases-loop-found
decreases-loop-found l = length l.bytes - l.at
