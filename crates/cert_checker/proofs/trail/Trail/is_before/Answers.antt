use Rattle.std.proofs.Math.Path.{subst₂}
use Rattle.std.proofs.Common.{sym}
use Rattle.cert_checker.specs.Trails.{IsStamped}
use Rattle.cert_checker.proofs.trail.Trail.is_before.Goals as goal

pub is_on-requires-clause-stamped : goal.is_on-requires-clause-stamped
is_on-requires-clause-stamped c = subst₂ IsStamped (sym c.as_slice.ensures.value) (sym c.as_slice-2.ensures.value) c.requires.stamped
