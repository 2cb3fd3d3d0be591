use Rattle.std.proofs.Common.{ℕ, ◌≤◌, ◌<◌}
use Rattle.plate_shrink.specs.Edges.{AreNarrow}
use Rattle.plate_shrink.proofs.fitting.least_fit.Given as goal

abbrev pub invariant-loop-smaller : goal.invariant-loop-smaller
invariant-loop-smaller l = (f : ℕ) → 1 ≤ f → f < l.smaller → AreNarrow l.job f l.all → ⊥
