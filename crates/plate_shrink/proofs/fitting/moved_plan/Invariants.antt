use Rattle.std.proofs.Common.{◌≡◌, map, take}
use Rattle.plate_shrink.specs.Fitting.{place_by}
use Rattle.plate_shrink.proofs.fitting.moved_plan.Given as goal

abbrev pub invariant-loop-place : goal.invariant-loop-place
invariant-loop-place l = l.places ≡ map (place_by l.plan.scale l.shift) (take l.place-index l.plan.places)
