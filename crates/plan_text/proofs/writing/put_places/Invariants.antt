use Rattle.std.proofs.Common.{◌≡◌, ◌++◌, drop}
use Rattle.plan_text.specs.PlanText.{places_text}
use Rattle.plan_text.proofs.writing.put_places.Given as goal

abbrev pub invariant-loop-place : goal.invariant-loop-place
invariant-loop-place l = l.to.items ++ places_text (drop l.place-index l.places) ≡ l.initial.to.items ++ places_text l.places
