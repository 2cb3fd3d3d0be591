use Rattle.std.proofs.Common.{◌≡◌, ◌≤◌, ◌-◌, [], length, All}
use Rattle.plan_text.specs.PlanText.{IsPlace}
use Rattle.plan_text.specs.Reading.{places_from}
use Rattle.plan_text.proofs.reading.places.Given as goal

abbrev pub invariant-loop-found : goal.invariant-loop-found
invariant-loop-found l = record {
  answer : places_from (16 - length l.found.items) l.found.items l.rest ≡ places_from 16 [] l.bytes;
  few : length l.found.items ≤ 16;
  small : All IsPlace l.found.items;
}

abbrev pub decreases-loop-found : goal.decreases-loop-found
decreases-loop-found l = length l.rest
