use Rattle.std.proofs.Common.{◌≡◌, ◌≤◌, ◌-◌, length}
use Rattle.std.specs.Option.{option_map}
use Rattle.cert_text.specs.Lines.{numbers_at}
use Rattle.cert_text.specs.Laws.Numbers.{behind}
use Rattle.cert_text.proofs.numbers.numbers.Given as goal

abbrev pub invariant-loop-found : goal.invariant-loop-found
invariant-loop-found l = record {
  answer : option_map (behind l.found.items) (numbers_at l.separator (l.room - length l.found.items) l.rest) ≡ numbers_at l.separator l.room l.fn.bytes;
  few : length l.found.items ≤ l.room;
}

abbrev pub decreases-loop-found : goal.decreases-loop-found
decreases-loop-found l = length l.rest
