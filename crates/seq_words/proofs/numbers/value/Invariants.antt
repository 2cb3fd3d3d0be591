use Rattle.std.proofs.Common.{◌≡◌, ◌^◌, ◌<◌, drop}
use Rattle.seq_words.specs.Numbers.{value_from}
use Rattle.seq_words.proofs.numbers.value.Given as goal

abbrev pub invariant-loop-digit : goal.invariant-loop-digit
invariant-loop-digit l = (value_from l.number (drop l.digit-index l.digits) ≡ value_from 0 l.fn.digits) × (l.number < 10 ^ l.digit-index)
