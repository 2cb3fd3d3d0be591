use Rattle.std.proofs.Common.{◌≡◌, ◌+◌, drop}
use Rattle.text_lines.specs.Reading.{digit_count}
use Rattle.text_lines.proofs.reading.digit_count.Given as goal

abbrev pub invariant-loop-count : goal.invariant-loop-count
invariant-loop-count l = l.count + digit_count (drop l.count l.bytes) ≡ digit_count l.bytes
