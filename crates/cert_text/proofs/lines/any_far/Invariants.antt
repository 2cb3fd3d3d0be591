use Rattle.std.proofs.Common.{◌≡◌, drop}
use Rattle.std.specs.List.{list_any}
use Rattle.cert_text.specs.Lines.{is_far}
use Rattle.cert_text.proofs.lines.any_far.Given as goal

abbrev pub invariant-loop-n : goal.invariant-loop-n
invariant-loop-n l = list_any is_far (drop l.n-index l.numbers) ≡ list_any is_far l.numbers
