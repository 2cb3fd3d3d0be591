use Rattle.std.proofs.Common.{◌≡◌, drop}
use Rattle.std.specs.List.{list_any}
use Rattle.cert_text.specs.Lines.{is_below}
use Rattle.cert_text.proofs.lines.any_below.Given as goal

abbrev pub invariant-loop-n : goal.invariant-loop-n
invariant-loop-n l = list_any is_below (drop l.n-index l.numbers) ≡ list_any is_below l.numbers
