use Rattle.std.proofs.Common.{◌≡◌, drop}
use Rattle.std.specs.List.{list_any}
use Rattle.cert_text.specs.Lines.{is_big}
use Rattle.cert_text.proofs.mults.any_big.Given as goal

abbrev pub invariant-loop-pair : goal.invariant-loop-pair
invariant-loop-pair l = list_any is_big (drop l.pair-index l.pairs) ≡ list_any is_big l.pairs
