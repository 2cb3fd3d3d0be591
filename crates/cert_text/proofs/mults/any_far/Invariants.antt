use Rattle.std.proofs.Common.{◌≡◌, drop}
use Rattle.std.specs.List.{list_any}
use Rattle.cert_text.specs.Lines.{is_far_pair}
use Rattle.cert_text.proofs.mults.any_far.Given as goal

abbrev pub invariant-loop-pair : goal.invariant-loop-pair
invariant-loop-pair l = list_any is_far_pair (drop l.pair-index l.pairs) ≡ list_any is_far_pair l.pairs
