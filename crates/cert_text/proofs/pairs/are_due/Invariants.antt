use Rattle.std.proofs.Common.{◌≡◌, drop, negsuc}
use Rattle.cert_text.specs.Lines.{rises}
use Rattle.cert_text.proofs.pairs.are_due.Given as goal

abbrev pub invariant-loop-pair : goal.invariant-loop-pair
invariant-loop-pair l = rises l.last (drop l.pair-index l.pairs) ≡ rises (negsuc 0) l.pairs
