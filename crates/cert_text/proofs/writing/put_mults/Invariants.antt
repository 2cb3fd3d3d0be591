use Rattle.std.proofs.Common.{◌≡◌, ◌++◌, drop, map}
use Rattle.cert_text.specs.TreeText.{pairs_text, pair_of}
use Rattle.cert_text.proofs.writing.put_mults.Given as goal

abbrev pub invariant-loop-mult : goal.invariant-loop-mult
invariant-loop-mult l = l.to.items ++ pairs_text (map pair_of (drop l.mult-index l.mults)) ≡ l.initial.to.items ++ pairs_text (map pair_of l.mults)
