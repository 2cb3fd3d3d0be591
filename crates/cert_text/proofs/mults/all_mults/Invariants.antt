use Rattle.std.proofs.Common.{◌≡◌, take, map}
use Rattle.cert_text.specs.Lines.{mult_of}
use Rattle.cert_text.proofs.mults.all_mults.Given as goal

abbrev pub invariant-loop-pair : goal.invariant-loop-pair
invariant-loop-pair l = l.mults.items ≡ map mult_of (take l.pair-index l.pairs)
