use Rattle.std.proofs.Common.{◌≡◌, ◌++◌, drop, map, pos}
use Rattle.cert_text.specs.TreeText.{numbers_text}
use Rattle.cert_text.proofs.writing.put_counts.Given as goal

abbrev pub invariant-loop-n : goal.invariant-loop-n
invariant-loop-n l = l.to.items ++ numbers_text l.between (map pos (drop l.n-index l.counts)) ≡ l.initial.to.items ++ numbers_text l.between (map pos l.counts)
