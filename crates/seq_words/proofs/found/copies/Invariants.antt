use Rattle.std.proofs.Common.{◌≡◌, ◌++◌, drop, map}
use Rattle.seq_words.proofs.found.copies.Given as goal

abbrev pub invariant-loop-text : goal.invariant-loop-text
invariant-loop-text l = l.copies ++ map (λ s. s.now) (drop l.text-index l.list) ≡ map (λ s. s.now) l.fn.list
