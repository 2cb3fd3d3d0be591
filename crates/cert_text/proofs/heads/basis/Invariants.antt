use Rattle.std.proofs.Common.{◌≡◌, ◌∷◌, take, map, unsigned_abs}
use Rattle.cert_text.proofs.heads.basis.Given as goal

abbrev pub invariant-loop-n : goal.invariant-loop-n
invariant-loop-n l = l.basis ≡ map unsigned_abs (l.first ∷ take l.n-index l.more)
