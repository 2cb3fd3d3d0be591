use Rattle.std.proofs.Common.{◌≡◌, take, map, unsigned_abs}
use Rattle.cert_text.proofs.lines.objects.Given as goal

abbrev pub invariant-loop-n : goal.invariant-loop-n
invariant-loop-n l = l.objects ≡ map unsigned_abs (take l.n-index l.numbers)
