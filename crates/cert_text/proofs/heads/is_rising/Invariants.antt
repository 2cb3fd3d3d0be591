use Rattle.std.proofs.Common.{◌≡◌, drop}
use Rattle.cert_text.specs.Heads.{rising}
use Rattle.cert_text.proofs.heads.is_rising.Given as goal

abbrev pub invariant-loop-n : goal.invariant-loop-n
invariant-loop-n l = rising l.last (drop l.n-index l.more) ≡ rising l.first l.more
