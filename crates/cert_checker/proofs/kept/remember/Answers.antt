use Rattle.cert_checker.specs.Kept.{HasSidesAt}
use Rattle.cert_checker.specs.declared.kept.Met.{Met}
use Rattle.cert_checker.proofs.Tables.{remembered}
use Rattle.cert_checker.proofs.kept.remember.Goals as goal

pub returns : goal.returns
returns c = λ job choices all has. remembered _ (λ (m : Met). HasSidesAt job choices m.contact m.range) _ _ _ _ c.in_ok-insert.ensures.entries all has
