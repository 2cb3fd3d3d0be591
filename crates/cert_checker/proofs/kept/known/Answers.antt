use Rattle.cert_checker.proofs.Tables.{met_among}
use Rattle.cert_checker.proofs.kept.known.Goals as goal

pub returns : goal.returns
returns c = λ job choices all. met_among job choices _ _ _ c.in_ok-found.ensures.member (c.is_same.ensures.0 c.if-not-is_same.false) all
