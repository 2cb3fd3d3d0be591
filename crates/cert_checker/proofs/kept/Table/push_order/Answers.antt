use Rattle.cert_checker.proofs.kept.Table.push_order.Goals as goal

pub returns-clause-rows : goal.returns-clause-rows
returns-clause-rows c = λ job has. c.in_ok-push-2.ensures.rows job (c.in_ok-push.ensures.rows job has tt) tt
