use Rattle.cert_checker.proofs.Tables.{beside_push}
use Rattle.cert_checker.proofs.kept.Table.push.Goals as goal

pub returns-clause-rows : goal.returns-clause-rows
returns-clause-rows c = λ job has is. beside_push job c.args.self.now.choices.items _ c.args.self.now.rows.items _ c.args.choice.now c.args.row.now c.in_ok-push.ensures.items c.in_ok-push-2.ensures.items has is
