use Rattle.std.proofs.Common.{◌≤◌, ◌+◌, length, arith}
use Rattle.node_looks.proofs.OrderLaws.{holds_past}
use Rattle.node_looks.proofs.SurveyLaws.{next_object}
use Rattle.node_looks.proofs.orders.hold_all.Goals as goal

pub returns-clause-held : goal.returns-clause-held
returns-clause-held c =
    let site = c.args.site.now in
    let i = c.args.i in
    let n = length site.job.now.objects in
    let all : n ≤ c.loop-j.j = omega arith in
    let few = site.job.now.sound.few in
    holds_past site.path.now n i c.loop-j.j (i + 1) 0 c.loop-j.graph c.loop-j.invariant (omega (arith, few)) (λ a b p q apart before on. next_object i c.loop-j.j n a b all q before)
