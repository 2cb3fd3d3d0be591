use Rattle.std.proofs.Common.{ℕ, ◌<◌, List, All, length, sym, subst, refl}
use Rattle.node_looks.proofs.CompletingLaws.{order_makes_plan, order_known, cycle_earns, cycle_known}
use Rattle.node_looks.proofs.ZeroLaws.{zero_acyclic}
use Rattle.node_looks.specs.Sites.{IsOnOrEarnedAt, plan_of_site}
use Rattle.seq_model.specs.Jobs.{scene_of_job}
use Rattle.seq_model.specs.Scenes.{Valid}
use Rattle.seq_model.specs.Trees.{IsCycle}
use Rattle.node_looks.proofs.completing.complete.Goals as goal

pub plan_at-requires-clause-known : goal.plan_at-requires-clause-known
plan_at-requires-clause-known c =
    let n = length c.args.site.now.job.now.objects in
    subst (All (λ o. o < n)) (sym c.order.view_is) (order_known c.args.graph.now.objects n _ c.in-Ok.order c.requires.held.objects c.in-Ok.ensures.order)

pub plan_at-requires-clause-valid : goal.plan_at-requires-clause-valid
plan_at-requires-clause-valid c =
    let site = c.args.site.now in
    subst (λ (os : List ℕ). Valid (scene_of_job site.job.now) site.extent (plan_of_site site os)) (sym c.order.view_is)
    (order_makes_plan site c.args.graph.now c.args.forced.now c.in-Ok.order c.requires.site c.requires.held c.requires.settled c.in-Ok.ensures.order)

pub cycle_look-requires-clause-known : goal.cycle_look-requires-clause-known
cycle_look-requires-clause-known c =
    subst (All (λ o. o < 16)) (sym c.cycle.view_is) (cycle_known c.args.site.now c.args.graph.now c.args.forced.now c.in-Err.cycle c.requires.held c.requires.each c.in-Err.ensures.cycle)

pub cycle_look-requires-clause-cycle : goal.cycle_look-requires-clause-cycle
cycle_look-requires-clause-cycle c =
    subst (IsCycle (IsOnOrEarnedAt c.args.site.now)) (sym c.cycle.view_is)
    (cycle_earns c.args.site.now c.args.graph.now c.args.forced.now c.in-Err.cycle c.requires.site c.requires.held c.requires.each c.in-Err.ensures.cycle)

pub returns-in-Err-clause-zero : goal.returns-in-Err-clause-zero
returns-in-Err-clause-zero c = λ z.
    absurd (zero_acyclic c.args.site.now c.args.graph.now c.args.forced.now z c.requires.held c.requires.each (c.in-Err.ensures.cycle_exactly.0 refl))
