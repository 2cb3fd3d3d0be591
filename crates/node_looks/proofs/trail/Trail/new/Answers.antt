use Rattle.std.proofs.Common.{ℕ, [], All, refl, sym, ap, subst, ◌∙◌}
use Rattle.node_looks.proofs.TrailLaws.{are_rows, path_none, trail_new}
use Rattle.object_orders.specs.Orders.{Graph}
use Rattle.warm_rows.specs.Warming.{IsRowStep}
use Rattle.node_looks.proofs.trail.Trail.new.Goals as goal

pub system_rows-requires-clause-path : goal.system_rows-requires-clause-path
system_rows-requires-clause-path c = path_none c.args.job.now

pub returns-clause-at : goal.returns-clause-at
returns-clause-at c =
    trail_new c.args.job.now c.args.extent _ _ (rw c.in-Some.is at c.in_ok-warm.ensures) (c.deref.ensures.value ∙ c.in_ok-rows.ensures) c.new.ensures.items refl
    (c.new-2.ensures ∙ ap (λ (n : ℕ). g n) c.len.ensures) refl
  where
    g : ℕ → Graph
    g n = record { objects = n; held = [] }

pub returns-clause-unmoved : goal.returns-clause-unmoved
returns-clause-unmoved c =
    let has = rw c.in-Some.is at c.in_ok-warm.ensures in
    subst (All IsRowStep) (sym has.steps) (are_rows _)
