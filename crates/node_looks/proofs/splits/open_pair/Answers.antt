use Rattle.std.proofs.Common.{◌<◌, ℕ, sym, subst, ◌∙◌, refl, arith, below_more}
use Rattle.node_looks.proofs.OrderLaws.{not_on, on_path}
use Rattle.node_looks.proofs.SplitLaws.{all_on_path, around_known, pair_earned}
use Rattle.plan_laws.specs.Looking.{OnPath}
use Rattle.node_looks.proofs.splits.open_pair.Goals as goal

pub is_before-requires-clause-j : goal.is_before-requires-clause-j
is_before-requires-clause-j c = subst (λ (t : ℕ). t < 16) (sym c.next_in-b.ensures) (around_known c.args.objects.now c.loop-k.k c.requires.known c.loop-k-test.true)

pub returns-then-not-is_before : goal.returns-then-not-is_before
returns-then-not-is_before c =
    let site = c.args.site.now in
    pair_earned site.job.now site.extent site.path.now c.args.objects.now c.loop-k.k _ c.next_in-b.result c.requires.cycle c.loop-k-test.true refl c.next_in-b.ensures
    (not_on site.path.now _ c.next_in-b.result (sym c.is_before.ensures ∙ c.if-not-is_before.true))

pub loop-k-preserved : goal.loop-k-preserved
loop-k-preserved c =
    let path = c.args.site.now.path.now in
    record {
      each = below_more _ _ c.loop-k.invariant.each (subst (OnPath path _) c.next_in-b.ensures (on_path path _ c.next_in-b.result (sym c.is_before.ensures ∙ c.if-not-is_before.false)));
    }

pub returns : goal.returns
returns c =
    let site = c.args.site.now in
    all_on_path site.job.now site.extent site.path.now c.args.objects.now c.requires.cycle (λ m l. c.loop-k.invariant.each m (omega arith))
