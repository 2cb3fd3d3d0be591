use Rattle.std.proofs.Common.{◌≡◌, ℕ, sym, subst, arith, length}
use Rattle.node_looks.specs.Candidates.{IsNearest}
use Rattle.pair_constraints.specs.Keeping.{IsKept}
use Rattle.pair_constraints.specs.Maximal.{IsOf}
use Rattle.pair_constraints.specs.declared.kept.Kept.{Kept}
use Rattle.node_looks.proofs.hits.cheapest_hit.Goals as goal

pub with_contact-best-requires-clause-kept : goal.with_contact-best-requires-clause-kept
with_contact-best-requires-clause-kept c =
    subst (IsKept c.args.site.now.job.now) (sym c.index-pair-k.is) (c.requires.pair.each c.loop-k.k c.index-pair-k.result c.loop-k-test.true)

pub loop-k-init : goal.loop-k-init
loop-k-init c = λ m d below. absurd (omega (arith, below))

pub loop-k-preserved : goal.loop-k-preserved
loop-k-preserved c =
    c.with_contact-best.ensures c.args.i c.args.j c.loop-k.k c.args.pair.now c.loop-k-test.true (sym c.index-pair-k.is)
    (subst (λ (t : Kept). IsOf c.args.site.now.job.now c.args.i c.args.j t.contact) (sym c.index-pair-k.is) (c.requires.pair.of c.loop-k.k c.index-pair-k.result c.loop-k-test.true)) c.loop-k.invariant

pub returns : goal.returns
returns c =
    let all : c.loop-k.k ≡ length c.args.pair.now = omega arith in
    subst (λ (n : ℕ). IsNearest c.args.site.now c.args.i c.args.j n c.args.pair.now c.loop-k.best) all c.loop-k.invariant
