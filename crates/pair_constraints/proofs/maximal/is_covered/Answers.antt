use Rattle.std.proofs.Common.{◌≡◌, ◌<◌, arith, length, get_or, rules}
use Rattle.search_laws.specs.Covering.{Covers}
use Rattle.seq_model.specs.Contacts.{points_of}
use Rattle.pair_constraints.specs.Laws.Parting.{IsShort, kept_covers, within_more}
use Rattle.pair_constraints.proofs.maximal.is_covered.Goals as goal

pub returns-then-covers-clause-covered : goal.returns-then-covers-clause-covered
returns-then-covers-clause-covered c =
    let l : c.loop-other.other-index < length c.args.kept.now = omega arith in
    let at : c.other-item.result ≡ get_or c.args.kept.now c.loop-other.other-index c.other-item.result = search rules in
    λ t.
    kept_covers c.args.job.now c.args.kept.now c.args.contact.now c.loop-other.other-index c.other-item.result l at c.requires.kept (c.covers.ensures.0 c.if-covers.true)

pub loop-other-preserved : goal.loop-other-preserved
loop-other-preserved c =
    let l : c.loop-other.other-index < length c.args.kept.now = omega arith in
    let at : c.other-item.result ≡ get_or c.args.kept.now c.loop-other.other-index c.other-item.result = search rules in
    let free : Covers (points_of c.args.job.now c.other-item.result.contact) (points_of c.args.job.now c.args.contact.now) → ⊥ = λ m. (let t = c.covers.ensures.1 m in cc) in
    within_more (IsShort c.args.job.now c.args.contact.now) c.args.kept.now c.loop-other.other-index c.other-item.result l at c.loop-other.invariant free
