use Rattle.std.proofs.Common.{sym, subst}
use Rattle.node_looks.proofs.HitLaws.{forced_back, forced_there, hit_some, hit_none}
use Rattle.node_looks.specs.Candidates.{IsPairLook}
use Rattle.node_looks.proofs.survey.unordered_pair.Goals as goal

pub returns-in-None-Some : goal.returns-in-None-Some
returns-in-None-Some c =
    let site = c.args.site.now in
    forced_there site c.args.i c.args.j c.requires.low c.requires.high c.requires.unordered
    (hit_none site c.args.i c.args.j c.hit_of-there.result c.hit_of-there.ensures c.in-None-Some.is-0)
    (hit_some site c.args.j c.args.i c.hit_of-back.result _ c.hit_of-back.ensures c.in-None-Some.is-1)

pub returns-in-Some-None : goal.returns-in-Some-None
returns-in-Some-None c =
    let site = c.args.site.now in
    forced_back site c.args.i c.args.j c.requires.low c.requires.high c.requires.unordered
    (hit_some site c.args.i c.args.j c.hit_of-there.result _ c.hit_of-there.ensures c.in-Some-None.is-0)
    (hit_none site c.args.j c.args.i c.hit_of-back.result c.hit_of-back.ensures c.in-Some-None.is-1)

pub returns-in-Some-Some : goal.returns-in-Some-Some
returns-in-Some-Some c =
    let site = c.args.site.now in
    subst (IsPairLook site c.args.i c.args.j) (sym c.order_of.ensures.1) (
      c.requires.low,
      c.requires.high,
      c.requires.unordered,
      hit_some site c.args.i c.args.j c.hit_of-there.result _ c.hit_of-there.ensures c.in-Some-Some.is-0,
      hit_some site c.args.j c.args.i c.hit_of-back.result _ c.hit_of-back.ensures c.in-Some-Some.is-1,
    )
