use Rattle.std.proofs.Common.{rules, subst, FitsSigned, to_z-of_z}
use Rattle.std.specs.Int.{w128}
use Rattle.plan_audit.proofs.PairLaws.{first_hit_some, first_hit_none}
use Rattle.plan_audit.specs.Firsts.{IsFirst, Less, Sooner}
use Rattle.plan_audit.specs.Steps.{HitsAt}
use Rattle.seq_model.specs.Jobs.{scene_of_job}
use Rattle.plan_audit.proofs.hits.first_hit.Goals as goal

pub returns-in-Some : goal.returns-in-Some
returns-in-Some c =
    let fits : FitsSigned w128 c.args.scale = search rules in
    let scene = scene_of_job c.args.job.now in
    first_hit_some scene c.args.scale _ c.args.places.now (c.in-Some.earlier, (c.in-Some.later, (c.in-Some.b, (c.in-Some.c, c.in-Some.part)))) c.requires.one (to_z-of_z fits)
    (subst (IsFirst (HitsAt scene _ c.args.places.now) (Sooner (Sooner (Sooner (Sooner Less))))) c.in-Some.is c.first_numbers.ensures)

pub returns-in-None : goal.returns-in-None
returns-in-None c =
    let fits : FitsSigned w128 c.args.scale = search rules in
    let scene = scene_of_job c.args.job.now in
    first_hit_none scene c.args.scale _ c.args.places.now c.requires.one (to_z-of_z fits)
    (subst (IsFirst (HitsAt scene _ c.args.places.now) (Sooner (Sooner (Sooner (Sooner Less))))) c.in-None.is c.first_numbers.ensures)
