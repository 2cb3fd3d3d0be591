use Rattle.std.proofs.Common.{rules, FitsSigned, to_z-of_z}
use Rattle.std.specs.Int.{w128}
use Rattle.plan_audit.proofs.BoxLaws.{off_some, off_none}
use Rattle.seq_model.specs.Jobs.{scene_of_job}
use Rattle.plan_audit.proofs.places.first_off.Goals as goal

pub returns-then-is_off : goal.returns-then-is_off
returns-then-is_off c =
    let fits : FitsSigned w128 c.args.scale = search rules in
    off_some (scene_of_job c.args.job.now) c.args.extent c.args.scale _ c.args.places.now c.loop-k.k _ (to_z-of_z fits) c.loop-k.invariant c.loop-k-test.true (c.is_off.ensures.0 c.if-is_off.true)

pub returns : goal.returns
returns c =
    let fits : FitsSigned w128 c.args.scale = search rules in
    off_none (scene_of_job c.args.job.now) c.args.extent c.args.scale _ c.args.places.now c.loop-k.k (to_z-of_z fits) c.loop-k.invariant c.loop-k-test.false
