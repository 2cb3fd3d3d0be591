use Rattle.std.proofs.Common.{arith, refl, sym, subst}
use Rattle.plate_shrink.proofs.Halving.{found_step, failed_step, ends}
use Rattle.plate_shrink.specs.Outcomes.{IsOutcome}
use Rattle.plate_shrink.proofs.shrinking.halved.Goals as goal

pub loop-best-smaller-in-With : goal.loop-best-smaller-in-With
loop-best-smaller-in-With g c =
    (found_step c.args.job.now c.args.budget _ c.loop-best.best c.in-With.fitted c.loop-best.failed c.below-failed.result c.loop-best.invariant.0
    (omega (arith, c.loop-best-test.true, c.extent_of.ensures, c.extent_of-low.ensures)) (rw c.in-With.is at c.in_ok-fitted.ensures.is) c.below-failed.ensures).less

pub loop-best-smaller : goal.loop-best-smaller
loop-best-smaller g c =
    (failed_step c.args.job.now c.args.budget _ c.loop-best.best c.loop-best.failed _ c.in-Without.tried c.loop-best.invariant.0
    (omega (arith, c.loop-best-test.true, c.extent_of.ensures, c.extent_of-low.ensures)) (omega (arith, c.loop-best-test.true, c.extent_of.ensures, c.extent_of-low.ensures))
    (rw c.in-Without.is at c.in_ok-fitted.ensures.is) refl).less

pub returns-clause-is : goal.returns-clause-is
returns-clause-is g c =
    subst (IsOutcome c.args.job.now c.args.budget) (sym c.ended.ensures)
    (ends c.args.job.now c.args.budget c.loop-best.best c.loop-best.failed c.loop-best.invariant.0 (omega (arith, c.loop-best-test.false, c.extent_of.ensures)))
