use Rattle.bound_sums.proofs.BoundLaws.{low_more, low_all}
use Rattle.std.proofs.Common.{refl}
use Rattle.bound_sums.proofs.breaches.all_low.Goals as goal

pub loop-sum-preserved : goal.loop-sum-preserved
loop-sum-preserved c = low_more _ _ _ c.loop-sum-test.true c.loop-sum.invariant (c.if-not-is_low.ensures.low refl)

pub returns-clause-low : goal.returns-clause-low
returns-clause-low c = λ _. low_all _ _ c.loop-sum-test.false c.loop-sum.invariant
