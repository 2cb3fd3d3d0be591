use Rattle.std.proofs.Common.{◌≡◌, suc, ◌+◌, ◌-◌, ap, ◌∙◌, arith}
use Rattle.seq_trial.specs.Towers.{narrowed}
use Rattle.seq_trial.proofs.Steps.{one_layer, one_draw}
use Rattle.seq_trial.proofs.tower.put_higher.Goals as goal

pub loop-k-preserved : goal.loop-k-preserved
loop-k-preserved c =
    let i = c.loop-k.invariant in
    let left : c.args.higher - c.loop-k.k ≡ suc (c.args.higher - (c.loop-k.k + 1)) = omega (arith, c.loop-k-test.true) in (
      omega (arith, c.below.ensures.small),
      c.narrowed-x.ensures.fits,
      one_layer _ _ _ _ _ _ _ _ _ _ _ _ left (omega arith) (c.narrowed-x.ensures.value ∙ ap (narrowed c.args.size c.loop-k.x) c.below.ensures.value) c.below.ensures.state c.in_ok-put_layer.ensures i.2,
      one_draw _ _ _ _ _ left c.below.ensures.state i.3,
    )
