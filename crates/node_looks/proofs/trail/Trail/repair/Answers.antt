use Rattle.std.proofs.Common.{refl}
use Rattle.std.proofs.lemmas.Result.{IfOk-weaker}
use Rattle.node_looks.proofs.TrailLaws.{repaired_is, stands_rows, trail_repaired, zero_repaired}
use Rattle.node_looks.proofs.trail.Trail.repair.Goals as goal

pub returns-clause-at : goal.returns-clause-at
returns-clause-at c = record {
  trail = trail_repaired c.args.job.now c.args.self.now _ c.requires.trail c.repair.ensures.goes_on refl refl refl refl;
  extent = c.requires.extent;
  choices = c.requires.choices;
}

pub returns-clause-is : goal.returns-clause-is
returns-clause-is c =
    let t = c.args.self.now in
    IfOk-weaker c.repair.result _ _ (λ w r. repaired_is t.warm c.repair.new.self _ _ w c.requires.trail.vars (stands_rows c.args.job.now c.args.extent c.args.path.now t c.requires) r) c.repair.ensures.is

pub returns-clause-zero : goal.returns-clause-zero
returns-clause-zero c = λ unmoved meets.
    let t = c.args.self.now in
    zero_repaired c.repair.result t.warm _ _ c.requires.trail.vars (stands_rows c.args.job.now c.args.extent c.args.path.now t c.requires) (c.repair.ensures.zero unmoved) meets
