use Rattle.std.proofs.Common.{get_or}
use Rattle.std.proofs.lemmas.List.{get_or_default}
use Rattle.node_looks.proofs.RowLaws.{side_at, sides_more}
use Rattle.seq_model.specs.declared.tree.Choice.{Choice}
use Rattle.seq_model.specs.declared.tree.Choice.TheVariants as Choices
use Rattle.node_looks.proofs.system.system_rows.Goals as goal

pub push_side-requires : goal.push_side-requires
push_side-requires c =
    let k = c.loop-choice.choice-index in
    let x : Choice = get_or c.args.path.now k (Choices.Before 0 0) in
    side_at c.args.job.now c.args.path.now k x c.requires.path c.loop-choice-test.true (get_or_default c.args.path.now k x (Choices.Before 0 0) c.loop-choice-test.true)

pub loop-choice-preserved : goal.loop-choice-preserved
loop-choice-preserved c =
    let k = c.loop-choice.choice-index in
    let x : Choice = get_or c.args.path.now k (Choices.Before 0 0) in
    record {
      same = sides_more c.args.job.now c.args.extent k c.args.path.now c.loop-choice.rows.items c.push_side.new.rows.items _ x c.loop-choice-test.true
          (get_or_default c.args.path.now k x (Choices.Before 0 0) c.loop-choice-test.true) (c.in_ok-push_side.ensures c.args.extent) c.loop-choice.invariant.same;
    }
