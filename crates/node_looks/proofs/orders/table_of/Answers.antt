use Rattle.std.proofs.Common.{List, subst, sym}
use Rattle.std.proofs.lemmas.List.{take_more}
use Rattle.node_looks.specs.Held.{IsTable}
use Rattle.node_looks.proofs.OrderLaws.{table_none}
use Rattle.seq_model.specs.declared.tree.Choice.{Choice}
use Rattle.node_looks.proofs.orders.table_of.Goals as goal

pub loop-choice-init : goal.loop-choice-init
loop-choice-init c = table_none

pub loop-choice-preserved : goal.loop-choice-preserved
loop-choice-preserved c =
    subst (λ (p : List Choice). IsTable p c.note.new.table) (sym (take_more c.args.path.now c.loop-choice.choice-index _ c.loop-choice-test.true)) (c.note.ensures _ c.loop-choice.invariant)
