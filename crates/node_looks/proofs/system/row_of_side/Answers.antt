use Rattle.std.proofs.Common.{ℤ, ◌<◌, ◌^◌, sym, subst, ◌∙◌, unsigned_abs}
use Rattle.std.proofs.lemmas.Result.{IfOk-weaker}
use Rattle.node_looks.proofs.RowLaws.{side_short}
use Rattle.node_looks.proofs.system.row_of_side.Goals as goal

pub side_row-row-requires-clause-dir : goal.side_row-row-requires-clause-dir
side_row-row-requires-clause-dir c = side_short c.args.job.now c.args.contact.now c.args.dir.now c.requires.contact c.requires.side

pub row_of_pair-requires-clause-x : goal.row_of_pair-requires-clause-x
row_of_pair-requires-clause-x c =
    subst (λ (t : ℤ). unsigned_abs t < 2 ^ 22) (sym c.side_row-row.ensures.x) (side_short c.args.job.now c.args.contact.now c.args.dir.now c.requires.contact c.requires.side).0

pub row_of_pair-requires-clause-y : goal.row_of_pair-requires-clause-y
row_of_pair-requires-clause-y c =
    subst (λ (t : ℤ). unsigned_abs t < 2 ^ 22) (sym c.side_row-row.ensures.y) (side_short c.args.job.now c.args.contact.now c.args.dir.now c.requires.contact c.requires.side).1

pub returns : goal.returns
returns c = λ e. IfOk-weaker c.row_of_pair.result _ _ (λ r h. h ∙ c.side_row-row.ensures.row e) c.row_of_pair.ensures
