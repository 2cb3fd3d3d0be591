use Rattle.std.proofs.Common.{ℕ, ◌*◌, sym, subst, arith, pos}
use Rattle.std.specs.Prelude.{IfOk}
use Rattle.feasible_point.specs.Answering.{IsZeroPoint}
use Rattle.integer_laws.specs.Vectors.{zeros}
use Rattle.node_looks.proofs.LeafLaws.{zero_meets}
use Rattle.node_looks.proofs.RowLaws.{rows_of, rows_small, rows_few}
use Rattle.row_pivots.specs.Tables.{AreRowsOf}
use Rattle.seq_model.specs.Systems.{MeetsRows}
use Rattle.node_looks.proofs.looking.solve_path.Goals as goal

pub solve-requires-clause-rows : goal.solve-requires-clause-rows
solve-requires-clause-rows c =
    subst (λ (n : ℕ). AreRowsOf (2 * n) c.args.rows.now) (sym c.len.ensures)
    (rows_of c.args.asked.now.job.now c.args.asked.now.extent c.args.asked.now.path.now c.args.rows.now c.requires.rows c.requires.asked.to_grid c.requires.asked.is_path)

pub solve-requires-clause-small : goal.solve-requires-clause-small
solve-requires-clause-small c = rows_small c.args.asked.now.job.now c.args.asked.now.extent c.args.asked.now.path.now c.args.rows.now c.requires.rows c.requires.asked.to_grid c.requires.asked.is_path

pub solve-requires-clause-count : goal.solve-requires-clause-count
solve-requires-clause-count c =
    let r = rows_few c.args.asked.now.job.now c.args.asked.now.extent c.args.asked.now.path.now c.args.rows.now c.requires.rows c.requires.asked.short in
    omega (arith, r, c.len.ensures)

pub returns-clause-zero : goal.returns-clause-zero
returns-clause-zero c = λ q.
    let rows = c.args.rows.now in
    subst (λ (n : ℕ). IfOk c.solve.result (IsZeroPoint (2 * n))) c.len.ensures
    (c.solve.ensures.zero (subst (λ (n : ℕ). MeetsRows rows (pos 1) (zeros (2 * n))) (sym c.len.ensures)
    (zero_meets c.args.asked.now.job.now c.args.asked.now.extent c.args.asked.now.path.now rows c.requires.rows q.0 q.1)))
