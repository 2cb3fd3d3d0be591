use Rattle.plan_laws.specs.Laws.PathRows.{many_rows}
use Rattle.plan_laws.proofs.rows.a_system_has_a_row_for_each_bound_and_side.Goals as goal

pub returns : goal.returns
returns c = many_rows
