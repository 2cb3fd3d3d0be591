use Rattle.plan_laws.specs.Laws.SideRows.{beyond_by_row}
use Rattle.plan_laws.proofs.rows.a_side_row_is_met_beyond_the_side.Goals as goal

pub returns : goal.returns
returns c = λ job e d u contact dir is many. beyond_by_row job e d u contact dir is.i_in is.j_in is.apart many
