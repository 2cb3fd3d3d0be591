use Rattle.row_laws.specs.Laws.Wide.{wide_decided}
use Rattle.row_laws.proofs.a_form_decides_where_it_is_wide.Goals as goal

pub returns : goal.returns
returns c = wide_decided
