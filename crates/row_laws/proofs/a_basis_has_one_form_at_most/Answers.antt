use Rattle.row_laws.specs.Laws.OneForm.{one_form}
use Rattle.row_laws.proofs.a_basis_has_one_form_at_most.Goals as goal

pub returns : goal.returns
returns c = one_form
