use Rattle.search_laws.specs.Laws.Opened.{opened_is_clear}
use Rattle.search_laws.proofs.sides.an_opened_contact_is_clear.Goals as goal

pub returns : goal.returns
returns c = opened_is_clear
