use Rattle.plan_laws.specs.Laws.Audits.{audited_is_valid, valid_is_audited}
use Rattle.plan_laws.proofs.audits.a_plan_is_valid_by_its_boxes_and_contacts.Goals as goal

pub returns : goal.returns
returns c = λ job e plan. (valid_is_audited job e plan, audited_is_valid job e plan)
