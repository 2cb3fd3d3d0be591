use Rattle.printer_text.specs.Laws.Descriptions.{description-one, refusal-one, description-refusal}
use Rattle.printer_text.proofs.printer.one_description.Goals as goal

pub returns-clause-description : goal.returns-clause-description
returns-clause-description c = description-one

pub returns-clause-refusal : goal.returns-clause-refusal
returns-clause-refusal c = refusal-one

pub returns-clause-not_both : goal.returns-clause-not_both
returns-clause-not_both c = description-refusal
