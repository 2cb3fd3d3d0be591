use Rattle.answer_laws.specs.Laws.OfFiles.{no_plan_of_files, none_of_files}
use Rattle.answer_laws.proofs.a_refuted_job_has_no_plan_of_its_files.Goals as goal

pub returns : goal.returns
returns c = record { below = no_plan_of_files; anywhere = none_of_files }
