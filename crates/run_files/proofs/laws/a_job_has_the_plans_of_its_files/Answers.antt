use Rattle.run_files.specs.Laws.Made.{same_plans}
use Rattle.run_files.proofs.laws.a_job_has_the_plans_of_its_files.Goals as goal

pub returns : goal.returns
returns c = λ d meshes job j e plan. same_plans d meshes job j e plan
