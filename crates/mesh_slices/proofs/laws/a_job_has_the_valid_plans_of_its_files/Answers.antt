use Rattle.mesh_slices.specs.Laws.AgreeingJobs.{same_plans_of_job}
use Rattle.mesh_slices.proofs.laws.a_job_has_the_valid_plans_of_its_files.Goals as goal

pub returns : goal.returns
returns c = same_plans_of_job
