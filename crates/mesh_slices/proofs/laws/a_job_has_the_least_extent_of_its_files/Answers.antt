use Rattle.mesh_slices.specs.Laws.AgreeingJobs.{same_least_of_job}
use Rattle.mesh_slices.proofs.laws.a_job_has_the_least_extent_of_its_files.Goals as goal

pub returns : goal.returns
returns c = same_least_of_job
