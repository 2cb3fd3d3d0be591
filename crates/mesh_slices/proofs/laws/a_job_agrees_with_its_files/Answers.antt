use Rattle.mesh_slices.specs.Laws.AgreeingJobs.{agree_with_job}
use Rattle.mesh_slices.proofs.laws.a_job_agrees_with_its_files.Goals as goal

pub returns : goal.returns
returns c = agree_with_job
