use Rattle.run_files.proofs.OneJob.{one_job}
use Rattle.run_files.proofs.laws.the_job_of_files_is_one.Goals as goal

pub returns : goal.returns
returns c = λ d meshes job other p q. one_job c.one_object.ensures d meshes job other p q
