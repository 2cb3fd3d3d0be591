use Rattle.run_files.specs.Laws.Made.{made_from}
use Rattle.run_files.proofs.laws.a_job_is_made_from_its_files.Goals as goal

pub returns : goal.returns
returns c = λ d meshes job j. made_from d meshes job j
