-- What a trial prints: the summary of made files, and then what `arrange` prints of them.
--
--   trial_budget                     the budget of a trial
--   made_inputs d ms                 what made files state: a description and meshes, and no plan
--   PrintsTrial objects seed v text  the text is that of a trial of so many objects and this seed, with this verdict
use Rattle.std.specs.Prelude.{◌≡◌, ◌++◌, ℕ, List, false, None}
use Rattle.run_files.specs.Files.{Inputs, NamedMesh}
use Rattle.run_files.specs.declared.words.Task.TheVariants.{Arrange}
use Rattle.seq_model.specs.Scenes.{Description}
use Rattle.seq_model.specs.declared.job.Job.{Job}
use Rattle.seq_run.specs.Printed.{Prints}
use Rattle.seq_run.specs.declared.status.Verdict.{Verdict}
use Rattle.trial_job.specs.Trials.{IsTrial, summary_text, zone_count}
use Rattle.seq_limits.specs.declared.TheConstants.{USUAL_NODES}

abbrev pub trial_budget : ℕ
trial_budget = USUAL_NODES

abbrev pub made_inputs : Description → List NamedMesh → Inputs
made_inputs d meshes = record { description = d; plan = None; meshes = meshes }

pub record PrintsTrial (objects seed : ℕ) (verdict : Verdict) (text : List ℕ) : Type 0 where
  pub job : Job
  pub facets : ℕ
  pub trial : IsTrial objects seed job facets
  pub arranged : List ℕ
  pub is : text ≡ summary_text objects seed facets (zone_count job.objects) ++ arranged
  pub prints : Prints (Arrange false trial_budget) (made_inputs trial.description trial.meshes) verdict arranged
