-- The text of a trial is its summary, and then what is arranged of its job.
use Rattle.std.proofs.Common.{◌≡◌, ◌++◌, ℕ, List, Option, None, false, refl}
use Rattle.run_files.specs.declared.plans.GivenPlan.{GivenPlan}
use Rattle.run_files.specs.declared.words.Task.TheVariants.{Arrange}
use Rattle.seq_model.specs.declared.job.Job.{Job}
use Rattle.seq_run.specs.Planning.{PrintsFor}
use Rattle.seq_run.specs.Tried.{PrintsTrial, made_inputs, trial_budget}
use Rattle.seq_run.specs.declared.status.Verdict.{Verdict}
use Rattle.trial_job.specs.Trials.{IsTrial, summary_text, zone_count}

abbrev no_plan : Option GivenPlan
no_plan = None

pub tried : (objects seed : ℕ) (job : Job) (facets : ℕ) (verdict : Verdict) (arranged text : List ℕ) → IsTrial objects seed job facets
    → ((plan : Option GivenPlan) → PrintsFor (Arrange false trial_budget) job plan verdict arranged)
    → text ≡ summary_text objects seed facets (zone_count job.objects) ++ arranged → PrintsTrial objects seed verdict text
tried objects seed job facets verdict arranged text t prints is = record {
  job = job;
  facets = facets;
  trial = t;
  arranged = arranged;
  is = is;
  prints = (prints no_plan).each (made_inputs t.description t.meshes) t.is_job refl;
}
