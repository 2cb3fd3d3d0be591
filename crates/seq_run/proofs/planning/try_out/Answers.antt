use Rattle.std.proofs.Common.{rules, ◌≡◌, ◌++◌, List, ℕ}
use Rattle.trial_job.specs.Trials.{summary_text, zone_count}
use Rattle.seq_run.proofs.Trying.{tried}
use Rattle.seq_run.proofs.planning.try_out.Goals as goal

pub returns : goal.returns
returns c =
    let trial = c.in_ok-trial.trial in
    let arranged = c.in_ok-arranged.arranged in
    let text : List ℕ = c.from_vec.result in
    let is : text ≡ summary_text c.args.objects c.args.seed trial.facets (zone_count trial.job.objects) ++ arranged.text = search rules in
    tried c.args.objects c.args.seed trial.job trial.facets arranged.verdict arranged.text text c.in_ok-trial.ensures c.in_ok-arranged.ensures is
