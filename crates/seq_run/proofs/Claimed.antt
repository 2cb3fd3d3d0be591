-- What a check makes of a plan that was read, and what it says of its files.
use Rattle.std.proofs.Common.{◌≡◌, ◌&&◌, ℕ, ◌-◌, Bool, true, false, List, drop, Option, Some, None, refl, sym, ◌∙◌, subst}
use Rattle.cert_text.specs.TreeText.{IsTreeText}
use Rattle.cert_text.specs.declared.block.Head.{Head}
use Rattle.cert_text.specs.declared.block.Kind.TheVariants.{Certificate}
use Rattle.check_text.specs.CheckText.{check_text}
use Rattle.claim_checker.specs.Claims.{HasBlock, IsJudgement, IsReadTree, Shows, excluded_in}
use Rattle.claim_checker.specs.Laws.Blocks.{has_block_read, has_no_block_due}
use Rattle.claim_checker.specs.declared.verdict.Judgement.{Judgement}
use Rattle.claim_checker.specs.declared.verdict.Judgement.TheVariants as Judgements
use Rattle.plan_text.specs.PlanText.{is_block_due}
use Rattle.plan_text.specs.declared.file.State.{State}
use Rattle.plan_text.specs.declared.file.State.TheVariants as States
use Rattle.run_files.specs.Files.{Inputs, NamedMesh}
use Rattle.run_files.specs.Jobs.{IsJobOf}
use Rattle.run_files.specs.Laws.Made.{least_of_files, same_plans}
use Rattle.run_files.specs.Plans.{IsBlockOf, IsStatedBy, can_be_checked}
use Rattle.run_files.specs.declared.plans.GivenPlan.{GivenPlan}
use Rattle.run_files.specs.declared.words.Task.TheVariants as Tasks
use Rattle.seq_model.specs.Jobs.{scene_of_job}
use Rattle.seq_model.specs.Scenes.{Description}
use Rattle.seq_model.specs.declared.job.Job.{Job}
use Rattle.seq_model.specs.declared.tree.Tree.{Tree}
use Rattle.seq_run.specs.Judged.{IsJudgedAs, scene_of}
use Rattle.seq_run.specs.Planning.{CanBeJudged, PrintsFor, verdict_of_judgement}

-- ---- the block that a claim asks for was read
is_read : (rest : List ℕ) (b : Head × Tree) → IsTreeText rest Certificate b.0 b.1 → IsReadTree b.1
is_read rest b t = ((1_000_000, t.whole), t.nodes)

block_read : (e : ℕ) (rest : List ℕ) (block : Option (Head × Tree)) → IsBlockOf true rest block → HasBlock e block
block_read e rest None is = absurd is
block_read e rest (Some b) is = has_block_read e b (is_read rest b is)

least_block : (grid extent : ℕ) (rest : List ℕ) (block : Option (Head × Tree)) (due : Bool) → is_block_due States.Least extent ≡ due → IsBlockOf due rest block → HasBlock (excluded_in States.Least grid extent) block
least_block grid extent rest block false e is = has_no_block_due States.Least grid extent block e
least_block grid extent rest block true e is = block_read (extent - 1) rest block is

block_for : (state : State) (grid extent : ℕ) (rest : List ℕ) (block : Option (Head × Tree)) → IsBlockOf (can_be_checked state && is_block_due state extent) rest block → HasBlock (excluded_in state grid extent) block
block_for States.Found grid extent rest block is = tt
block_for States.Least grid extent rest block is = least_block grid extent rest block (is_block_due States.Least extent) refl is
block_for States.OpenBudget grid extent rest block is = tt
block_for States.OpenWide grid extent rest block is = tt
block_for States.NoPlan grid extent rest block is = block_read grid rest block is
block_for States.UndecidedBudget grid extent rest block is = tt
block_for States.UndecidedWide grid extent rest block is = tt

pub can_be_judged : (bytes : List ℕ) (plan : GivenPlan) → IsStatedBy Tasks.Check bytes plan → CanBeJudged plan
can_be_judged bytes plan s = (s.is.spelled, block_for plan.file.state plan.file.grid plan.file.extent (drop s.place bytes) plan.block s.behind)

-- ---- what a judgement says of the files
abbrev pub IsOneJob : Type 0
IsOneJob = (d : Description) (meshes : List NamedMesh) (job other : Job) → IsJobOf d meshes job → IsJobOf d meshes other → other ≡ job

module _ (one : IsOneJob) (job : Job) (given : GivenPlan) (inputs : Inputs) (j : IsJobOf inputs.description inputs.meshes job) (named : inputs.plan ≡ Some given) where
  abbrev judged_as : (judgement : Judgement) → IsJudgement job given.file given.block judgement → IsJudgedAs inputs judgement
  judged_as judgement is = record { plan = given; named = named; job = job; is_job = j; is = is }

  only_one : (judgement : Judgement) → ((other : Judgement) → IsJudgement job given.file given.block other → judgement ≡ other) → (other : Judgement) → IsJudgedAs inputs other → other ≡ judgement
  only_one judgement only other o =
      let same : o.plan ≡ given = inside o.plan given (sym o.named ∙ named) in
      let here : IsJudgement job o.plan.file o.plan.block other = subst (λ (x : Job). IsJudgement x o.plan.file o.plan.block other) (one inputs.description inputs.meshes job o.job j o.is_job) o.is in
      sym (only other (subst (λ (p : GivenPlan). IsJudgement job p.file p.block other) same here))
    where
      inside : (p q : GivenPlan) → Some p ≡ Some q → p ≡ q
      inside p q e = cc

  shows_of_files : (x : ℕ) → Shows (scene_of_job job) given.file x → Shows (scene_of inputs) given.file x
  shows_of_files x s = record {
    number = s.number;
    none_below = λ e q low valid. s.none_below e q low ((same_plans inputs.description inputs.meshes job j e q).0 valid);
    plan = λ is. (same_plans inputs.description inputs.meshes job j given.file.extent given.file.plan).1 (s.plan is);
    least = λ is. least_of_files inputs.description inputs.meshes job j given.file.extent (s.least is);
    none = λ is e q valid. s.none is e q ((same_plans inputs.description inputs.meshes job j e q).0 valid);
  }

pub judgement_for : IsOneJob → (job : Job) (given : GivenPlan) (judgement : Judgement) (text : List ℕ) → IsJudgement job given.file given.block judgement
    → ((other : Judgement) → IsJudgement job given.file given.block other → judgement ≡ other) → ((x : ℕ) → judgement ≡ Judgements.Passes x → Shows (scene_of_job job) given.file x)
    → text ≡ check_text judgement → PrintsFor Tasks.Check job (Some given) (verdict_of_judgement judgement) text
judgement_for one job given (Judgements.Passes x) text is only sound written = record {
  each = λ inputs j named. record {
    excluded = x;
    judged = judged_as one job given inputs j named (Judgements.Passes x) is;
    only = only_one one job given inputs j named (Judgements.Passes x) only;
    shows = shows_of_files one job given inputs j named x (sound x refl);
    is = written;
  };
}
judgement_for one job given (Judgements.Fails fault) text is only sound written = record {
  each = λ inputs j named. record {
    fault = fault;
    judged = judged_as one job given inputs j named (Judgements.Fails fault) is;
    only = only_one one job given inputs j named (Judgements.Fails fault) only;
    is = written;
  };
}
