-- What a claim that passes shows.
--
--   judgement_by     a judgement of the block is one of the claim, where the tests before it hold
--   shown            a claim that passes shows what it says
use Rattle.std.proofs.Common.{◌≡◌, inl, inr, ℕ, zero, suc, ◌≤◌, true, Option, Some, None, refl, subst, ap, arith}
use Rattle.cert_text.specs.declared.block.Head.{Head}
use Rattle.claim_checker.specs.Claims.{CanBeChecked, HasPlanAsSaid, IsBlockJudgement, IsJudgement, Shows, excluded_by, excluded_in}
use Rattle.claim_checker.specs.declared.verdict.Judgement.{Judgement}
use Rattle.claim_checker.specs.declared.verdict.Judgement.TheVariants as Judgements
use Rattle.plan_text.specs.PlanText.{IsPlanFile, has_places}
use Rattle.plan_text.specs.declared.file.PlanFile.{PlanFile}
use Rattle.plan_text.specs.declared.file.State.{State}
use Rattle.plan_text.specs.declared.file.State.TheVariants as States
use Rattle.search_laws.specs.Laws.Refuting.{refuted_has_none_below}
use Rattle.seq_model.specs.Jobs.{scene_of_job}
use Rattle.seq_model.specs.Scenes.{Valid}
use Rattle.seq_model.specs.Trees.{TreeRefutes}
use Rattle.seq_model.specs.declared.job.Job.{Job}
use Rattle.seq_model.specs.declared.plan.Plan.{Plan}
use Rattle.seq_model.specs.declared.tree.Tree.{Tree}

pub judgement_by : (job : Job) (file : PlanFile) (block : Option (Head × Tree)) (e : ℕ) (judgement : Judgement) → CanBeChecked file.state
    → file.grid ≡ job.printer.grid → HasPlanAsSaid job file → e ≡ excluded_by file → IsBlockJudgement job e block judgement → IsJudgement job file block judgement
judgement_by job file block e judgement state grid plan same is = inr (state, inr (grid, inr (plan, subst (λ x. IsBlockJudgement job x block judgement) same is)))

-- some tree refutes the extent, where one is excluded
abbrev IsRefuted : Job → ℕ → Type 0
IsRefuted job zero = Unit {0}
IsRefuted job (suc e) = (tree : Tree) × TreeRefutes job (suc e) tree

number_of_pass : (x y : ℕ) → Judgements.Passes x ≡ Judgements.Passes y → x ≡ y
number_of_pass x y same = cc same

passed : (job : Job) (e : ℕ) (block : Option (Head × Tree)) (x : ℕ) → IsBlockJudgement job e block (Judgements.Passes x) → (x ≡ e) × IsRefuted job e
passed job zero block x is = (number_of_pass x 0 is, tt)
passed job (suc e) None x is = absurd is
passed job (suc e) (Some b) x (inl bad) = absurd (cc (bad.0))
passed job (suc e) (Some b) x (inr good) = (good.1.0, (b.1, good.1.1))

none_below : (job : Job) (e : ℕ) → e ≤ job.printer.grid → IsRefuted job e → (f : ℕ) (plan : Plan) → f ≤ e → Valid (scene_of_job job) f plan → ⊥
none_below job zero high is f plan below valid = omega (arith, below, valid.from_one)
none_below job (suc e) high is f plan below valid = refuted_has_none_below job (suc e) f is.0 plan is.1 below high valid

excluded_within : (state : State) (grid extent : ℕ) → (has_places state ≡ true → extent ≤ grid) → excluded_in state grid extent ≤ grid
excluded_within States.Found grid extent within = omega arith
excluded_within States.Least grid extent within = omega (arith, within refl)
excluded_within States.OpenBudget grid extent within = omega arith
excluded_within States.OpenWide grid extent within = omega arith
excluded_within States.NoPlan grid extent within = omega arith
excluded_within States.UndecidedBudget grid extent within = omega arith
excluded_within States.UndecidedWide grid extent within = omega arith

shown_by : (job : Job) (file : PlanFile) (x : ℕ) → IsPlanFile file → file.grid ≡ job.printer.grid → HasPlanAsSaid job file → x ≡ excluded_by file
    → IsRefuted job (excluded_by file) → Shows (scene_of_job job) file x
shown_by job file x spelt grid plan number refuted = record {
  number = number;
  none_below = below;
  plan = plan;
  least = λ same. record {
    plan = file.plan;
    valid = plan same;
    none = λ f l q valid.
        (let low = (plan same).from_one in
        let here = ap (λ s. excluded_in s file.grid file.extent) same in
        below f q (omega (arith, l, low, number, here)) valid);
  };
  none = λ same e q valid.
      (let here = ap (λ s. excluded_in s file.grid file.extent) same in
      below e q (omega (arith, number, here, grid, valid.to_grid)) valid);
}
  where
    within : excluded_by file ≤ job.printer.grid
    within = subst (λ n. excluded_by file ≤ n) grid (excluded_within file.state file.grid file.extent (λ has. (spelt.placed has).extent_high))

    below : (e : ℕ) (q : Plan) → e ≤ x → Valid (scene_of_job job) e q → ⊥
    below e q l valid = none_below job (excluded_by file) within refuted e q (omega (arith, l, number)) valid

shown_pass : (job : Job) (file : PlanFile) (block : Option (Head × Tree)) (x : ℕ) → IsPlanFile file → IsJudgement job file block (Judgements.Passes x) → Shows (scene_of_job job) file x
shown_pass job file block x spelt (inl bad) = absurd (cc (bad.0))
shown_pass job file block x spelt (inr (state, inl bad)) = absurd (cc (bad.0))
shown_pass job file block x spelt (inr (state, inr (grid, inl bad))) = absurd (cc (bad.0))
shown_pass job file block x spelt (inr (state, inr (grid, inr (plan, is)))) =
    let r = passed job (excluded_by file) block x is in
    shown_by job file x spelt grid plan r.0 r.1

pub shown : (job : Job) (file : PlanFile) (block : Option (Head × Tree)) (judgement : Judgement) (x : ℕ) → IsPlanFile file → IsJudgement job file block judgement → judgement ≡ Judgements.Passes x
    → Shows (scene_of_job job) file x
shown job file block judgement x spelt is same = shown_pass job file block x spelt (subst (IsJudgement job file block) same is)
