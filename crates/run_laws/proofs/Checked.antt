-- A text that claims something, read back by a check.
use Rattle.std.proofs.Common.{◌≡◌, ◌≤◌, ℕ, ◌-◌, ℤ, Bool, true, false, List, [], ◌∷◌, All, drop, nat_lt, Option, Some, None, refl, sym, ap, ◌∙◌, subst, arith}
use Rattle.std.proofs.lemmas.Bool.Decides.{nat_tests}
use Rattle.std.proofs.lemmas.List.Elements.{All-head, All-tail}
use Rattle.std.specs.List.{AllZip}
use Rattle.decision_text.specs.DecisionText.{IsTextOf, decision_text, excludes, outcome_text, statement_for, statement_of}
use Rattle.decision_text.specs.Laws.Spelled.{decision_stated, outcome_stated}
use Rattle.decision_text.specs.declared.statement.Statement.{Statement}
use Rattle.plate_shrink.specs.Outcomes.{ExcludesBelow}
use Rattle.plate_shrink.specs.declared.outcome.Outcome.TheVariants as Outcomes
use Rattle.refinement_loop.specs.Decisions.{IsRefutation}
use Rattle.refinement_loop.specs.declared.deciding.Decision.TheVariants.{Refuted}
use Rattle.run_files.specs.Files.{Inputs, IsPrinterFile, IsUsableMesh, NamedMesh, StatesPlan}
use Rattle.run_files.specs.Jobs.{IsJobOf}
use Rattle.run_files.specs.Plans.{IsBlockOf, reads_block}
use Rattle.run_files.specs.Words.{is_strict}
use Rattle.run_files.specs.declared.plans.GivenPlan.{GivenPlan}
use Rattle.run_files.specs.declared.words.Asked.{Asked}
use Rattle.run_files.specs.declared.words.Task.{Task}
use Rattle.run_files.specs.declared.words.Task.TheVariants as Tasks
use Rattle.run_laws.specs.Checking.{IsClaimed, IsSaved, check_of}
use Rattle.seq_io.specs.Files.{bytes_of}
use Rattle.seq_io.specs.declared.mem_file.MemFile.{MemFile}
use Rattle.seq_model.specs.Scenes.{Description}
use Rattle.seq_model.specs.declared.job.Job.{Job}
use Rattle.seq_model.specs.declared.tree.Tree.{Tree}
use Rattle.seq_run.specs.Arranged.{PassesCheck, PrintsLeast, PrintsNone}
use Rattle.seq_run.specs.Premises.{HasFaultlessPlan}
use Rattle.seq_run.specs.Printed.{Answers, Prints}
use Rattle.seq_run.specs.declared.status.Verdict.{Verdict}
use Rattle.seq_run.specs.declared.status.Verdict.TheVariants as Verdicts

-- ---- the text holds a plan file and a block that pass
record Claimed (inputs : Inputs) (text : List ℕ) : Type 0 where
  job : Job
  is_job : IsJobOf inputs.description inputs.meshes job
  stated : Statement
  excluded : ℕ
  passes : PassesCheck job stated excluded
  spelled : IsTextOf text stated
  behind : IsBlockOf (reads_block Tasks.Check stated.file) (drop spelled.place text) stated.block

grid_of : (inputs : Inputs) (job : Job) → IsJobOf inputs.description inputs.meshes job → job.printer.grid ≡ inputs.description.grid
grid_of inputs job j = ap (λ (d : Description). d.grid) j.printer.numbers

none_claimed : (inputs : Inputs) (budget : ℕ) (text : List ℕ) → PrintsNone inputs.description inputs.meshes budget text → Claimed inputs text
none_claimed inputs budget text p = record {
  job = p.job;
  is_job = p.is_job;
  stated = statement_of inputs.description.grid (Refuted p.tree);
  excluded = inputs.description.grid;
  passes = p.passes;
  spelled = spelled;
  behind = spelled.block;
}
  where
    here : IsRefutation p.job p.job.printer.grid budget p.tree
    here = subst (λ n. IsRefutation p.job n budget p.tree) (sym (grid_of inputs p.job p.is_job)) p.refuted

    spelled : IsTextOf text (statement_of inputs.description.grid (Refuted p.tree))
    spelled = subst (λ t. IsTextOf t (statement_of inputs.description.grid (Refuted p.tree))) (sym p.is)
        (subst (λ n. IsTextOf (decision_text n (Refuted p.tree)) (statement_of n (Refuted p.tree))) (grid_of inputs p.job p.is_job) (decision_stated p.job budget (Refuted p.tree) here))

from_two : (e : ℕ) → 2 ≤ e → nat_lt 1 e ≡ true
from_two e h = grind (arith, nat_tests)

least_claimed : (inputs : Inputs) (budget : ℕ) (text : List ℕ) → PrintsLeast inputs.description inputs.meshes budget text → Claimed inputs text
least_claimed inputs budget text p = record {
  job = p.job;
  is_job = p.is_job;
  stated = statement_for inputs.description.grid (Outcomes.Least p.plan p.extent p.tree);
  excluded = p.extent - 1;
  passes = p.passes;
  spelled = spelled;
  behind = behind p.tree p.outcome.below spelled;
}
  where
    spelled : IsTextOf text (statement_for inputs.description.grid (Outcomes.Least p.plan p.extent p.tree))
    spelled = subst (λ t. IsTextOf t (statement_for inputs.description.grid (Outcomes.Least p.plan p.extent p.tree))) (sym p.is)
        (subst (λ n. IsTextOf (outcome_text n (Outcomes.Least p.plan p.extent p.tree)) (statement_for n (Outcomes.Least p.plan p.extent p.tree))) (grid_of inputs p.job p.is_job)
        (outcome_stated p.job budget (Outcomes.Least p.plan p.extent p.tree) p.outcome))

    behind : (tree : Option Tree) → ExcludesBelow p.job p.extent budget tree → (t : IsTextOf text (statement_for inputs.description.grid (Outcomes.Least p.plan p.extent tree)))
        → IsBlockOf (nat_lt 1 p.extent) (drop t.place text) (statement_for inputs.description.grid (Outcomes.Least p.plan p.extent tree)).block
    behind None below t = subst (λ n. IsBlockOf (nat_lt 1 n) (drop t.place text) None) (sym below) tt
    behind (Some tree) below t = subst (λ due. IsBlockOf due (drop t.place text) (Some (excludes (p.extent - 1), tree))) (sym (from_two p.extent below.0)) t.block

claimed : (inputs : Inputs) (task : Task) (verdict : Verdict) (text : List ℕ) → IsClaimed task verdict → Prints task inputs verdict text → Claimed inputs text
claimed inputs (Tasks.Arrange strict budget) Verdicts.NoPlan text c p = none_claimed inputs budget text p
claimed inputs (Tasks.Least strict budget) Verdicts.Done text c p = least_claimed inputs budget text p
claimed inputs (Tasks.Least strict budget) Verdicts.NoPlan text c p = none_claimed inputs budget text p
claimed inputs (Tasks.Arrange strict budget) Verdicts.Done text c p = absurd c
claimed inputs (Tasks.Arrange strict budget) Verdicts.Open text c p = absurd c
claimed inputs (Tasks.Arrange strict budget) Verdicts.Undecided text c p = absurd c
claimed inputs (Tasks.Arrange strict budget) Verdicts.Fault text c p = absurd c
claimed inputs (Tasks.Least strict budget) Verdicts.Open text c p = absurd c
claimed inputs (Tasks.Least strict budget) Verdicts.Undecided text c p = absurd c
claimed inputs (Tasks.Least strict budget) Verdicts.Fault text c p = absurd c
claimed inputs Tasks.Audit verdict text c p = absurd c
claimed inputs Tasks.Check verdict text c p = absurd c
claimed inputs Tasks.Slices verdict text c p = absurd c

-- ---- the other files are as they were
module _ (before after : List MemFile) (strict : Bool) (step : ℤ) where
  same_mesh : (name : List ℕ) (m : NamedMesh) → bytes_of after name ≡ bytes_of before name → IsUsableMesh (Some before) strict step name m → IsUsableMesh (Some after) false step name m
  same_mesh name m same u = record {
    named = u.named;
    is = record { bytes = u.is.bytes; gives = u.is.gives ∙ sym same; short = u.is.short; is = u.is.is };
    passes = record { closed = λ asked. absurd (cc asked) };
    slices = u.slices;
  }

  same_meshes : (names : List (List ℕ)) (meshes : List NamedMesh) → All (λ m. bytes_of after m ≡ bytes_of before m) names → AllZip (IsUsableMesh (Some before) strict step) names meshes
      → AllZip (IsUsableMesh (Some after) false step) names meshes
  same_meshes [] [] same z = tt
  same_meshes [] (m ∷ ms) same z = absurd z
  same_meshes (n ∷ ns) [] same z = absurd z
  same_meshes (n ∷ ns) (m ∷ ms) same z =
      (same_mesh n m (All-head (λ k. bytes_of after k ≡ bytes_of before k) n ns same) z.0, same_meshes ns ms (All-tail (λ k. bytes_of after k ≡ bytes_of before k) n ns same) z.1)

pub checked : (before after : List MemFile) (a : Asked) (verdict : Verdict) (notes text name : List ℕ) → Answers (Some before) a verdict notes text → IsClaimed a.task verdict
    → IsSaved before after a text name → HasFaultlessPlan (Some after) (check_of a name)
checked before after a verdict notes text name x is saved = record {
  inputs = record { description = x.inputs.description; plan = Some given; meshes = x.inputs.meshes };
  usable = record {
    printer = printer;
    plan = plan;
    each = same_meshes before after (is_strict a.task) x.inputs.description.step a.meshes x.inputs.meshes saved.meshes x.usable.each;
  };
  faultless = (c.excluded, record { plan = given; named = refl; job = c.job; is_job = c.is_job; is = c.passes });
}
  where
    c : Claimed x.inputs text
    c = claimed x.inputs a.task verdict text is x.prints

    given : GivenPlan
    given = record { file = c.stated.file; block = c.stated.block }

    printer : IsPrinterFile (Some after) a.printer x.inputs.description
    printer = record { bytes = x.usable.printer.bytes; gives = x.usable.printer.gives ∙ sym saved.printer; short = x.usable.printer.short; is = x.usable.printer.is }

    plan : StatesPlan (Some after) Tasks.Check name given
    plan = record { bytes = text; gives = sym saved.stands; short = saved.short; is = record { place = c.spelled.place; is = c.spelled.plan; behind = c.behind } }
