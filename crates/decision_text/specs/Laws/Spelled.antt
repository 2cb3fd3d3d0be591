-- What a search answers is spelt by the grammars of plan files and of tree blocks.
--
--   few_places                   a valid plan has as many places as the job has objects, so 16 at most
--   found_is_file, bare_is_file  the file of a plan that was found, and a file without places
--   stated                       the text of a file and of the block that is due is read back
--   decision_stated, outcome_stated   so is the text of a decision, and of a search for the least extent
use Rattle.std.proofs.Common.{◌≡◌, ◌≢◌, ℕ, ◌-◌, ◌<◌, ◌≤◌, List, [], ◌++◌, length, map, AllPairs, Bool, true, false, Option, Some, None, refl, sym, subst, ap, ◌∙◌, arith, append-nil, append_assoc, nat_lt}
use Rattle.std.proofs.Math.Seq.{take-append_seam, drop-append_seam}
use Rattle.std.proofs.lemmas.Bool.{eqb-true}
use Rattle.std.proofs.lemmas.Bool.Decides.{Decides-eqb, nat_tests}
use Rattle.std.proofs.lemmas.List.{get_or-map, length-map, length-append}
use Rattle.std.proofs.lemmas.List.Elements.{All-contains, All-map}
use Rattle.std.proofs.lemmas.Map.Made.{IsDistinct-from_AllPairs}
use Rattle.std.proofs.lemmas.Map.Steps.{length-le_from_distinct_below}
use Rattle.std.proofs.lemmas.Map.Views.{Contains-from_any}
use Rattle.cert_text.specs.TreeText.{IsSpeltHead, IsSpeltNote, IsTreeText, first_line, tree_text}
use Rattle.cert_text.specs.declared.block.Head.{Head}
use Rattle.cert_text.specs.declared.block.Kind.{Kind}
use Rattle.cert_text.specs.declared.block.Kind.TheVariants as Kinds
use Rattle.decision_text.specs.DecisionText.{IsTextOf, block_text, decision_text, excludes, outcome_text, placed, statement_for, statement_of, tried, tried_wide}
use Rattle.node_looks.specs.Looks.{IsFound}
use Rattle.plan_laws.specs.Laws.Audits.{no_repeat}
use Rattle.plan_text.specs.PlanText.{IsPlanFile, begins_place, has_places, is_block_due, plan_text}
use Rattle.plan_text.specs.Reading.{bare}
use Rattle.plan_text.specs.declared.file.PlanFile.{PlanFile}
use Rattle.plan_text.specs.declared.file.State.{State}
use Rattle.plan_text.specs.declared.file.State.TheVariants as States
use Rattle.plate_shrink.specs.Outcomes.{IsOutcome}
use Rattle.plate_shrink.specs.declared.outcome.Cause.TheVariants as Causes
use Rattle.plate_shrink.specs.declared.outcome.Outcome.{Outcome}
use Rattle.plate_shrink.specs.declared.outcome.Outcome.TheVariants as Outcomes
use Rattle.refinement_loop.specs.Decisions.{IsDecision, IsPrintable}
use Rattle.refinement_loop.specs.declared.deciding.Decision.{Decision}
use Rattle.refinement_loop.specs.declared.deciding.Decision.TheVariants as Decisions
use Rattle.seq_model.specs.Jobs.{scene_of_job, no_place}
use Rattle.seq_model.specs.Scenes.{Valid}
use Rattle.seq_model.specs.declared.job.Job.{Job}
use Rattle.seq_model.specs.declared.plan.Place.{Place}
use Rattle.seq_model.specs.declared.plan.Plan.{Plan}
use Rattle.seq_model.specs.declared.tree.Tree.{Tree}
use Rattle.seq_model.specs.declared.tree.WideNote.{WideNote}
use Rattle.text_lines.specs.Reading.{literal_at}
use Rattle.seq_limits.specs.declared.TheConstants.{MOST_OBJECTS}

-- ---- plans
pub few_places : (job : Job) (e : ℕ) (plan : Plan) → Valid (scene_of_job job) e plan → length plan.places ≤ MOST_OBJECTS
few_places job e plan valid = omega (arith, at_most, job.sound.few, length-map plan.places object_of)
  where
    object_of : Place → ℕ
    object_of p = p.object

    once : AllPairs (λ a b. a ≢ b) (map object_of plan.places)
    once i j d less within same =
        let long = length-map plan.places object_of in
        no_repeat job plan.places valid.known valid.once i j no_place less (omega (arith, within, long))
        (sym (get_or-map object_of plan.places i no_place d (omega (arith, less, within, long))) ∙ same ∙ get_or-map object_of plan.places j no_place d (omega (arith, within, long)))

    at_most : length (map object_of plan.places) ≤ length job.objects
    at_most =
        length-le_from_distinct_below (map object_of plan.places) (length job.objects) (IsDistinct-from_AllPairs Decides-eqb (map object_of plan.places) once)
        (λ q found. All-contains (λ k. k < length job.objects) (map object_of plan.places) q (All-map (λ k. k < length job.objects) object_of plan.places valid.known) (Contains-from_any eqb-true q (map object_of plan.places) found))

pub found_is_file : (job : Job) (e : ℕ) (plan : Plan) (state : State) → has_places state ≡ true → IsFound job e plan
    → IsPlanFile (placed state job.printer.grid e plan)
found_is_file job e plan state has found = record {
  grid_low = job.printer.ranged.grid_low;
  grid_high = job.printer.ranged.grid_high;
  placed = λ _. record {
    extent_low = found.valid.from_one;
    extent_high = found.valid.to_grid;
    scale_low = found.scale_low;
    scale_high = found.scale_high;
    few = few_places job e plan found.valid;
    places = found.places;
    reduced = found.reduced;
  };
  bare = λ none. absurd (cc (has, none));
}

pub bare_is_file : (job : Job) (state : State) → has_places state ≡ false → IsPlanFile (bare state job.printer.grid)
bare_is_file job state none = record {
  grid_low = job.printer.ranged.grid_low;
  grid_high = job.printer.ranged.grid_high;
  placed = λ has. absurd (cc (has, none));
  bare = λ _. record { extent = refl; scale = refl; places = refl };
}

-- ---- blocks
-- a block stands where one is due, and is spelt by the grammar
abbrev pub IsDueBlock : Bool → Option (Head × Tree) → Type 0
IsDueBlock due None = due ≡ false
IsDueBlock due (Some b) = (due ≡ true) × IsSpeltHead b.0 × IsPrintable b.1

pub spelt_block : (h : Head) (t : Tree) → IsSpeltHead h → IsPrintable t → IsTreeText (tree_text h t) h.kind h t
spelt_block h t head printable = record { kind_is = refl; head = head; nodes = printable.spelt; whole = printable.whole; text = refl }

-- no block begins with a place line
nothing_begins : begins_place [] ≡ false
unfolding literal_at
nothing_begins = refl

pub kind_begins : (kind : Kind) (rest : List ℕ) → begins_place (first_line kind ++ rest) ≡ false
unfolding literal_at
kind_begins Kinds.Certificate rest = refl
kind_begins Kinds.OpenBudget rest = refl
kind_begins Kinds.OpenWide rest = refl

pub tree_begins : (h : Head) (t : Tree) → begins_place (tree_text h t) ≡ false
tree_begins h t = ap begins_place (append_assoc (first_line h.kind) _ _) ∙ kind_begins h.kind _

pub stated : (f : PlanFile) (b : Option (Head × Tree)) → IsPlanFile f → IsDueBlock (is_block_due f.state f.extent) b
    → IsTextOf (plan_text f ++ block_text b) (record { file = f; block = b })
stated f None file none = record {
  place = length (plan_text f);
  plan = record {
    spelled = file;
    within = omega (arith, length-append (plan_text f) []);
    text = take-append_seam (plan_text f) [];
    ended = λ _. ap begins_place (drop-append_seam (plan_text f) []) ∙ nothing_begins;
    alone = λ _. ap length (sym (append-nil (plan_text f)));
  };
  block = drop-append_seam (plan_text f) [];
}
stated f (Some b) file due = record {
  place = length (plan_text f);
  plan = record {
    spelled = file;
    within = omega (arith, length-append (plan_text f) (tree_text b.0 b.1));
    text = take-append_seam (plan_text f) (tree_text b.0 b.1);
    ended = λ _. ap begins_place (drop-append_seam (plan_text f) (tree_text b.0 b.1)) ∙ tree_begins b.0 b.1;
    alone = λ no. absurd (cc (due.0, no));
  };
  block = subst (λ rest. IsTreeText rest b.0.kind b.0 b.1) (sym (drop-append_seam (plan_text f) (tree_text b.0 b.1))) (spelt_block b.0 b.1 due.1 due.2);
}

-- ---- what a search answers
excluding : (job : Job) (e : ℕ) → 1 ≤ e → e ≤ job.printer.grid → IsSpeltHead (excludes e)
excluding job e low high = record { extent_low = low; extent_high = omega (arith, high, job.printer.ranged.grid_high); wide = refl }

trying : (job : Job) (e : ℕ) → 1 ≤ e → e ≤ job.printer.grid → IsSpeltHead (tried e)
trying job e low high = record { extent_low = low; extent_high = omega (arith, high, job.printer.ranged.grid_high); wide = refl }

trying_wide : (job : Job) (e : ℕ) (note : WideNote) → 1 ≤ e → e ≤ job.printer.grid → IsSpeltNote note → IsSpeltHead (tried_wide e note)
trying_wide job e note low high spelt =
    record { extent_low = low; extent_high = omega (arith, high, job.printer.ranged.grid_high); wide = spelt }

from_two : (e : ℕ) → 2 ≤ e → nat_lt 1 e ≡ true
from_two e h = grind (arith, nat_tests)

pub decision_stated : (job : Job) (budget : ℕ) (d : Decision) → IsDecision job job.printer.grid budget d
    → IsTextOf (decision_text job.printer.grid d) (statement_of job.printer.grid d)
decision_stated job budget (Decisions.Found plan) is =
    stated (placed States.Found job.printer.grid job.printer.grid plan) None (found_is_file job job.printer.grid plan States.Found refl is) refl
decision_stated job budget (Decisions.Refuted tree) is =
    stated (bare States.NoPlan job.printer.grid) (Some (excludes job.printer.grid, tree)) (bare_is_file job States.NoPlan refl)
    (refl, excluding job job.printer.grid job.printer.ranged.grid_low (omega arith), is.printable)
decision_stated job budget (Decisions.Spent tree) is =
    stated (bare States.UndecidedBudget job.printer.grid) (Some (tried job.printer.grid, tree)) (bare_is_file job States.UndecidedBudget refl)
    (refl, trying job job.printer.grid job.printer.ranged.grid_low (omega arith), is.printable)
decision_stated job budget (Decisions.Wide note tree) is =
    stated (bare States.UndecidedWide job.printer.grid) (Some (tried_wide job.printer.grid note, tree)) (bare_is_file job States.UndecidedWide refl)
    (refl, trying_wide job job.printer.grid note job.printer.ranged.grid_low (omega arith) is.spelt, is.printable)

pub outcome_stated : (job : Job) (budget : ℕ) (outcome : Outcome) → IsOutcome job budget outcome
    → IsTextOf (outcome_text job.printer.grid outcome) (statement_for job.printer.grid outcome)
outcome_stated job budget (Outcomes.Least plan e None) is =
    stated (placed States.Least job.printer.grid e plan) None (found_is_file job e plan States.Least refl is.found) (ap (nat_lt 1) is.below)
outcome_stated job budget (Outcomes.Least plan e (Some tree)) is =
    stated (placed States.Least job.printer.grid e plan) (Some (excludes (e - 1), tree)) (found_is_file job e plan States.Least refl is.found)
    (from_two e is.below.0, excluding job (e - 1) (omega (arith, is.below.0)) (omega (arith, is.found.valid.to_grid)), is.below.1.printable)
outcome_stated job budget (Outcomes.NoPlan tree) is = decision_stated job budget (Decisions.Refuted tree) is
outcome_stated job budget (Outcomes.Unproved plan e (Causes.Budget tree)) is =
    stated (placed States.OpenBudget job.printer.grid e plan) (Some (tried (e - 1), tree)) (found_is_file job e plan States.OpenBudget refl is.found)
    (refl, trying job (e - 1) (omega (arith, is.from_two)) (omega (arith, is.found.valid.to_grid)), is.below.printable)
outcome_stated job budget (Outcomes.Unproved plan e (Causes.Wide note tree)) is =
    stated (placed States.OpenWide job.printer.grid e plan) (Some (tried_wide (e - 1) note, tree)) (found_is_file job e plan States.OpenWide refl is.found)
    (refl, trying_wide job (e - 1) note (omega (arith, is.from_two)) (omega (arith, is.found.valid.to_grid)) is.below.spelt, is.below.printable)
outcome_stated job budget (Outcomes.Undecided (Causes.Budget tree)) is = decision_stated job budget (Decisions.Spent tree) is
outcome_stated job budget (Outcomes.Undecided (Causes.Wide note tree)) is = decision_stated job budget (Decisions.Wide note tree) is
