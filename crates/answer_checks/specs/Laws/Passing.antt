-- The files and blocks of what a search claims, judged.
--
--   refuted_passes   what is stated of a whole plate without a plan passes
--   least_passes     so does what is stated of a least extent
use Rattle.std.proofs.Common.{inr, ℕ, zero, suc, ◌-◌, ◌≤◌, [], ◌∷◌, Option, Some, None, refl, sym, subst, arith}
use Rattle.claim_checker.specs.Claims.{IsBlockJudgement, IsJudgement}
use Rattle.claim_checker.specs.declared.verdict.Judgement.TheVariants as Judgements
use Rattle.decision_text.specs.DecisionText.{block_below, block_for, block_of, excludes, file_for, file_of}
use Rattle.model_laws.specs.Laws.Reading.{reads_weaker}
use Rattle.plate_shrink.specs.Outcomes.{ExcludesBelow, IsOutcome}
use Rattle.plate_shrink.specs.declared.outcome.Outcome.TheVariants as Outcomes
use Rattle.refinement_loop.specs.Decisions.{IsRefutation}
use Rattle.refinement_loop.specs.declared.deciding.Decision.TheVariants as Decisions
use Rattle.seq_model.specs.Splits.{Grounded}
use Rattle.seq_model.specs.Trees.{IsClosed, IsSoundNode, TreeRefutes}
use Rattle.seq_model.specs.declared.job.Job.{Job}
use Rattle.seq_model.specs.declared.plan.Plan.{Plan}
use Rattle.seq_model.specs.declared.tree.Tree.{Tree}

refutes : (job : Job) (e budget : ℕ) (tree : Tree) → IsRefutation job e budget tree → TreeRefutes job e tree
refutes job e budget tree is =
    reads_weaker job (λ path node. (IsSoundNode job e path node × IsClosed node) × Grounded job e path node) (λ path node. IsSoundNode job e path node × IsClosed node)
    (λ path node good. good.0) tree.nodes ([] ∷ []) [] is.certificate

-- a block that excludes the extent that is due passes with it, where its tree refutes it
block_passes : (job : Job) (e : ℕ) (tree : Tree) → TreeRefutes job e tree → 1 ≤ e → IsBlockJudgement job e (Some (excludes e, tree)) (Judgements.Passes e)
block_passes job zero tree refuted one = absurd (omega (arith, one))
block_passes job (suc e) tree refuted one = inr (refl, (refl, refuted))

below_passes : (job : Job) (e budget : ℕ) (tree : Option Tree) → ExcludesBelow job e budget tree → IsBlockJudgement job (e - 1) (block_below e tree) (Judgements.Passes (e - 1))
below_passes job e budget None is = subst (λ n. IsBlockJudgement job (n - 1) (block_below n (none)) (Judgements.Passes (n - 1))) (sym is) refl
  where
    none : Option Tree
    none = None
below_passes job e budget (Some tree) is = block_passes job (e - 1) tree (refutes job (e - 1) budget tree is.1) (omega (arith, is.0))

pub refuted_passes : (job : Job) (budget : ℕ) (tree : Tree) → IsRefutation job job.printer.grid budget tree
    → IsJudgement job (file_of job.printer.grid (Decisions.Refuted tree)) (block_of job.printer.grid (Decisions.Refuted tree)) (Judgements.Passes job.printer.grid)
refuted_passes job budget tree is =
    inr (tt, inr (refl, inr ((λ least. absurd (cc least)), block_passes job job.printer.grid tree (refutes job job.printer.grid budget tree is) job.printer.ranged.grid_low)))

pub least_passes : (job : Job) (budget : ℕ) (plan : Plan) (e : ℕ) (tree : Option Tree) → IsOutcome job budget (Outcomes.Least plan e tree)
    → IsJudgement job (file_for job.printer.grid (Outcomes.Least plan e tree)) (block_for job.printer.grid (Outcomes.Least plan e tree)) (Judgements.Passes (e - 1))
least_passes job budget plan e tree is = inr (tt, inr (refl, inr ((λ least. is.found.valid), below_passes job e budget tree is.below)))
