-- What a search of one extent may answer.
--
--   IsPrintable tree               a text may hold the tree: the grammar spells each node, and none has more than 1,000,000 splits
--                                  above it; and no bound takes a row 0 times
--   HasWideWalk job e path         the walk of the path's system ends wide
--   IsAllWide job e tree           so does that of each pending node
--   IsRefutation job e budget tree   the tree is a certificate that the extent has no plan, with less than a split's nodes above the budget
--   IsSpent job e budget tree      the tree has used the budget up, and could go on
--   IsWideEnd job e note tree      nothing is left in the tree but nodes whose walk ends wide, of which the note names one
--   IsDecision job e budget d      what each answer shows
--   IsZeroDecision job e d         a plan that has all objects at the zero point is answered
--   IsSpentDecision d              the budget is answered to be spent
--   IsSettled d                    a plan is answered, or a certificate
--   HasNoWideWalk job e            no walk of a path of the job ends wide
use Rattle.std.specs.Prelude.{◌≡◌, ℕ, ◌+◌, ◌<◌, List, [], All, length}
use Rattle.cert_text.specs.TreeText.{IsSpelt, IsSpeltNote}
use Rattle.node_looks.specs.Looks.{IsFound, IsWideAt, TakesRows, zero_point}
use Rattle.plan_laws.specs.Ordered.{plan_of}
use Rattle.refinement_loop.specs.declared.deciding.Decision.{Decision}
use Rattle.refinement_loop.specs.declared.deciding.Decision.TheVariants as Decisions
use Rattle.seq_model.specs.Budgets.{IsMostSides}
use Rattle.seq_model.specs.Splits.{IsCertificate, IsWideNote, OpenTree, SpentTree}
use Rattle.seq_model.specs.Trees.{IsPath, IsTree, IsWholeWithin}
use Rattle.seq_model.specs.declared.job.Job.{Job}
use Rattle.seq_model.specs.declared.tree.Choice.{Choice}
use Rattle.seq_model.specs.declared.tree.Node.TheVariants as Nodes
use Rattle.seq_model.specs.declared.tree.Tree.{Tree}
use Rattle.seq_model.specs.declared.tree.WideNote.{WideNote}
use Rattle.seq_limits.specs.declared.TheConstants.{MOST_NODES}

pub record IsPrintable (tree : Tree) : Type 0 where
  pub spelt : All IsSpelt tree.nodes
  pub whole : IsWholeWithin MOST_NODES tree
  pub takes : All TakesRows tree.nodes

abbrev pub HasWideWalk : Job → ℕ → List Choice → Type 0
HasWideWalk job e path = (basis : List ℕ) × (row : ℕ) × IsWideAt job e path basis row

abbrev pub IsAllWide : Job → ℕ → Tree → Type 0
IsAllWide job e tree = IsTree job (λ path node. node ≡ Nodes.Pending → HasWideWalk job e path) [] tree.nodes

pub record IsRefutation (job : Job) (e budget : ℕ) (tree : Tree) : Type 0 where
  pub certificate : IsCertificate job e tree
  pub few : (s : ℕ) → IsMostSides job s → length tree.nodes < budget + s
  pub printable : IsPrintable tree

pub record IsSpent (job : Job) (e budget : ℕ) (tree : Tree) : Type 0 where
  pub spent : SpentTree job e budget tree
  pub printable : IsPrintable tree

pub record IsWideEnd (job : Job) (e : ℕ) (note : WideNote) (tree : Tree) : Type 0 where
  pub unfinished : OpenTree job e tree
  pub noted : IsWideNote job e tree note
  pub all_wide : IsAllWide job e tree
  pub spelt : IsSpeltNote note
  pub printable : IsPrintable tree

abbrev pub IsDecision : Job → ℕ → ℕ → Decision → Type 0
IsDecision job e budget (Decisions.Found plan) = IsFound job e plan
IsDecision job e budget (Decisions.Refuted tree) = IsRefutation job e budget tree
IsDecision job e budget (Decisions.Spent tree) = IsSpent job e budget tree
IsDecision job e budget (Decisions.Wide note tree) = IsWideEnd job e note tree

abbrev pub IsZeroDecision : Job → ℕ → Decision → Type 0
IsZeroDecision job e (Decisions.Found plan) = (objects : List ℕ) × (plan ≡ plan_of job e (zero_point job) objects)
IsZeroDecision job e (Decisions.Refuted tree) = ⊥
IsZeroDecision job e (Decisions.Spent tree) = ⊥
IsZeroDecision job e (Decisions.Wide note tree) = ⊥

abbrev pub IsSpentDecision : Decision → Type 0
IsSpentDecision (Decisions.Found plan) = ⊥
IsSpentDecision (Decisions.Refuted tree) = ⊥
IsSpentDecision (Decisions.Spent tree) = Unit {0}
IsSpentDecision (Decisions.Wide note tree) = ⊥

abbrev pub IsSettled : Decision → Type 0
IsSettled (Decisions.Found plan) = Unit {0}
IsSettled (Decisions.Refuted tree) = Unit {0}
IsSettled (Decisions.Spent tree) = ⊥
IsSettled (Decisions.Wide note tree) = ⊥

abbrev pub HasNoWideWalk : Job → ℕ → Type 0
HasNoWideWalk job e = (path : List Choice) → IsPath job path → HasWideWalk job e path → ⊥
