-- What a judgement of one node says, and a check of a tree.
--
--   IsOwnRule job e path node o   the first rule that the node breaks, or None where it breaks none but for its number of children
--   IsFineBy ..              the node breaks no rule, and its children's choices stand between these places
--   IsJudged ..              it is so, or this is the first rule that it breaks
--   IfFine judged P          P, where no rule is broken
--   IsChecked job e nodes c  the nodes refute the extent, or this is the first node that breaks a rule, and its first
use Rattle.std.specs.Prelude.{ℕ, ◌≤◌, List, [], length, Option, Some, None}
use Rattle.seq_model.specs.declared.job.Job.{Job}
use Rattle.seq_model.specs.declared.tree.Choice.{Choice}
use Rattle.seq_model.specs.declared.tree.Node.{Node}
use Rattle.cert_checker.specs.Rules.{Breaks, Good, IsFirstBroken}
use Rattle.cert_checker.specs.Kept.{AreChoices, range_of}
use Rattle.seq_model.specs.Trees.{Refutes}
use Rattle.cert_checker.specs.declared.judging.Judged.{Judged}
use Rattle.cert_checker.specs.declared.judging.Judged.TheVariants as judged
use Rattle.cert_checker.specs.declared.rules.Rule.{Rule}
use Rattle.cert_checker.specs.declared.rules.Checked.{Checked}
use Rattle.cert_checker.specs.declared.rules.Checked.TheVariants as checked

abbrev pub IsOwnRule : Job → ℕ → List Choice → Node → Option Rule → Type 0
IsOwnRule job e path node None = Good job e path node
IsOwnRule job e path node (Some rule) = Breaks job e path node rule

pub record IsFineBy (job : Job) (e : ℕ) (table path : List Choice) (node : Node) (from to : ℕ) : Type 0 where
  pub good : Good job e path node
  pub rising : from ≤ to
  pub within : to ≤ length table
  pub choices : AreChoices job node (range_of table from to)

abbrev pub IsJudged : Job → ℕ → List Choice → List Choice → Node → Judged → Type 0
IsJudged job e table path node (judged.Broken rule) = Breaks job e path node rule
IsJudged job e table path node (judged.Fine from to) = IsFineBy job e table path node from to

abbrev pub IfFine : Judged → Type 0 → Type 0
IfFine (judged.Broken rule) P = Unit {0}
IfFine (judged.Fine from to) P = P

abbrev pub IsChecked : Job → ℕ → List Node → Checked → Type 0
IsChecked job e nodes checked.Passes = Refutes job e [] nodes
IsChecked job e nodes (checked.Fails k rule) = IsFirstBroken job e nodes k rule
