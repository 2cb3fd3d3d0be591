-- The line that tells what a check of a claim found.
--
--     check passes 45
--     check fails node 3 sum
--
--   word_of rule           the word of a rule
--   node_line k rule       the line of a node that breaks a rule
--   check_text judgement   the line of a judgement
use Rattle.std.specs.Prelude.{ℕ, pos, List, ◌++◌, codes}
use Rattle.cert_checker.specs.declared.rules.Rule.{Rule}
use Rattle.cert_checker.specs.declared.rules.Rule.TheVariants as Rules
use Rattle.claim_checker.specs.declared.verdict.Judgement.{Judgement}
use Rattle.claim_checker.specs.declared.verdict.Judgement.TheVariants as Judgements
use Rattle.claim_checker.specs.declared.verdict.Fault.TheVariants as Faults
use Rattle.seq_num.specs.Spelling.{spelling}
use Rattle.text_lines.specs.Lines.{number_line}

unfoldable pub word_of : Rule → List ℕ
word_of Rules.Pending = codes "pending"
word_of Rules.Objects = codes "objects"
word_of Rules.Contact = codes "contact"
word_of Rules.Unordered = codes "unordered"
word_of Rules.Children = codes "children"
word_of Rules.Row = codes "row"
word_of Rules.Sum = codes "sum"
word_of Rules.Constant = codes "constant"
word_of Rules.Cycle = codes "cycle"

unfoldable pub node_line : ℕ → Rule → List ℕ
node_line k rule = codes "check fails node " ++ (spelling (pos k) ++ (codes " " ++ (word_of rule ++ codes "\n")))

abbrev pub check_text : Judgement → List ℕ
check_text (Judgements.Passes x) = number_line (codes "check passes ") (pos x)
check_text (Judgements.Fails Faults.State) = codes "check fails state\n"
check_text (Judgements.Fails Faults.Grid) = codes "check fails grid\n"
check_text (Judgements.Fails Faults.Plan) = codes "check fails plan\n"
check_text (Judgements.Fails Faults.Excludes) = codes "check fails excludes\n"
check_text (Judgements.Fails (Faults.Node k rule)) = node_line k rule
