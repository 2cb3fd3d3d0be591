use Rattle.std.proofs.Common.{sym, ◌∙◌, inl, inr}
use Rattle.node_looks.proofs.OrderLaws.{not_on, on_path}
use Rattle.node_looks.proofs.survey.pair_look.Goals as goal

pub ordered_pair-requires-clause-ordered : goal.ordered_pair-requires-clause-ordered
ordered_pair-requires-clause-ordered c = inl (on_path c.args.site.now.path.now c.args.i c.args.j (sym c.is_before.ensures ∙ c.if-is_before.true))

pub ordered_pair-requires-then-is_before-2-clause-ordered : goal.ordered_pair-requires-then-is_before-2-clause-ordered
ordered_pair-requires-then-is_before-2-clause-ordered c = inr (on_path c.args.site.now.path.now c.args.j c.args.i (sym c.is_before-2.ensures ∙ c.if-is_before-2.true))

pub unordered_pair-requires-clause-unordered : goal.unordered_pair-requires-clause-unordered
unordered_pair-requires-clause-unordered c = (
  not_on c.args.site.now.path.now c.args.i c.args.j (sym c.is_before.ensures ∙ c.if-is_before.false),
  not_on c.args.site.now.path.now c.args.j c.args.i (sym c.is_before-2.ensures ∙ c.if-is_before-2.false),
)
