use Rattle.std.proofs.Common.{◌≡◌, ◌++◌, map, drop}
use Rattle.node_looks.specs.Candidates.{choices_of}
use Rattle.pair_constraints.specs.declared.limits.Limit.{Limit}
use Rattle.seq_model.specs.declared.tree.Choice.TheVariants as Choices
use Rattle.node_looks.proofs.splits.side_choices.Given as goal

abbrev pub invariant-loop-limit : goal.invariant-loop-limit
invariant-loop-limit l = record {
  same : l.choices.items ++ map (λ (t : Limit). Choices.Side l.kept.contact t.dir) (drop l.limit-index l.limits) ≡ choices_of l.kept;
}
