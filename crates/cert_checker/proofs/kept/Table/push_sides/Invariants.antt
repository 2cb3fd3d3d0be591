use Rattle.std.proofs.Common.{◌≡◌, ◌++◌, map, take}
use Rattle.seq_model.specs.declared.tree.Choice.TheVariants as Choices
use Rattle.cert_checker.specs.Kept.{HasRowsBeside}
use Rattle.cert_checker.proofs.kept.Table.push_sides.Given as goal

abbrev pub invariant-loop-dir : goal.invariant-loop-dir
invariant-loop-dir l = record {
  choices : l.self.choices.items ≡ l.fn.self.choices.items ++ map (Choices.Side l.contact) (take l.dir-index l.dirs);
  rows : HasRowsBeside l.job l.fn.self.choices.items l.fn.self.rows.items → HasRowsBeside l.job l.self.choices.items l.self.rows.items;
}
