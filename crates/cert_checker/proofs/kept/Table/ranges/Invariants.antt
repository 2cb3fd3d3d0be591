use Rattle.cert_checker.specs.Kept.{AreMet, HasRowsBeside}
use Rattle.std.specs.BTreeMap.{values}
use Rattle.cert_checker.proofs.Tables.{Ranging}
use Rattle.cert_checker.proofs.kept.Table.ranges.Given as goal

abbrev pub invariant-loop-node : goal.invariant-loop-node
invariant-loop-node l = record {
  ranges : Ranging l.job l.self.choices.items l.nodes l.node-index l.ranges.items;
  met : AreMet l.job l.self.choices.items (values l.met);
  rows : HasRowsBeside l.job l.fn.self.choices.items l.fn.self.rows.items → HasRowsBeside l.job l.self.choices.items l.self.rows.items;
}
