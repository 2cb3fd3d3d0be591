use Rattle.std.proofs.Common.{◌≢◌, ℕ, ◌<◌, List, Result, Ok, Err, IfOk, All, length}
use Rattle.seq_model.specs.Trees.{IsClosed}
use Rattle.seq_model.specs.declared.tree.Node.TheVariants as Nodes
use Rattle.seq_model.specs.declared.tree.Tree.{Tree}
use Rattle.seq_num.specs.declared.NoMemory.{NoMemory}
use Rattle.refutation_tree.specs.Grown.{node_of, IsPreorder}
use Rattle.refutation_tree.specs.Laws.Kept.{whole_closed}
use Rattle.refutation_tree.specs.declared.growing.Made.{Made}
use Rattle.refutation_tree.proofs.growing.Growing.preorder.Goals as goal

answered : (made : List Made) (r : Result Tree NoMemory) → ((k : ℕ) → k < length made → node_of made k ≢ Nodes.Pending) → IfOk r (λ tree. IsPreorder made tree.nodes) → IfOk r (λ tree. All IsClosed tree.nodes)
answered made (Ok tree) h whole = whole_closed made tree.nodes h whole
answered made (Err e) h whole = tt

pub returns-clause-closed : goal.returns-clause-closed
returns-clause-closed c = answered c.args.self.now.made c.whole.result c.requires c.whole.ensures
