use Rattle.std.proofs.Common.{◌≡◌, ◌++◌, drop}
use Rattle.cert_text.specs.TreeText.{nodes_text}
use Rattle.cert_text.proofs.writing.put_nodes.Given as goal

abbrev pub invariant-loop-node : goal.invariant-loop-node
invariant-loop-node l = l.to.items ++ nodes_text (drop l.node-index l.nodes) ≡ l.initial.to.items ++ nodes_text l.nodes
