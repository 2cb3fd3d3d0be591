use Rattle.std.proofs.Common.{subst, sym, List}
use Rattle.seq_model.specs.declared.tree.Node.{Node}
use Rattle.cert_text.specs.TreeText.{IsTreeText}
use Rattle.cert_text.specs.Laws.Heads.{tree_read}
use Rattle.cert_text.proofs.reading.read_block.Goals as goal

pub returns-in-Ok-clause-read : goal.returns-in-Ok-clause-read
returns-in-Ok-clause-read c =
    subst (λ (ns : List Node). IsTreeText c.args.bytes.now c.args.kind c.in_ok-head.head (record { nodes = ns })) (sym c.from_vec.ensures)
    (tree_read c.args.kind c.args.bytes.now c.in_ok-head.rest.now c.in_ok-head.head c.in-Ok.nodes.items c.in_ok-head.ensures.read c.in-Ok.ensures.read)
