use Rattle.cert_text.specs.Laws.Heads.{tree_all, tree_refuses}
use Rattle.cert_text.proofs.reading.read_tree.Goals as goal

pub returns-clause-all : goal.returns-clause-all
returns-clause-all c = tree_all c.args.kind c.args.bytes.now c.read_block.result c.read_block.ensures.read c.read_block.ensures.refused

pub returns-clause-refuses : goal.returns-clause-refuses
returns-clause-refuses c = tree_refuses c.args.kind c.args.bytes.now c.read_block.result c.read_block.ensures.read c.read_block.ensures.refused
