use Rattle.node_looks.proofs.HitLaws.{settled_ordered}
use Rattle.node_looks.proofs.survey.ordered_pair.Goals as goal

pub returns-in-None-hit_on_path : goal.returns-in-None-hit_on_path
returns-in-None-hit_on_path c = settled_ordered c.args.site.now c.args.i c.args.j c.requires.ordered c.in-None.ensures c.in-None-hit_on_path.ensures
