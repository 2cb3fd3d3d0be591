use Rattle.outline_laws.specs.Laws.EveryList.{hull_of}
use Rattle.outline_laws.proofs.every_list_has_corners.Goals as goal

pub returns : goal.returns
returns c = hull_of
