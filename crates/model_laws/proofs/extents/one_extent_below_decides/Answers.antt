use Rattle.model_laws.specs.Laws.Nested.{valid_at_larger, least_from_below}
use Rattle.model_laws.proofs.extents.one_extent_below_decides.Goals as goal

pub returns-clause-larger : goal.returns-clause-larger
returns-clause-larger c = valid_at_larger

pub returns-clause-least : goal.returns-clause-least
returns-clause-least c = least_from_below
