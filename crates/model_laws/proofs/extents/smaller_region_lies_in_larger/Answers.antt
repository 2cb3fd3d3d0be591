use Rattle.model_laws.specs.Laws.Nested.{nested}
use Rattle.model_laws.proofs.extents.smaller_region_lies_in_larger.Goals as goal

pub returns : goal.returns
returns c = nested
