use Rattle.outline_laws.specs.Laws.Area.{three_of_area}
use Rattle.outline_laws.proofs.a_list_with_area_has_a_polygon.Goals as goal

pub returns : goal.returns
returns c = λ spots of area. three_of_area spots of.corners of.hull area
