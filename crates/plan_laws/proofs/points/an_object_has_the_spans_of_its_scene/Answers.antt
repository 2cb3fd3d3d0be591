use Rattle.plan_laws.specs.Laws.ObjectSpans.{object_spans}
use Rattle.plan_laws.proofs.points.an_object_has_the_spans_of_its_scene.Goals as goal

pub returns : goal.returns
returns c = object_spans
