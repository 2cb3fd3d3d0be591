use Rattle.search_laws.specs.Laws.Refuting.{refuted_has_no_plan, refuted_has_none_below, refuted_on_all}
use Rattle.search_laws.proofs.refuting.a_refuted_extent_has_no_plan.Goals as goal

pub returns : goal.returns
returns c = record { here = refuted_has_no_plan; below = refuted_has_none_below; anywhere = refuted_on_all }
