use Rattle.search_laws.specs.Laws.Refuting.{no_clear_point, no_ordered_point, no_point_of_more}
use Rattle.search_laws.proofs.refuting.a_refuted_path_has_no_clear_point.Goals as goal

pub returns : goal.returns
returns c = record { ordered = no_ordered_point; ranked = no_clear_point; longer = no_point_of_more }
