use Rattle.plan_laws.specs.Laws.Members.{on_from_members, on_part, grounded_on_part}
use Rattle.plan_laws.proofs.rows.a_part_of_a_path_has_its_points.Goals as goal

pub returns : goal.returns
returns c = record { members = on_from_members; part = on_part; grounded = grounded_on_part }
