use Rattle.search_laws.specs.Laws.MostSides.{most_sides, some_full}
use Rattle.search_laws.proofs.sides.a_job_has_most_sides.Goals as goal

pub returns : goal.returns
returns c = record { most = most_sides; full = some_full }
