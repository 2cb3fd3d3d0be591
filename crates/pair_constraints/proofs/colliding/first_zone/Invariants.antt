use Rattle.seq_model.specs.Points.{place_point}
use Rattle.pair_constraints.specs.Laws.Firsts.{Below}
use Rattle.pair_constraints.specs.Laws.Pairs.{ZoneHits}
use Rattle.pair_constraints.proofs.colliding.first_zone.Given as goal

abbrev pub invariant-loop-z : goal.invariant-loop-z
invariant-loop-z l = Below (ZoneHits l.parts l.zones l.b (place_point l.scale l.earlier) (place_point l.scale l.later)) l.z
