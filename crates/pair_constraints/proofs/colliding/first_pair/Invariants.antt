use Rattle.seq_model.specs.Points.{place_point}
use Rattle.pair_constraints.specs.Laws.Firsts.{Below}
use Rattle.pair_constraints.specs.Laws.Pairs.{PairHits}
use Rattle.pair_constraints.proofs.colliding.first_pair.Given as goal

abbrev pub invariant-loop-z : goal.invariant-loop-z
invariant-loop-z l = Below (PairHits l.parts l.zones l.later_zones (place_point l.scale l.earlier) (place_point l.scale l.later)) l.z
