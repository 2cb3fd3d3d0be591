use Rattle.seq_model.specs.Points.{place_point}
use Rattle.pair_constraints.specs.Laws.Firsts.{NumberBelow}
use Rattle.pair_constraints.specs.Laws.Pairs.{PartHits}
use Rattle.pair_constraints.proofs.colliding.first_part.Given as goal

abbrev pub invariant-loop-k : goal.invariant-loop-k
invariant-loop-k l = NumberBelow (PartHits l.parts l.a l.b (place_point l.scale l.earlier) (place_point l.scale l.later)) l.k
