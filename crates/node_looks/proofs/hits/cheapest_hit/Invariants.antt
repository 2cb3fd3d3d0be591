use Rattle.node_looks.specs.Candidates.{IsNearest}
use Rattle.node_looks.proofs.hits.cheapest_hit.Given as goal

abbrev pub invariant-loop-k : goal.invariant-loop-k
invariant-loop-k l = IsNearest l.site l.i l.j l.k l.pair l.best
