use Rattle.integer_laws.specs.Laws.Members.{In-from_contains, Contains-from_in}
use Rattle.mesh_checks.specs.Edges.{edges, each_once}
use Rattle.mesh_checks.proofs.Sums.{Once-from_pairs, IsOnce-from_once}
use Rattle.mesh_checks.proofs.Counts.{open_over, two_ends, once_each, has_excess}
use Rattle.mesh_checks.proofs.open_edges_are_a_sum_over_pairs.Goals as goal

pub returns-clause-every : goal.returns-clause-every
returns-clause-every c = λ facets pairs has.
    open_over (edges facets) pairs (Once-from_pairs pairs has.once) (λ e h. In-from_contains pairs e (has.whole e (two_ends (edges facets) e h) h))

pub returns-clause-some : goal.returns-clause-some
returns-clause-some c = λ facets. record {
  once = IsOnce-from_once (each_once (edges facets)) (once_each (edges facets));
  whole = λ e line h. Contains-from_in (each_once (edges facets)) e (has_excess (edges facets) e h);
}
