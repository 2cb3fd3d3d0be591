use Rattle.std.proofs.Common.{ap, subst, ◌∙◌, arith, length, IsPermutation}
use Rattle.mesh_checks.specs.Edges.{edges}
use Rattle.mesh_checks.specs.Runs.{all_runs}
use Rattle.mesh_checks.proofs.HalfEdges.{runs_count_open, few_half_edges}
use Rattle.mesh_checks.proofs.half_edges.count_open.Goals as goal

pub count_runs-requires : goal.count_runs-requires
count_runs-requires c =
    let ws = c.ascending-half_edges.result.items in
    let p = subst (λ l. IsPermutation l ws) c.in_ok-half_edges_of.ensures c.ascending-half_edges.ensures.permutation in
    let few = few_half_edges c.args.facets.now ws c.requires p in
    let e = ap length c.as_slice.ensures.value in
    omega arith

pub returns : goal.returns
returns c =
    let ws = c.ascending-half_edges.result.items in
    let p = subst (λ l. IsPermutation l ws) c.in_ok-half_edges_of.ensures c.ascending-half_edges.ensures.permutation in
    c.count_runs.ensures ∙ ap all_runs c.as_slice.ensures.value ∙ runs_count_open (edges c.args.facets.now) ws p c.ascending-half_edges.ensures.ascending
