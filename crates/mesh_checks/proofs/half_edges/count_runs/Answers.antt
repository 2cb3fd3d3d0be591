use Rattle.std.proofs.Common.{sym, ◌∙◌, arith}
use Rattle.std.proofs.lemmas.Int.{ints}
use Rattle.mesh_checks.proofs.Walk.{goes_on, begins}
use Rattle.mesh_checks.proofs.half_edges.count_runs.Goals as goal
use Rattle.mesh_checks.proofs.half_edges.count_runs.Goals.{then-not-have_same_ends, else-not-have_same_ends}

pub loop-half_edge-preserved : goal.loop-half_edge-preserved
loop-half_edge-preserved c =
    let size = c.balance_with-balance.ensures.size in
    let value = c.balance_with-balance.ensures.value in
    elim c.if-not-have_same_ends.branch [
      | then-not-have_same_ends w ↦ record {
        left = begins _ _ _ _ _ _ _ _ _ c.loop-half_edge-test.true (sym c.have_same_ends.ensures ∙ w.if-not-have_same_ends.true) c.loop-half_edge.invariant.left (omega (arith, ints)) (let a = w.unsigned_abs-open.ensures.value in omega (arith, ints));
        few = omega (arith, ints);
      }
      | else-not-have_same_ends w ↦ record {
        left = goes_on _ _ _ _ _ _ _ _ _ c.loop-half_edge-test.true (sym c.have_same_ends.ensures ∙ w.if-not-have_same_ends.false) c.loop-half_edge.invariant.left (omega (arith, ints)) w.open-is;
        few = omega (arith, ints);
      }
    ]
