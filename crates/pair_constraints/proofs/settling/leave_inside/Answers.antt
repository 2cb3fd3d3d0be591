use Rattle.std.proofs.Common.{◌<◌, ◌≤◌, List, All, arith, length, subst, sym}
use Rattle.std.proofs.lemmas.List.Edits.{length-remove}
use Rattle.search_laws.specs.Covering.{Covers}
use Rattle.seq_model.specs.Contacts.{points_of}
use Rattle.seq_model.specs.declared.tree.Contact.{Contact}
use Rattle.pair_constraints.specs.Maximal.{IsOf}
use Rattle.pair_constraints.specs.Laws.Settling.{All-remove, LeavesOut, leaves_more}
use Rattle.pair_constraints.proofs.settling.leave_inside.Goals as goal

pub loop-k-preserved-then-has_inside : goal.loop-k-preserved-then-has_inside
loop-k-preserved-then-has_inside c =
    let items = c.loop-k.kept.items in
    let k = c.loop-k.k in
    let job = c.args.job.now in
    let by = c.args.contact.now in
    let l : k < length items = omega arith in
    let shorter = length-remove items k l in
    let covers = subst (λ (x : Contact). Covers (points_of job by) (points_of job x)) c.index.ensures (c.has_inside.ensures c.if-has_inside.true) in
    record {
      within = subst (λ (xs : List Contact). k ≤ length xs) (sym c.remove.ensures.items) (omega (arith, shorter));
      kept = subst (All (IsOf job by.i by.j)) (sym c.remove.ensures.items) (All-remove (IsOf job by.i by.j) items k c.loop-k.invariant.kept);
      leaves = subst (LeavesOut job by c.args.kept.now.items) (sym c.remove.ensures.items) (leaves_more job by c.args.kept.now.items items k c.index.result.now c.loop-k.invariant.leaves covers);
    }
