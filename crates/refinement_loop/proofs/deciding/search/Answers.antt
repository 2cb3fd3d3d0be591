use Rattle.std.proofs.Common.{ap, arith}
use Rattle.refinement_loop.proofs.Steps.{starts, close_step, wide_step, split_step, spent_step, end_step, wide_end, visit_known}
use Rattle.refinement_loop.proofs.deciding.search.Goals as goal

pub loop-wide-init : goal.loop-wide-init
loop-wide-init g c =
    let tree = ap (λ t. t.made) c.in_ok-tree.ensures in
    let agenda = ap (λ a. a.open_nodes) c.in_ok-agenda.ensures in
    (rw (tree, agenda) (starts c.args.job.now c.args.extent c.args.budget c.requires.some), c.requires.made)

pub loop-wide-preserved-in-Close : goal.loop-wide-preserved-in-Close
loop-wide-preserved-in-Close g c =
    let head = rw c.in-Some.is at c.in_ok-number.ensures in (
      (close_step _ _ _ _ _ _ _ _ _ _ _ _ _ c.loop-wide.invariant.0 head c.path.ensures (record { is = c.in_ok-plan.ensures.look; zero = c.in_ok-plan.ensures.zero }) c.in-Close.is
          (ap (λ t. t.made) c.close.ensures.closed)).keeps,
      c.look.ensures.stays,
    )

pub loop-wide-smaller-in-Close : goal.loop-wide-smaller-in-Close
loop-wide-smaller-in-Close g c =
    let head = rw c.in-Some.is at c.in_ok-number.ensures in
    (close_step _ _ _ _ _ _ _ _ _ _ _ _ _ c.loop-wide.invariant.0 head c.path.ensures (record { is = c.in_ok-plan.ensures.look; zero = c.in_ok-plan.ensures.zero }) c.in-Close.is
    (ap (λ t. t.made) c.close.ensures.closed)).less

pub loop-wide-preserved-in-Wide : goal.loop-wide-preserved-in-Wide
loop-wide-preserved-in-Wide g c =
    let head = rw c.in-Some.is at c.in_ok-number.ensures in (
      (wide_step _ _ _ _ _ _ _ _ _ _ _ _ _ _ c.loop-wide.invariant.0 head c.path.ensures (record { is = c.in_ok-plan.ensures.look; zero = c.in_ok-plan.ensures.zero }) c.in-Wide.is
          c.first_of-wide.ensures).keeps,
      c.look.ensures.stays,
    )

pub loop-wide-smaller-in-Wide : goal.loop-wide-smaller-in-Wide
loop-wide-smaller-in-Wide g c =
    let head = rw c.in-Some.is at c.in_ok-number.ensures in
    (wide_step _ _ _ _ _ _ _ _ _ _ _ _ _ _ c.loop-wide.invariant.0 head c.path.ensures (record { is = c.in_ok-plan.ensures.look; zero = c.in_ok-plan.ensures.zero }) c.in-Wide.is
    c.first_of-wide.ensures).less

pub returns-then-node_count-budget-clause-is : goal.returns-then-node_count-budget-clause-is
returns-then-node_count-budget-clause-is g c =
    let head = rw c.in-Some.is at c.in_ok-number.ensures in
    spent_step _ _ _ _ _ _ _ _ _ _ _ _ _ _ _ c.loop-wide.invariant.0 head c.path.ensures (record { is = c.in_ok-plan.ensures.look; zero = c.in_ok-plan.ensures.zero }) c.in-Split.is
    (omega (arith, c.node_count.ensures, c.if-node_count-budget.true)) c.requires.limit c.in_ok-whole-in-Split.ensures

pub push_all-requires-clause-known : goal.push_all-requires-clause-known
push_all-requires-clause-known g c =
    rw (c.as_slice-in-Split.ensures, c.as_slice.ensures)
    (visit_known _ _ _ _ _ _ _ (record { is = c.in_ok-plan.ensures.look; zero = c.in_ok-plan.ensures.zero }) c.in-Split.is)

pub loop-wide-preserved : goal.loop-wide-preserved
loop-wide-preserved g c =
    let head = rw c.in-Some.is at c.in_ok-number.ensures in
    let pushed = rw (c.as_slice-in-Split.ensures, c.as_slice.ensures) at (ap (λ a. a.open_nodes) c.in_ok-push_all-in-Split.ensures) in (
      (split_step _ _ _ _ _ _ _ _ _ _ _ _ _ _ _ _ _ c.loop-wide.invariant.0 head c.path.ensures (record { is = c.in_ok-plan.ensures.look; zero = c.in_ok-plan.ensures.zero }) c.in-Split.is
          (omega (arith, c.node_count.ensures, c.if-node_count-budget.false)) c.requires.limit (ap (λ t. t.made) c.in_ok-first-in-Split.ensures.split) c.in_ok-first-in-Split.ensures.first pushed).keeps,
      c.look.ensures.stays,
    )

pub loop-wide-smaller : goal.loop-wide-smaller
loop-wide-smaller g c =
    let head = rw c.in-Some.is at c.in_ok-number.ensures in
    let pushed = rw (c.as_slice-in-Split.ensures, c.as_slice.ensures) at (ap (λ a. a.open_nodes) c.in_ok-push_all-in-Split.ensures) in
    (split_step _ _ _ _ _ _ _ _ _ _ _ _ _ _ _ _ _ c.loop-wide.invariant.0 head c.path.ensures (record { is = c.in_ok-plan.ensures.look; zero = c.in_ok-plan.ensures.zero }) c.in-Split.is
    (omega (arith, c.node_count.ensures, c.if-node_count-budget.false)) c.requires.limit (ap (λ t. t.made) c.in_ok-first-in-Split.ensures.split) c.in_ok-first-in-Split.ensures.first pushed).less

pub returns-in_default-wide-clause-is : goal.returns-in_default-wide-clause-is
returns-in_default-wide-clause-is g c =
    end_step _ _ _ _ _ _ _ c.loop-wide.invariant.0 (rw c.in_default.is at c.in_ok-number.ensures) c.in_default-wide.is c.requires.limit c.in_ok-preorder.ensures.whole

pub returns-clause-is : goal.returns-clause-is
returns-clause-is g c =
    wide_end _ _ _ _ _ _ _ _ _ c.loop-wide.invariant.0 (rw c.in_default.is at c.in_ok-number.ensures) c.in-Some-wide.is c.requires.limit c.in_ok-whole.ensures c.in_ok-node.ensures
