use Rattle.std.proofs.Common.{◌≡◌, sym, subst, arith}
use Rattle.node_looks.proofs.SplitLaws.{visits}
use Rattle.node_looks.specs.Looks.{IsVisit}
use Rattle.node_looks.proofs.splits.in_order.Goals as goal

pub returns : goal.returns
returns c =
    let all : c.loop-k.k ≡ c.args.n = omega arith in
    subst (IsVisit c.args.n) (sym c.from_vec.ensures) (visits c.args.n c.loop-k.visit.items (omega (arith, c.loop-k.invariant.long, all)) (λ i l. c.loop-k.invariant.each i (omega (arith, l, all))))
