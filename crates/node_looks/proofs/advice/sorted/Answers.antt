use Rattle.std.proofs.Common.{sym, subst}
use Rattle.node_looks.proofs.VisitLaws.{visit_moved}
use Rattle.node_looks.specs.Looks.{IsVisit}
use Rattle.node_looks.proofs.advice.sorted.Goals as goal

pub returns : goal.returns
returns c =
    subst (IsVisit c.args.n) (sym c.from_vec.ensures)
    (visit_moved c.args.n c.into_vec-visit.result.items c.sort_by_keys.new.visit.items (subst (IsVisit c.args.n) (sym c.into_vec-visit.ensures) c.in_ok-in_order.ensures) c.sort_by_keys.ensures)
