use Rattle.std.proofs.Common.{◌≤◌, refl, rules, arith}
use Rattle.cert_text.specs.Laws.Counting.{turn}
use Rattle.cert_text.specs.Nodes.{most_deep}
use Rattle.cert_text.proofs.nodes.read_nodes.Goals as goal

pub loop-openings-preserved : goal.loop-openings-preserved
loop-openings-preserved c =
    let shallow : c.in-Some.depth ≤ most_deep = omega arith in
    record {
      reads = turn _ _ _ _ _ _ _ _ _ _ _ c.next.new.openings.items c.open.new.openings.items c.loop-openings.invariant.reads (rw c.in-Some.is at c.in_ok-depth.ensures.next) c.in-Ok.ensures.read shallow c.children.ensures refl c.in_ok-open-in-Ok.ensures.due c.in_ok-keep-in-Ok.ensures.kept;
      all = search rules;
    }
