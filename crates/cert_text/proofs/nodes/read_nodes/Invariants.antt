use Rattle.std.proofs.Common.{length, All}
use Rattle.cert_text.specs.Lines.{line_at}
use Rattle.cert_text.specs.Laws.Counting.{Reading, IsOpening}
use Rattle.cert_text.proofs.nodes.read_nodes.Given as goal

abbrev pub invariant-loop-openings : goal.invariant-loop-openings
invariant-loop-openings l = record {
  reads : Reading line_at l.bytes l.nodes.items l.rest l.openings.items;
  all : All IsOpening l.openings.items;
}

abbrev pub decreases-loop-openings : goal.decreases-loop-openings
decreases-loop-openings l = length l.rest
