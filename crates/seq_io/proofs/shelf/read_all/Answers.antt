use Rattle.std.proofs.Common.{rules, arith}
use Rattle.seq_io.proofs.Pieces.{consumes_more, counted_none, not_broken}
use Rattle.seq_io.proofs.shelf.read_all.Goals as goal

pub loop-bytes-preserved : goal.loop-bytes-preserved
loop-bytes-preserved g c =
    let piece = c.in_ok-count.ensures in
    let whole = not_broken _ c.in_ok-count.count _ piece.broken in
    record {
      files = search rules;
      read = consumes_more _ _ _ _ _ c.loop-bytes.filled c.in_ok-count.count c.loop-bytes.invariant.read piece.front piece.read;
      filled = piece.fits;
      within = omega arith;
      faults = counted_none _ _ _ _ whole piece.count c.loop-bytes.invariant.faults;
      whole = whole;
      named = search rules;
      starts = search rules;
    }
