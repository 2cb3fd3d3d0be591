use Rattle.std.proofs.lemmas.Result.{err_from_is_err_and}
use Rattle.stl_text.proofs.Places.{rest_reads}
use Rattle.stl_text.proofs.Pieces.{passes_reads, stops_reads}
use Rattle.stl_text.proofs.parts.opening.Goals as goal

pub returns-in_err-at-clause-reads : goal.returns-in_err-at-clause-reads
returns-in_err-at-clause-reads c =
    let p = err_from_is_err_and c.from_residual.result c.from_residual.ensures.1 in
    rw (p.1, p.2) (stops_reads _ _ _ c.in_err-at.ensures.reads)

pub returns-clause-reads : goal.returns-clause-reads
returns-clause-reads c = passes_reads _ _ _ _ c.in_ok-at.ensures.reads (rest_reads _ _ _ c.rest_of_line.ensures.rest)
