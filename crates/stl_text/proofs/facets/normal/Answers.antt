use Rattle.std.proofs.lemmas.Result.{err_from_is_err_and}
use Rattle.stl_text.proofs.Pieces.{passes_reads, stops_reads}
use Rattle.stl_text.proofs.facets.normal.Goals as goal

pub returns-in_err-at-clause-reads : goal.returns-in_err-at-clause-reads
returns-in_err-at-clause-reads c =
    let p = err_from_is_err_and c.from_residual.result c.from_residual.ensures.1 in
    rw (p.1, p.2) (stops_reads _ _ _ c.in_err-at.ensures.reads)

pub returns-in_err-at-2-clause-reads : goal.returns-in_err-at-2-clause-reads
returns-in_err-at-2-clause-reads c =
    let p = err_from_is_err_and c.from_residual-in_err-at-2.result c.from_residual-in_err-at-2.ensures.1 in
    rw (p.1, p.2) (passes_reads _ _ _ _ c.in_ok-at.ensures.reads (stops_reads _ _ _ c.in_err-at-2.ensures.reads))

pub returns-in_err-at-3-clause-reads : goal.returns-in_err-at-3-clause-reads
returns-in_err-at-3-clause-reads c =
    let p = err_from_is_err_and c.from_residual-in_err-at-3.result c.from_residual-in_err-at-3.ensures.1 in
    rw (p.1, p.2) (passes_reads _ _ _ _ c.in_ok-at.ensures.reads (passes_reads _ _ _ _ c.in_ok-at-2.ensures.reads (stops_reads _ _ _ c.in_err-at-3.ensures.reads)))

pub returns-clause-reads : goal.returns-clause-reads
returns-clause-reads c = passes_reads _ _ _ _ c.in_ok-at.ensures.reads (passes_reads _ _ _ _ c.in_ok-at-2.ensures.reads (passes_reads _ _ _ _ c.in_ok-at-3.ensures.reads (c.any_word-3.ensures.reads)))
