use Rattle.std.proofs.Common.{rules}
use Rattle.std.proofs.lemmas.Result.{err_from_is_err_and}
use Rattle.stl_text.proofs.Pieces.{gives_reads, passes_reads, stops_reads, yes_reads}
use Rattle.stl_text.proofs.parts.next_facet.Goals as goal

pub returns-in_err-triangle-clause-reads : goal.returns-in_err-triangle-clause-reads
returns-in_err-triangle-clause-reads c =
    let p = err_from_is_err_and c.from_residual.result c.from_residual.ensures.1 in
    rw (p.1, p.2) (yes_reads _ _ _ _ (search rules) (stops_reads _ _ _ c.in_err-triangle.ensures.reads))

pub returns-clause-reads : goal.returns-clause-reads
returns-clause-reads c = yes_reads _ _ _ _ (search rules) (passes_reads _ _ _ _ c.in_ok-triangle.ensures.reads (gives_reads _))
