use Rattle.std.proofs.Common.{rules}
use Rattle.std.proofs.lemmas.Result.{err_from_is_err_and}
use Rattle.std.proofs.lemmas.Int.{to_z-of_z}
use Rattle.std.specs.Int.{w64}
use Rattle.std.specs.Prelude.{FitsSigned}
use Rattle.stl_text.proofs.Pieces.{gives_reads, passes_reads, stops_reads}
use Rattle.stl_text.proofs.facets.vertex.Goals as goal

pub returns-in_err-at-clause-reads : goal.returns-in_err-at-clause-reads
returns-in_err-at-clause-reads c =
    let p = err_from_is_err_and c.from_residual.result c.from_residual.ensures.1 in
    rw (p.1, p.2) (stops_reads _ _ _ c.in_err-at.ensures.reads)

pub returns-in_err-x-clause-reads : goal.returns-in_err-x-clause-reads
returns-in_err-x-clause-reads c =
    let p = err_from_is_err_and c.from_residual-in_err-x.result c.from_residual-in_err-x.ensures.1 in
    rw (p.1, p.2) (passes_reads _ _ _ _ c.in_ok-at.ensures.reads (stops_reads _ _ _ c.in_err-x.ensures.reads))

pub returns-in_err-y-clause-reads : goal.returns-in_err-y-clause-reads
returns-in_err-y-clause-reads c =
    let p = err_from_is_err_and c.from_residual-in_err-y.result c.from_residual-in_err-y.ensures.1 in
    rw (p.1, p.2) (passes_reads _ _ _ _ c.in_ok-at.ensures.reads (passes_reads _ _ _ _ c.in_ok-x.ensures.reads (stops_reads _ _ _ c.in_err-y.ensures.reads)))

pub returns-in_err-z-clause-reads : goal.returns-in_err-z-clause-reads
returns-in_err-z-clause-reads c =
    let p = err_from_is_err_and c.from_residual-in_err-z.result c.from_residual-in_err-z.ensures.1 in
    rw (p.1, p.2) (passes_reads _ _ _ _ c.in_ok-at.ensures.reads (passes_reads _ _ _ _ c.in_ok-x.ensures.reads (passes_reads _ _ _ _ c.in_ok-y.ensures.reads (stops_reads _ _ _ c.in_err-z.ensures.reads))))

pub returns-clause-reads : goal.returns-clause-reads
returns-clause-reads c =
    let x : FitsSigned w64 c.in_ok-x.x = search rules in
    let y : FitsSigned w64 c.in_ok-y.y = search rules in
    let z : FitsSigned w64 c.in_ok-z.z = search rules in
    rw (to_z-of_z w64 c.in_ok-x.x x, to_z-of_z w64 c.in_ok-y.y y, to_z-of_z w64 c.in_ok-z.z z)
    (passes_reads _ _ _ _ c.in_ok-at.ensures.reads (passes_reads _ _ _ _ c.in_ok-x.ensures.reads (passes_reads _ _ _ _ c.in_ok-y.ensures.reads (passes_reads _ _ _ _ c.in_ok-z.ensures.reads (gives_reads _)))))
