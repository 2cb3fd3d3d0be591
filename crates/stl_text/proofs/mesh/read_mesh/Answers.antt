use Rattle.std.proofs.Common.{◌∙◌, sym, inr, rules}
use Rattle.std.proofs.lemmas.Result.{err_from_is_err_and}
use Rattle.stl_text.proofs.Pieces.{stops_reads, no_reads}
use Rattle.stl_text.proofs.Bodies.{file_refused, file_empty, file_read}
use Rattle.stl_text.proofs.mesh.read_mesh.Goals as goal

pub returns-in_err-first-clause-refused : goal.returns-in_err-first-clause-refused
returns-in_err-first-clause-refused c =
    let p = err_from_is_err_and c.from_residual.result c.from_residual.ensures.1 in
    rw (p.1, p.2) (inr (no_reads _ _ _ _ (search rules) (stops_reads _ _ _ c.in_err-first.ensures.reads)))

pub returns-in_err-found-clause-refused : goal.returns-in_err-found-clause-refused
returns-in_err-found-clause-refused c =
    let p = err_from_is_err_and c.from_residual-in_err-found.result c.from_residual-in_err-found.ensures.1 in
    rw (p.1, p.2) (file_refused c.args.bytes.now c.in_ok-first.first (search rules) c.in_ok-first.ensures.reads _ c.in_err-found.ensures.refused)

pub returns-then-count-eq0-clause-refused : goal.returns-then-count-eq0-clause-refused
returns-then-count-eq0-clause-refused c =
    inr (file_empty c.args.bytes.now c.in_ok-first.first (search rules) c.in_ok-first.ensures.reads c.in_ok-found.found c.in_ok-found.ensures.found (sym c.count.ensures ∙ c.if-count-eq0.true))

pub returns-clause-mesh : goal.returns-clause-mesh
returns-clause-mesh c =
    file_read c.args.bytes.now c.in_ok-first.first (search rules) c.in_ok-first.ensures.reads c.in_ok-found.found c.in_ok-found.ensures.found (λ e. c.if-count-eq0.false (c.count.ensures ∙ e))
