use Rattle.std.proofs.Common.{rules}
use Rattle.std.proofs.lemmas.Result.{err_from_is_err_and}
use Rattle.stl_text.proofs.Places.{next_reads, rest_reads}
use Rattle.stl_text.proofs.Pieces.{gives_reads, passes_reads, stops_reads, yes_reads, no_reads}
use Rattle.stl_text.proofs.parts.closing.Goals as goal

pub returns-then-word-clause-reads : goal.returns-then-word-clause-reads
returns-then-word-clause-reads c = passes_reads _ _ _ _ (rest_reads _ _ _ c.rest_of_line-line.ensures.rest) (passes_reads _ _ _ _ (next_reads _ _ _ c.next_word-word.ensures) (no_reads _ _ _ _ (search rules) (gives_reads _)))

pub returns-in_err-to-clause-reads : goal.returns-in_err-to-clause-reads
returns-in_err-to-clause-reads c =
    let p = err_from_is_err_and c.from_residual.result c.from_residual.ensures.1 in
    rw (p.1, p.2) (passes_reads _ _ _ _ (rest_reads _ _ _ c.rest_of_line-line.ensures.rest) (passes_reads _ _ _ _ (next_reads _ _ _ c.next_word-word.ensures) (yes_reads _ _ _ _ (search rules) (stops_reads _ _ _ c.in_err-to.ensures.reads))))

pub returns-clause-reads : goal.returns-clause-reads
returns-clause-reads c = passes_reads _ _ _ _ (rest_reads _ _ _ c.rest_of_line-line.ensures.rest) (passes_reads _ _ _ _ (next_reads _ _ _ c.next_word-word.ensures) (yes_reads _ _ _ _ (search rules) (passes_reads _ _ _ _ c.in_ok-to.ensures.reads (gives_reads _))))
