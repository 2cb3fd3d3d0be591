use Rattle.std.proofs.Common.{rules}
use Rattle.std.proofs.lemmas.Result.{err_from_is_err_and}
use Rattle.stl_text.proofs.Places.{next_reads}
use Rattle.stl_text.proofs.Pieces.{gives_reads, refuses_reads, passes_reads, stops_reads, yes_reads, no_reads}
use Rattle.stl_text.proofs.parts.next_part.Goals as goal

pub returns-in_err-next-clause-reads : goal.returns-in_err-next-clause-reads
returns-in_err-next-clause-reads c =
    let p = err_from_is_err_and c.from_residual.result c.from_residual.ensures.1 in
    rw (p.1, p.2) (passes_reads _ _ _ _ (next_reads _ _ _ c.next_word-word.ensures) (yes_reads _ _ _ _ (search rules) c.in_err-next.ensures.reads))

pub returns-then-is_spelled-clause-reads : goal.returns-then-is_spelled-clause-reads
returns-then-is_spelled-clause-reads c = passes_reads _ _ _ _ (next_reads _ _ _ c.next_word-word.ensures) (yes_reads _ _ _ _ (search rules) c.in_ok-next.ensures.reads)

pub returns-in_err-next-2-clause-reads : goal.returns-in_err-next-2-clause-reads
returns-in_err-next-2-clause-reads c =
    let p = err_from_is_err_and c.from_residual-in_err-next-2.result c.from_residual-in_err-next-2.ensures.1 in
    rw (p.1, p.2) (passes_reads _ _ _ _ (next_reads _ _ _ c.next_word-word.ensures) (no_reads _ _ _ _ (search rules) (yes_reads _ _ _ _ (search rules) (stops_reads _ _ _ c.in_err-next-2.ensures.reads))))

pub returns-then-is_spelled-2-clause-reads : goal.returns-then-is_spelled-2-clause-reads
returns-then-is_spelled-2-clause-reads c = passes_reads _ _ _ _ (next_reads _ _ _ c.next_word-word.ensures) (no_reads _ _ _ _ (search rules) (yes_reads _ _ _ _ (search rules) (passes_reads _ _ _ _ c.in_ok-next-2.ensures.reads (gives_reads _))))

pub returns-clause-reads : goal.returns-clause-reads
returns-clause-reads c = passes_reads _ _ _ _ (next_reads _ _ _ c.next_word-word.ensures) (no_reads _ _ _ _ (search rules) (no_reads _ _ _ _ (search rules) (refuses_reads _)))
