use Rattle.std.proofs.Common.{rules}
use Rattle.stl_text.proofs.Places.{next_reads}
use Rattle.stl_text.proofs.Pieces.{gives_reads, refuses_reads, passes_reads, yes_reads, no_reads}
use Rattle.stl_text.proofs.facets.any_word.Goals as goal

pub returns-then-word-clause-reads : goal.returns-then-word-clause-reads
returns-then-word-clause-reads c = passes_reads _ _ _ _ (next_reads _ _ _ c.next_word-word.ensures) (yes_reads _ _ _ _ (search rules) (gives_reads _))

pub returns-else-word-clause-reads : goal.returns-else-word-clause-reads
returns-else-word-clause-reads c = passes_reads _ _ _ _ (next_reads _ _ _ c.next_word-word.ensures) (no_reads _ _ _ _ (search rules) (refuses_reads _))
