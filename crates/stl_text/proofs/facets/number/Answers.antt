use Rattle.std.proofs.Common.{rules}
use Rattle.std.proofs.lemmas.Int.{to_z-of_z}
use Rattle.std.specs.Int.{w64}
use Rattle.std.specs.Prelude.{FitsSigned}
use Rattle.stl_text.specs.Words.{letters}
use Rattle.stl_text.proofs.Places.{next_reads}
use Rattle.stl_text.proofs.Pieces.{gives_reads, passes_reads, stops_reads, length_reads, no_length_reads}
use Rattle.stl_text.proofs.facets.number.Goals as goal

pub returns-in-Ok-clause-reads : goal.returns-in-Ok-clause-reads
returns-in-Ok-clause-reads c =
    let um = c.in-Ok.um in
    let call = c.read_um.ensures in
    let fits : FitsSigned w64 c.in-Ok.um = search rules in
    let length = length_reads (letters c.args.bytes.now c.next_word-word.result) c.next_word-word.result.from um ((call.length um).0 c.in-Ok.is) (λ s h. let e = (call.length s).1 h in cc) (λ cause h. let e = (call.refused cause).1 h in absurd cc) in
    rw (to_z-of_z w64 um fits) (passes_reads _ _ _ _ (next_reads _ _ _ c.next_word-word.ensures) (passes_reads _ _ _ _ length (gives_reads _)))

pub returns-in-Err-clause-reads : goal.returns-in-Err-clause-reads
returns-in-Err-clause-reads c =
    let cause = c.in-Err.cause in
    let call = c.read_um.ensures in
    let none = no_length_reads (letters c.args.bytes.now c.next_word-word.result) c.next_word-word.result.from cause ((call.refused cause).0 c.in-Err.is) (λ s h. let e = (call.length s).1 h in absurd cc) (λ other h. let e = (call.refused other).1 h in cc) in
    passes_reads _ _ _ _ (next_reads _ _ _ c.next_word-word.ensures) (stops_reads _ _ _ none)
