use Rattle.std.proofs.Common.{pos}
use Rattle.std.proofs.lemmas.List.Elements.{All-get_or}
use Rattle.row_dictionary.specs.Mixing.{Narrow}
use Rattle.row_dictionary.specs.Tables.{mix_of}
use Rattle.row_dictionary.proofs.Narrowing.{narrow_line}
use Rattle.row_dictionary.proofs.table.stays_small.Goals as goal

pub returns : goal.returns
returns c = λ t.
    let both = c.is_narrow_step.ensures t in
    let line = c.is_narrow.ensures c.if-not-is_narrow.false in
    let by = c.is_narrow-else-not-is_narrow.ensures c.if-not-is_narrow-2.false in
    let q = All-get_or Narrow c.args.line.now c.args.step.now.place (pos 0) c.requires.place line in
    narrow_line (mix_of c.args.step.now c.args.line.now) c.args.line.now c.args.by.now c.requires.len c.requires.g (both.0, both.1, q) line by
