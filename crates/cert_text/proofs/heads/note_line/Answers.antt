use Rattle.std.proofs.Common.{subst, sym, ap, ◌∙◌}
use Rattle.text_lines.specs.Laws.Reading.{mapped_some}
use Rattle.cert_text.specs.Heads.{is_wide_far}
use Rattle.cert_text.specs.Laws.Heads.{IsFittingWide, wide_fits}
use Rattle.cert_text.proofs.heads.note_line.Goals as goal

pub note-requires : goal.note-requires
note-requires c =
    let found = c.wide_line.new.found.items in
    let far = sym (c.is_far.ensures ∙ ap (is_wide_far c.in-Some.wide) c.deref.ensures.value) ∙ c.if-is_far.false in
    subst (IsFittingWide c.in-Some.wide) (sym c.deref-2.ensures.value)
    (wide_fits c.args.bytes.now c.in-Some.rest.now c.in-Some.wide found (mapped_some _ _ _ _ c.in-Ok.ensures c.in-Some.is) far)
