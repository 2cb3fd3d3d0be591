use Rattle.std.proofs.Common.{All, subst, sym, ap, ◌∙◌}
use Rattle.std.specs.List.{list_any}
use Rattle.cert_text.specs.Lines.{is_far}
use Rattle.cert_text.specs.Laws.Counts.{IsCount}
use Rattle.cert_text.specs.Laws.Forms.{form_counts}
use Rattle.text_lines.specs.Laws.Reading.{mapped_some}
use Rattle.cert_text.proofs.lines.formed.Goals as goal

pub node-requires : goal.node-requires
node-requires c =
    subst (All IsCount) (sym c.deref-2.ensures.value)
    (form_counts c.args.form c.args.bytes.now c.in-Some.rest.now c.form_line.new.found.items (mapped_some _ _ _ _ c.in-Ok.ensures c.in-Some.is)
    (sym (c.any_far.ensures ∙ ap (list_any is_far) c.deref.ensures.value) ∙ c.if-any_far.false))
