use Rattle.std.proofs.Common.{All, subst, sym}
use Rattle.cert_text.specs.Laws.Mults.{IsDue}
use Rattle.cert_text.specs.Laws.Forms.{bound_dues}
use Rattle.text_lines.specs.Laws.Reading.{mapped_some}
use Rattle.cert_text.proofs.lines.paired.Goals as goal

pub mults_of_pairs-requires : goal.mults_of_pairs-requires
mults_of_pairs-requires c =
    subst (All IsDue) (sym c.deref.ensures.value) (bound_dues c.args.bytes.now c.in-Some.rest.now c.bound_line.new.found.items (mapped_some _ _ _ _ c.in-Ok.ensures c.in-Some.is))
