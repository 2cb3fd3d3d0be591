use Rattle.std.proofs.Common.{sym, ◌∙◌}
use Rattle.printer_text.proofs.KeyLaws.{first_is_next}
use Rattle.printer_text.proofs.keys.first_other.Goals as goal

pub returns : goal.returns
returns c = c.next_other.ensures.value ∙ sym (first_is_next c.args.keys.now c.args.table.now.entries c.next_other.ensures.ascending)
