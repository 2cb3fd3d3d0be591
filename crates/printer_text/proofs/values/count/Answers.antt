use Rattle.std.proofs.Common.{sym}
use Rattle.printer_text.proofs.ItemLaws.{count_is}
use Rattle.printer_text.proofs.values.count.Goals as goal

pub returns-clause-value : goal.returns-clause-value
returns-clause-value c = sym (count_is c.args.values.now)
