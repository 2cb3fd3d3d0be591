use Rattle.std.proofs.Common.{◌+◌, drop}
use Rattle.toml.specs.View.{items_view}
use Rattle.printer_text.proofs.HullLaws.{Behind}
use Rattle.printer_text.proofs.printer.read_parts.Given as goal

abbrev pub invariant-loop-index : goal.invariant-loop-index
invariant-loop-index l = Behind l.fn.sizes (items_view l.fn.listed) (items_view (drop l.index l.listed)) (l.index + 1) l.parts.items
