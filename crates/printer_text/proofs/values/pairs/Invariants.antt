use Rattle.std.proofs.Common.{◌≡◌, drop, []}
use Rattle.toml.specs.View.{items_view}
use Rattle.printer_text.specs.Values.{pairs_behind}
use Rattle.printer_text.proofs.values.pairs.Given as goal

abbrev pub invariant-loop-value : goal.invariant-loop-value
invariant-loop-value l = pairs_behind l.fn.grain l.fn.low l.fn.high l.spots.items (items_view (drop l.value-index l.values)) ≡ pairs_behind l.fn.grain l.fn.low l.fn.high [] (items_view l.fn.values)
