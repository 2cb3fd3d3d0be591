use Rattle.std.proofs.Common.{◌≡◌, rules}
use Rattle.printer_envelopes.specs.Bars.{bar}
use Rattle.printer_text.proofs.OutlineLaws.{bar_near}
use Rattle.printer_text.proofs.part.bar_outline.Goals as goal

pub returns-in-Ok-from_array-clause-outline : goal.returns-in-Ok-from_array-clause-outline
returns-in-Ok-from_array-clause-outline c =
    let corners : c.in-Ok-from_array.spots.items ≡ bar c.args.along_x c.in-Ok.low c.in-Ok-grains_at.high c.args.sizes.now.width c.args.sizes.now.depth = search rules in
    rw corners (bar_near c.args.along_x c.in-Ok.low c.in-Ok-grains_at.high c.args.sizes.now.width c.args.sizes.now.depth (search rules) (search rules) (search rules) (search rules))
