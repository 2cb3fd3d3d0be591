use Rattle.std.proofs.Common.{rules, FitsSigned, to_z-of_z}
use Rattle.std.specs.Int.{w64}
use Rattle.printer_text.proofs.RangeLaws.{in_grains}
use Rattle.printer_text.proofs.keys.grains_at.Goals as goal

pub returns-in-Ok-clause-bounds : goal.returns-in-Ok-clause-bounds
returns-in-Ok-clause-bounds c =
    let fits : FitsSigned w64 c.in-Ok.count = search rules in
    simp to_z-of_z (in_grains c.args.grain c.args.low c.args.high c.in-Ok.count c.grains.result c.grains-2.result (search rules) (search rules) (search rules) (search rules) (search rules))
