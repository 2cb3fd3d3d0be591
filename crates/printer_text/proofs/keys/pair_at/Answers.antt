use Rattle.std.proofs.Common.{rules}
use Rattle.printer_text.proofs.RangeLaws.{in_grains}
use Rattle.printer_text.proofs.keys.pair_at.Goals as goal

pub returns-in-Ok-clause-x : goal.returns-in-Ok-clause-x
returns-in-Ok-clause-x c = in_grains c.args.grain c.args.low c.args.high c.in-Ok.pair.x c.grains.result c.grains-2.result (search rules) (search rules) (search rules) (search rules) (search rules)

pub returns-in-Ok-clause-y : goal.returns-in-Ok-clause-y
returns-in-Ok-clause-y c = in_grains c.args.grain c.args.low c.args.high c.in-Ok.pair.y c.grains.result c.grains-2.result (search rules) (search rules) (search rules) (search rules) (search rules)
