use Rattle.std.proofs.Common.{sym, rules, FitsSigned, to_z-of_z}
use Rattle.std.specs.Int.{w64}
use Rattle.toml.specs.View.{view}
use Rattle.printer_text.proofs.ItemLaws.{pair_read}
use Rattle.printer_text.proofs.values.pair_in.Goals as goal

pub returns-clause-value : goal.returns-clause-value
returns-clause-value c =
    let fits_x : FitsSigned w64 c.in_ok-x.x = search rules in
    let fits_y : FitsSigned w64 c.in_ok-y.y = search rules in
    simp to_z-of_z (sym (pair_read c.args.grain c.args.low c.args.high c.in_ok-x.x c.in_ok-y.y (view c.args.value.now) (view c.in-Some.first.now, view c.in-Some-get.second.now) (search rules) (search rules) (search rules)))
