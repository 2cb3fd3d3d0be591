use Rattle.std.proofs.Common.{◌≡◌, ◌∙◌, [], drop, sym, rules, arith, FitsSigned, to_z-of_z}
use Rattle.std.specs.Int.{w64}
use Rattle.toml.specs.View.{items_view}
use Rattle.printer_text.specs.Values.{pairs_behind}
use Rattle.printer_text.proofs.ItemLaws.{pairs_stop, pairs_end}
use Rattle.printer_text.proofs.values.pairs.Goals as goal

pub returns-in-Err-clause-err : goal.returns-in-Err-clause-err
returns-in-Err-clause-err c =
    let fits_grain : FitsSigned w64 c.args.grain = search rules in
    let fits_low : FitsSigned w64 c.args.low = search rules in
    let fits_high : FitsSigned w64 c.args.high = search rules in
    let kept : pairs_behind c.args.grain c.args.low c.args.high c.loop-value.spots.items (items_view (drop c.loop-value.value-index c.args.values.now)) ≡ pairs_behind c.args.grain c.args.low c.args.high [] (items_view c.args.values.now) = simp to_z-of_z at c.loop-value.invariant in
    sym kept ∙ pairs_stop c.args.grain c.args.low c.args.high c.loop-value.spots.items c.args.values.now c.loop-value.value-index c.value-item.result c.in-Err.cause (search rules) (search rules)

pub returns-clause-ok : goal.returns-clause-ok
returns-clause-ok c =
    let fits_grain : FitsSigned w64 c.args.grain = search rules in
    let fits_low : FitsSigned w64 c.args.low = search rules in
    let fits_high : FitsSigned w64 c.args.high = search rules in
    let kept : pairs_behind c.args.grain c.args.low c.args.high c.loop-value.spots.items (items_view (drop c.loop-value.value-index c.args.values.now)) ≡ pairs_behind c.args.grain c.args.low c.args.high [] (items_view c.args.values.now) = simp to_z-of_z at c.loop-value.invariant in
    sym kept ∙ pairs_end c.args.grain c.args.low c.args.high c.loop-value.spots.items c.args.values.now c.loop-value.value-index (omega (arith, c.loop-value-test.false))
