use Rattle.std.proofs.Common.{◌≡◌, ◌+◌, ◌<◌, ◌≤◌, [], ◌∷◌, ◌++◌, length, drop, get_or, Some, Ok, sym, subst, rules, arith}
use Rattle.seq_model.specs.Parts.{tip}
use Rattle.toml.specs.Data.{as_table}
use Rattle.toml.specs.View.{view, items_view, table_view}
use Rattle.printer_text.specs.Printers.{part_in}
use Rattle.printer_text.specs.Values.{count}
use Rattle.printer_text.proofs.HullLaws.{Behind, begins, goes_on, ends}
use Rattle.printer_text.proofs.ItemLaws.{count_is}
use Rattle.printer_text.proofs.printer.read_parts.Goals as goal

pub loop-index-init : goal.loop-index-init
loop-index-init c =
    let all = items_view c.args.listed.now in
    let items : c.in-Ok.parts.items ≡ tip ∷ [] = search rules in
    subst (Behind c.args.sizes.now all all 1) (sym items) (begins c.args.sizes.now all)

pub loop-index-preserved : goal.loop-index-preserved
loop-index-preserved c =
    let loop = c.loop-index in
    let vs = c.args.listed.now in
    let d = c.index-listed-index.result in
    let below : loop.index < length vs = search rules in
    let items : c.push.new.self.items ≡ loop.parts.items ++ c.in-Ok-kept_part.kept ∷ [] = search rules in
    let is : as_table (view (get_or vs loop.index d)) ≡ Some (table_view c.in-Some.table.now) = search rules in
    let read : part_in (loop.index + 1) c.args.sizes.now (table_view c.in-Some.table.now) ≡ Ok c.in_ok-part.part = search rules in
    subst (Behind c.args.sizes.now (items_view vs) (items_view (drop (loop.index + 1) vs)) (loop.index + 1 + 1)) (sym items)
    (goes_on c.args.sizes.now (items_view vs) vs loop.index d loop.parts.items (table_view c.in-Some.table.now) c.in_ok-part.part c.in-Ok-kept_part.kept below loop.invariant is read (search rules) (search rules))

pub returns-clause-ok : goal.returns-clause-ok
returns-clause-ok c =
    let loop = c.loop-index in
    let vs = c.args.listed.now in
    let number = count_is vs in
    let few = c.requires.few in
    let past : length vs ≤ loop.index = omega (arith, c.loop-index-test.false) in
    let fits : count (items_view vs) ≤ 12 = omega (arith, number, few) in
    ends c.args.sizes.now (items_view vs) vs loop.index loop.parts.items past fits loop.invariant
