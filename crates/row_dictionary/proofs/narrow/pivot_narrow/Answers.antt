use Rattle.std.proofs.Common.{rules, set, ap, ◌∙◌, SFits, w64, to_z, of_z, to_z-of_z, int_div, ◌*ℤ◌}
use Rattle.std.proofs.lemmas.List.Elements.{All-set}
use Rattle.row_dictionary.specs.Mixing.{Narrow}
use Rattle.row_dictionary.proofs.Crossing.{turned_line}
use Rattle.row_dictionary.proofs.narrow.pivot_narrow.Goals as goal

pub returns-clause-is : goal.returns-clause-is
returns-clause-is c =
    let m = c.args.mix.now in
    let fits : SFits w64 c.new_turned-x.result = search rules in
    ap (set c.cross-narrow.new.line m.place) (to_z-of_z fits ∙ c.new_turned-x.ensures)
    ∙ ap (λ t. set t m.place (int_div (m.d *ℤ m.q) m.g)) c.cross-narrow.ensures.is
    ∙ turned_line m c.args.line.now c.args.by.now

pub returns-clause-narrow : goal.returns-clause-narrow
returns-clause-narrow c =
    λ t. All-set Narrow c.cross-narrow.new.line c.args.mix.now.place (to_z w64 (of_z w64 c.new_turned-x.result)) (c.and_narrow.ensures.one t) (c.cross-narrow.ensures.narrow (c.and_narrow.ensures.all t))
