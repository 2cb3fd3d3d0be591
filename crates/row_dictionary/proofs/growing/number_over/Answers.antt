use Rattle.std.proofs.Common.{rules, ◌≡◌, ◌∙◌, ap, sym, subst, SFits, w64, to_z-of_z, suc, length, ◌+◌, arith, pos}
use lib.Dec.{T}
use Rattle.std.specs.Prelude.{nat_eq, if◌then◌else◌}
use Rattle.row_dictionary.specs.Laws.Placing.{number_small}
use Rattle.row_dictionary.specs.Scans.{number_at}
use Rattle.row_dictionary.proofs.RowNumbers.{basic_number, free_number}
use Rattle.row_pivots.specs.Ends.{Small}
use Rattle.row_pivots.specs.Tables.{place_of}
use Rattle.row_dictionary.proofs.growing.number_over.Goals as goal

pub returns-then-is_basic-clause-is : goal.returns-then-is_basic-clause-is
returns-then-is_basic-clause-is c =
    let v = c.args.variables.now in
    let fits : SFits w64 c.number_at.result = search rules in
    to_z-of_z fits ∙ c.number_at.ensures ∙ ap (λ r. number_at c.args.lines.now r c.args.j) c.basic_place.ensures
    ∙ basic_number c.args.den.now v.basic v.free c.args.lines.now c.args.z c.args.j c.requires.len (c.is_basic.ensures.0 c.if-is_basic.true)

pub returns-then-is_basic-clause-size : goal.returns-then-is_basic-clause-size
returns-then-is_basic-clause-size c =
    let fits : SFits w64 c.number_at.result = search rules in
    subst Small (sym (to_z-of_z fits ∙ c.number_at.ensures)) (number_small (suc (length c.args.variables.now.free)) c.args.lines.now c.requires.lines c.basic_place.result c.args.j)

pub returns-clause-is : goal.returns-clause-is
returns-clause-is c =
    let v = c.args.variables.now in
    let fits : SFits w64 c.only_at.result = search rules in
    let at : c.free_place.result + 1 ≡ suc (place_of c.args.z v.free) = let e = c.free_place.ensures.is in omega (arith, e) in
    to_z-of_z fits ∙ c.only_at.ensures.is ∙ ap (λ s. if nat_eq c.args.j s then c.args.den.now else pos 0) at
    ∙ free_number c.args.den.now v.basic v.free c.args.lines.now c.args.z c.args.j (λ k. absurd (subst T (sym (c.is_basic.ensures.1 k) ∙ c.if-is_basic.false) tt)) c.requires.j
