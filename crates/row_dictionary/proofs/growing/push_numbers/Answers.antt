use Rattle.std.proofs.Common.{rules, ◌≡◌, ◌<◌, ◌≤◌, ◌∙◌, ◌+◌, ◌++◌, ◌∷◌, [], ap₂, sym, arith, length, get_or, take_all, pos, ℤ, List, SFits, w64, to_z-of_z}
use Rattle.std.proofs.lemmas.List.{take_more}
use Rattle.row_pivots.specs.Growing.{row_line}
use Rattle.row_dictionary.proofs.Numbers.{small_more, small_all}
use Rattle.row_dictionary.proofs.RowNumbers.{row_length}
use Rattle.row_dictionary.proofs.growing.push_numbers.Goals as goal

pub loop-j-preserved : goal.loop-j-preserved
loop-j-preserved c =
    let v = c.args.variables.now in
    let row = c.args.row.now in
    let line = row_line (length row.a) c.args.den.now v.basic v.free c.args.lines.now row in
    let j = c.loop-j.j in
    let long = row_length c.args.den.now v.basic v.free c.args.lines.now row c.requires.len c.requires.lines in
    let below : j < length v.free + 1 = search rules in
    let within : j < length line = omega (arith, long, below) in
    let fits : SFits w64 c.in-Some.x = search rules in
    let x : c.in-Some.x ≡ get_or line j (pos 0) = c.small_sum.ensures.value c.in-Some.x c.in-Some.is ∙ c.row_sum.ensures.value in (
      c.in_ok-push-in-Some.ensures.items ∙ ap₂ (λ (t : List ℤ) (y : ℤ). t ++ y ∷ []) c.loop-j.invariant.0 (to_z-of_z fits ∙ x) ∙ sym (take_more line j (pos 0) within),
      small_more line j c.in-Some.x within c.loop-j.invariant.1 x (c.small_sum.ensures.small c.in-Some.x c.in-Some.is),
    )

pub returns-clause-held : goal.returns-clause-held
returns-clause-held c =
    let v = c.args.variables.now in
    let row = c.args.row.now in
    let line = row_line (length row.a) c.args.den.now v.basic v.free c.args.lines.now row in
    let long = row_length c.args.den.now v.basic v.free c.args.lines.now row c.requires.len c.requires.lines in
    let past : length v.free + 1 ≤ c.loop-j.j = search rules in
    λ t. c.loop-j.invariant.0 ∙ take_all c.loop-j.j line (omega (arith, long, past))

pub returns-clause-small : goal.returns-clause-small
returns-clause-small c =
    let v = c.args.variables.now in
    let row = c.args.row.now in
    let line = row_line (length row.a) c.args.den.now v.basic v.free c.args.lines.now row in
    let long = row_length c.args.den.now v.basic v.free c.args.lines.now row c.requires.len c.requires.lines in
    let past : length v.free + 1 ≤ c.loop-j.j = search rules in
    λ t. small_all line c.loop-j.j (omega (arith, long, past)) c.loop-j.invariant.1
