use Rattle.std.proofs.Common.{rules, ◌<◌, ◌≤◌, ◌∙◌, ap, ap₂, sym, length, get_or, pos, ℤ, List, ◌+ℤ◌, ◌*ℤ◌}
use Rattle.row_pivots.specs.Growing.{line_over}
use Rattle.row_dictionary.proofs.RowNumbers.{sum_next, sum_all}
use Rattle.row_dictionary.proofs.growing.row_sum.Goals as goal

pub loop-k-preserved : goal.loop-k-preserved
loop-k-preserved c =
    let v = c.args.variables.now in
    let row = c.args.row.now in
    let k = c.loop-k.k in
    let within : k < length row.a = search rules in (
      c.and_variable-sum.ensures.value
          ∙ ap₂ (λ (s x : ℤ). s +ℤ x *ℤ get_or (line_over c.args.den.now v.basic v.free c.args.lines.now k) c.args.j (pos 0)) c.loop-k.invariant.0 (ap (λ (l : List ℤ). get_or l k (pos 0)) c.as_slice-a.ensures)
          ∙ sym (sum_next k c.args.j c.args.den.now v.basic v.free c.args.lines.now row within),
      c.and_variable-sum.ensures.within,
    )

pub returns-clause-value : goal.returns-clause-value
returns-clause-value c =
    let v = c.args.variables.now in
    let past : length c.args.row.now.a ≤ c.loop-k.k = search rules in
    c.loop-k.invariant.0 ∙ sum_all c.loop-k.k c.args.j c.args.den.now v.basic v.free c.args.lines.now c.args.row.now past
