use Rattle.std.proofs.Common.{◌≡◌, sym, ap, subst, ◌∙◌, arith, length, map, get_or, All, [], ◌<◌}
use Rattle.std.proofs.lemmas.List.{length-map}
use Rattle.std.proofs.lemmas.List.Elements.{All-get_or}
use Rattle.integer_laws.specs.Laws.InPlace.{get_or-rewritten, rewritten_more, rewritten_all}
use Rattle.row_pivots.specs.Ends.{Small}
use Rattle.row_dictionary.specs.Tables.{step_line, IsLine}
use Rattle.row_dictionary.proofs.Lines.{at_map}
use Rattle.row_dictionary.proofs.table.pivot_lines.Goals as goal

pub pivot-requires-clause-line : goal.pivot-requires-clause-line
pivot-requires-clause-line c =
    let f = step_line c.args.step.now c.args.by.now in
    let old = c.args.lines.now in
    let i = c.loop-line.line-index in
    let d = c.line-item.result in
    let long = length-map old f in
    let within : i < length old = omega arith in
    let read : get_or c.loop-line.lines i d ≡ get_or old i d = ap (λ t. get_or t i d) c.loop-line.invariant ∙ get_or-rewritten i (map f old) old d long (omega (arith, long, within)) in
    subst (λ t. IsLine (length c.args.by.now) t) (sym read) (All-get_or (IsLine (length c.args.by.now)) old i d within c.requires.lines)

pub pivot-requires-clause-fits : goal.pivot-requires-clause-fits
pivot-requires-clause-fits c =
    let f = step_line c.args.step.now c.args.by.now in
    let old = c.args.lines.now in
    let i = c.loop-line.line-index in
    let d = c.line-item.result in
    let long = length-map old f in
    let within : i < length old = omega arith in
    let read : get_or c.loop-line.lines i d ≡ get_or old i d = ap (λ t. get_or t i d) c.loop-line.invariant ∙ get_or-rewritten i (map f old) old d long (omega (arith, long, within)) in
    let fits = All-get_or (IsLine (length c.args.by.now)) (map f old) i [] (omega (arith, long, within)) c.requires.fits in
    subst (λ t. All Small (f t)) (sym read) (subst (All Small) (at_map f old i [] d within) fits.1)

pub loop-line-preserved : goal.loop-line-preserved
loop-line-preserved c =
    let f = step_line c.args.step.now c.args.by.now in
    let old = c.args.lines.now in
    let i = c.loop-line.line-index in
    let d = c.line-item.result in
    let long = length-map old f in
    let within : i < length old = omega arith in
    let read : get_or c.loop-line.lines i d ≡ get_or old i d = ap (λ t. get_or t i d) c.loop-line.invariant ∙ get_or-rewritten i (map f old) old d long (omega (arith, long, within)) in
    rewritten_more i (map f old) old c.loop-line.lines c.pivot.new.self [] long (omega (arith, long, within)) c.loop-line.invariant (c.pivot.ensures ∙ ap f read ∙ sym (at_map f old i [] d within))

pub returns : goal.returns
returns c =
    let f = step_line c.args.step.now c.args.by.now in
    let long = length-map c.args.lines.now f in
    rewritten_all c.loop-line.line-index (map f c.args.lines.now) c.args.lines.now c.loop-line.lines (omega (arith, long)) (omega arith) c.loop-line.invariant
