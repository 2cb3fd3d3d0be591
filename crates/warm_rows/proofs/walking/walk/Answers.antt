use Rattle.std.proofs.Common.{rules, ◌≡◌, ◌∙◌, IsTrue, List, sym, ap, subst}
use Rattle.warm_rows.specs.Walking.{OnWalk, noted}
use Rattle.warm_rows.specs.Warming.{rows_of}
use Rattle.warm_rows.specs.declared.step.Step.{Step}
use Rattle.warm_rows.proofs.Walks.{held_on, goes, goes_fewer, ends}
use Rattle.warm_rows.proofs.walking.walk.Goals as goal

pub returns-then-not-note-clause-end : goal.returns-then-not-note-clause-end
returns-then-not-note-clause-end c =
    let steps = c.args.steps.now.items in
    let first = c.args.dictionary.now in
    let l = c.loop-dictionary in
    let n : IsTrue c.note.result → ⊥ = search rules in
    let turned = c.turn_any-turn.ensures.turned (rows_of steps) (held_on steps l.steps.items first l.dictionary l.invariant) in
    ends steps l.steps.items first l.dictionary c.turn_any-turn.new.self c.turn_any-turn.result l.invariant turned (λ g. n (c.note.ensures.goes.1 g))

pub loop-dictionary-smaller : goal.loop-dictionary-smaller
loop-dictionary-smaller c =
    let steps = c.args.steps.now.items in
    let first = c.args.dictionary.now in
    let l = c.loop-dictionary in
    let y : IsTrue c.note.result = search rules in
    let turned = c.turn_any-turn.ensures.turned (rows_of steps) (held_on steps l.steps.items first l.dictionary l.invariant) in
    goes_fewer steps l.steps.items first l.dictionary c.turn_any-turn.new.self c.turn_any-turn.result l.invariant turned (c.note.ensures.goes.0 y)

pub loop-dictionary-preserved : goal.loop-dictionary-preserved
loop-dictionary-preserved c =
    let steps = c.args.steps.now.items in
    let first = c.args.dictionary.now in
    let l = c.loop-dictionary in
    let y : IsTrue c.note.result = search rules in
    let turned = c.turn_any-turn.ensures.turned (rows_of steps) (held_on steps l.steps.items first l.dictionary l.invariant) in
    let on = goes steps l.steps.items first l.dictionary c.turn_any-turn.new.self c.turn_any-turn.result l.invariant c.turn_any-turn.ensures.fits turned c.turn_any-turn.ensures.free (c.note.ensures.goes.0 y) in
    let same : c.note.new.steps.items ≡ noted c.loop-dictionary.steps.items c.turn_any-turn.result = c.note.ensures.steps ∙ ap (λ (t : List Step). noted t c.turn_any-turn.result) c.reserve.ensures.items in
    subst (λ (t : List Step). OnWalk c.args.steps.now.items c.args.dictionary.now t c.turn_any-turn.new.self) (sym same) on
