use Rattle.std.proofs.Common.{◌∙◌, pos, All, subst}
use Rattle.integer_laws.specs.Vectors.{zeros}
use Rattle.seq_model.specs.Systems.{MeetsRows}
use Rattle.warm_rows.specs.Answering.{IsReadOff}
use Rattle.warm_rows.specs.Warming.{Warmth, IsRowStep, IsZeroPoint, Repairs, rows_of}
use Rattle.warm_rows.proofs.Repairing.{repairs, some_mults_of, zero_found}
use Rattle.warm_rows.proofs.Walks.{held_on}
use Rattle.warm_rows.proofs.warm.Warm.repair.Goals as goal

pub answer-requires-clause-some : goal.answer-requires-clause-some
answer-requires-clause-some c =
    let s = c.self.inside in
    some_mults_of (rows_of s.steps.items) c.walk.new.dictionary (held_on s.steps.items c.walk.new.steps.items s.dictionary c.walk.new.dictionary c.walk.ensures.on) c.in_ok-turn.turn c.in_ok-turn.ensures.end.ended

pub returns-clause-is : goal.returns-clause-is
returns-clause-is c =
    let s = c.self.inside in
    let on = c.walk.ensures.on in
    let end = c.in_ok-turn.ensures.end in
    let old : Warmth = record { vars = c.self.inside.vars; steps = c.self.inside.steps.items; table = c.self.inside.dictionary } in
    let new : Warmth = record { vars = c.self.inside.vars; steps = c.walk.new.steps.items; table = c.walk.new.dictionary } in
    subst (λ (w : Warmth). Repairs w (record { vars = c.self.inside.vars; steps = c.walk.new.steps.items; table = c.walk.new.dictionary }) c.in_ok-warmed.warmed) c.self.view_is
    (repairs old new (held_on s.steps.items c.walk.new.steps.items s.dictionary c.walk.new.dictionary on) (on.vars ∙ c.self.invariant.gives.vars_are) end.walks c.in_ok-turn.turn end.ended c.in_ok-warmed.warmed c.in_ok-warmed.ensures.is c.in_ok-warmed.ensures.den)

pub returns-clause-read : goal.returns-clause-read
returns-clause-read c =
    subst (λ (w : Warmth). IsReadOff (rows_of w.steps) c.walk.new.dictionary c.in_ok-warmed.warmed) c.self.view_is
    (record { turn = c.in_ok-turn.turn; ended = c.in_ok-turn.ensures.end.ended; finds = c.in_ok-warmed.ensures.is })

pub returns-clause-zero : goal.returns-clause-zero
returns-clause-zero c =
    let s = c.self.inside in
    let on = c.walk.ensures.on in
    let end = c.in_ok-turn.ensures.end in
    subst (λ (w : Warmth). All IsRowStep w.steps → MeetsRows (rows_of w.steps) (pos 1) (zeros w.vars) → IsZeroPoint w.vars c.in_ok-warmed.warmed) c.self.view_is
    (λ rows meets. zero_found s.vars s.steps.items s.dictionary c.walk.new.dictionary c.self.invariant.gives on.stays rows meets c.in_ok-turn.turn end.ended c.in_ok-warmed.warmed c.in_ok-warmed.ensures.is)
