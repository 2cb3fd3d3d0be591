use Rattle.std.proofs.Common.{◌≡◌, ◌∙◌, ◌++◌, ◌∷◌, [], List, sym, ap, subst}
use Rattle.warm_rows.specs.Keeping.{Kept}
use Rattle.warm_rows.specs.Warming.{Gives, rows_of}
use Rattle.warm_rows.specs.declared.step.Step.{Step}
use Rattle.warm_rows.specs.declared.step.Step.TheVariants as Steps
use Rattle.warm_rows.proofs.Steps.{kept_less}
use Rattle.warm_rows.proofs.Undoing.{last_basic, gives_without, came_from}
use Rattle.warm_rows.proofs.warm.Warm.undo.Goals as goal

pub pop-requires-in-Some-Row : goal.pop-requires-in-Some-Row
pop-requires-in-Some-Row c =
    let s = c.self.inside in
    let left = c.pop.new.self.items in
    let row = c.in-Some-Row.field-0-0 in
    let is : c.self.inside.steps.items ≡ c.pop.new.self.items ++ Steps.Row c.in-Some-Row.field-0-0 ∷ [] = c.in-Some-Row.ensures.items ∙ ap (λ (x : Step). c.pop.new.self.items ++ x ∷ []) c.in-Some-Row.field-0-is in
    let kept = subst (λ (l : List Step). Kept c.self.inside.vars l c.self.inside.dictionary) is c.self.invariant in
    record { last = last_basic s.vars left row s.dictionary kept.gives }

pub invariant_of-self-in-Some-Row : goal.invariant_of-self-in-Some-Row
invariant_of-self-in-Some-Row c =
    let s = c.self.inside in
    let left = c.pop.new.self.items in
    let row = c.in-Some-Row.field-0-0 in
    let is : c.self.inside.steps.items ≡ c.pop.new.self.items ++ Steps.Row c.in-Some-Row.field-0-0 ∷ [] = c.in-Some-Row.ensures.items ∙ ap (λ (x : Step). c.pop.new.self.items ++ x ∷ []) c.in-Some-Row.field-0-is in
    let kept = subst (λ (l : List Step). Kept c.self.inside.vars l c.self.inside.dictionary) is c.self.invariant in
    let p = c.pop-in-Some-Row.ensures in
    kept_less s.vars left _ s.dictionary (Steps.Row row) kept (gives_without s.vars left row s.dictionary _ kept.gives p.vars p.basic p.free p.held)

pub returns-in-Some-Row-clause-gives : goal.returns-in-Some-Row-clause-gives
returns-in-Some-Row-clause-gives c =
    let s = c.self.inside in
    let left = c.pop.new.self.items in
    let row = c.in-Some-Row.field-0-0 in
    let is : c.self.inside.steps.items ≡ c.pop.new.self.items ++ Steps.Row c.in-Some-Row.field-0-0 ∷ [] = c.in-Some-Row.ensures.items ∙ ap (λ (x : Step). c.pop.new.self.items ++ x ∷ []) c.in-Some-Row.field-0-is in
    let kept = subst (λ (l : List Step). Kept c.self.inside.vars l c.self.inside.dictionary) is c.self.invariant in
    let p = c.pop-in-Some-Row.ensures in
    gives_without s.vars left row s.dictionary _ kept.gives p.vars p.basic p.free p.held

pub pivot_back-requires : goal.pivot_back-requires
pivot_back-requires c =
    let s = c.self.inside in
    let left = c.pop.new.self.items in
    let out = c.in-Some-Pivot.leaving in
    let into = c.in-Some-Pivot.entering in
    let is : c.self.inside.steps.items ≡ c.pop.new.self.items ++ Steps.Pivot c.in-Some-Pivot.leaving c.in-Some-Pivot.entering ∷ [] = c.in-Some-Pivot.ensures.items ∙ ap (λ (x : Step). c.pop.new.self.items ++ x ∷ []) c.in-Some-Pivot.field-0-is in
    let kept = subst (λ (l : List Step). Kept c.self.inside.vars l c.self.inside.dictionary) is c.self.invariant in
    let w = kept.held left (Steps.Pivot out into) [] (λ i. left ++ Steps.Pivot out into ∷ []) in
    (rows_of left, w.table, came_from s.vars left out into s.dictionary kept.gives w)

pub invariant_of-self-in-Some-Pivot : goal.invariant_of-self-in-Some-Pivot
invariant_of-self-in-Some-Pivot c =
    let s = c.self.inside in
    let left = c.pop.new.self.items in
    let out = c.in-Some-Pivot.leaving in
    let into = c.in-Some-Pivot.entering in
    let is : c.self.inside.steps.items ≡ c.pop.new.self.items ++ Steps.Pivot c.in-Some-Pivot.leaving c.in-Some-Pivot.entering ∷ [] = c.in-Some-Pivot.ensures.items ∙ ap (λ (x : Step). c.pop.new.self.items ++ x ∷ []) c.in-Some-Pivot.field-0-is in
    let kept = subst (λ (l : List Step). Kept c.self.inside.vars l c.self.inside.dictionary) is c.self.invariant in
    let w = kept.held left (Steps.Pivot out into) [] (λ i. left ++ Steps.Pivot out into ∷ []) in
    let same : c.pivot_back.new.self ≡ w.table = c.pivot_back.ensures (rows_of left) w.table (came_from s.vars left out into s.dictionary kept.gives w) in
    kept_less s.vars left _ s.dictionary (Steps.Pivot out into) kept (subst (Gives s.vars left) (sym same) w.gives)

pub returns-clause-gives : goal.returns-clause-gives
returns-clause-gives c =
    let s = c.self.inside in
    let left = c.pop.new.self.items in
    let out = c.in-Some-Pivot.leaving in
    let into = c.in-Some-Pivot.entering in
    let is : c.self.inside.steps.items ≡ c.pop.new.self.items ++ Steps.Pivot c.in-Some-Pivot.leaving c.in-Some-Pivot.entering ∷ [] = c.in-Some-Pivot.ensures.items ∙ ap (λ (x : Step). c.pop.new.self.items ++ x ∷ []) c.in-Some-Pivot.field-0-is in
    let kept = subst (λ (l : List Step). Kept c.self.inside.vars l c.self.inside.dictionary) is c.self.invariant in
    let w = kept.held left (Steps.Pivot out into) [] (λ i. left ++ Steps.Pivot out into ∷ []) in
    let same : c.pivot_back.new.self ≡ w.table = c.pivot_back.ensures (rows_of left) w.table (came_from s.vars left out into s.dictionary kept.gives w) in
    subst (Gives s.vars left) (sym same) w.gives
