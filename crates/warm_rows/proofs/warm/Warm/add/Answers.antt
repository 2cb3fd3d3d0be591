use Rattle.std.proofs.Common.{rules, ◌≡◌, ◌∙◌, ◌+◌, ◌<◌, ◌^◌, ◌++◌, ◌∷◌, [], List, All, length, refl, sym, ap, subst}
use Rattle.row_pivots.specs.Ends.{Small}
use Rattle.row_dictionary.specs.Pushing.{line_of, with_row}
use Rattle.warm_rows.specs.Warming.{Warmth, rows_of}
use Rattle.warm_rows.specs.declared.step.Step.{Step}
use Rattle.warm_rows.specs.declared.step.Step.TheVariants as Steps
use Rattle.warm_rows.proofs.Steps.{same_warmth, kept_row}
use Rattle.warm_rows.proofs.warm.Warm.add.Goals as goal

pub invariant_of-self-in-Held : goal.invariant_of-self-in-Held
invariant_of-self-in-Held c =
    let s = c.self.inside in
    let steps : c.push_step.new.steps.items ≡ c.self.inside.steps.items ++ Steps.Row c.args.row.now ∷ [] = search rules in
    let table : c.push.new.self ≡ with_row c.self.inside.dictionary c.args.row.now = search rules in
    let vars_are : c.self.inside.vars ≡ c.args.self.now.vars = ap (λ (w : Warmth). w.vars) c.self.view_is in
    let steps_are : c.self.inside.steps.items ≡ c.args.self.now.steps = ap (λ (w : Warmth). w.steps) c.self.view_is in
    let few : c.self.inside.vars + length (rows_of c.self.inside.steps.items) + 1 < 2 ^ 32 =
    subst (λ v. v + length (rows_of c.self.inside.steps.items) + 1 < 2 ^ 32) (sym vars_are) (subst (λ (l : List Step). c.args.self.now.vars + length (rows_of l) + 1 < 2 ^ 32) (sym steps_are) c.requires.count) in
    kept_row s.vars s.steps.items c.push_step.new.steps.items s.dictionary c.push.new.self c.args.row.now c.self.invariant c.in_ok-push.ensures.fits (c.requires.long ∙ sym vars_are) few steps table

pub returns-in-Held-clause-kept : goal.returns-in-Held-clause-kept
returns-in-Held-clause-kept c =
    let s = c.self.inside in
    let steps : c.push_step.new.steps.items ≡ c.self.inside.steps.items ++ Steps.Row c.args.row.now ∷ [] = search rules in
    let table : c.push.new.self ≡ with_row c.self.inside.dictionary c.args.row.now = search rules in
    let vars_are : c.self.inside.vars ≡ c.args.self.now.vars = ap (λ (w : Warmth). w.vars) c.self.view_is in
    let steps_are : c.self.inside.steps.items ≡ c.args.self.now.steps = ap (λ (w : Warmth). w.steps) c.self.view_is in
    let few : c.self.inside.vars + length (rows_of c.self.inside.steps.items) + 1 < 2 ^ 32 =
    subst (λ v. v + length (rows_of c.self.inside.steps.items) + 1 < 2 ^ 32) (sym vars_are) (subst (λ (l : List Step). c.args.self.now.vars + length (rows_of l) + 1 < 2 ^ 32) (sym steps_are) c.requires.count) in
    kept_row s.vars s.steps.items c.push_step.new.steps.items s.dictionary c.push.new.self c.args.row.now c.self.invariant c.in_ok-push.ensures.fits (c.requires.long ∙ sym vars_are) few steps table

pub returns-in-TooWide-clause-is : goal.returns-in-TooWide-clause-is
returns-in-TooWide-clause-is c =
    let table : c.push.new.self ≡ c.self.inside.dictionary = search rules in
    let wide : All Small (line_of c.self.inside.dictionary c.args.row.now) → ⊥ = search rules in
    let old : Warmth = record { vars = c.self.inside.vars; steps = c.self.inside.steps.items; table = c.self.inside.dictionary } in
    let new : Warmth = record { vars = c.self.inside.vars; steps = c.reserve.new.self.items; table = c.push.new.self } in
    (subst (λ (w : Warmth). All Small (line_of w.table c.args.row.now) → ⊥) c.self.view_is wide, same_warmth new old refl c.reserve.ensures.items table ∙ c.self.view_is)
