use Rattle.std.proofs.Common.{◌++◌, ◌∷◌, ◌+◌, ◌-◌, [], List, ℕ, length, sym, subst, Contains}
use Rattle.row_pivots.specs.Tables.{Holds}
use Rattle.row_dictionary.specs.Seen.{Seen, IsOf}
use Rattle.row_dictionary.proofs.Popped.{popped}
use Rattle.row_dictionary.proofs.dictionary.Dictionary.pop.Goals as goal

pub returns-clause-held : goal.returns-clause-held
returns-clause-held c = λ rows row h.
    let s = c.self.inside in
    let has : Contains s.variables.basic (s.vars + length s.variables.basic - 1) = subst (λ (t : Seen). Contains t.basic (t.vars + length t.basic - 1)) (sym c.self.view_is) c.requires.last in
    let old : Holds s.vars (rows ++ row ∷ []) s.den s.variables.basic s.variables.free s.lines.items = subst (IsOf (rows ++ row ∷ [])) (sym c.self.view_is) h in
    subst (λ (f : List ℕ). Holds s.vars rows s.den c.shrink-place.new.self.basic f c.swap_remove.new.self.items) (sym c.shrink-place.ensures.free)
    (popped s.vars rows row s.den s.variables.basic s.variables.free c.shrink-place.new.self.basic s.lines.items c.swap_remove.new.self.items c.shrink-place.result c.swap_remove.result c.self.invariant.2 has
    c.shrink-place.ensures.place c.shrink-place.ensures.basic c.swap_remove.ensures.items old)
