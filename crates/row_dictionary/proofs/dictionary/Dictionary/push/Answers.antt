use Rattle.std.proofs.Common.{◌+◌, ◌++◌, ◌∷◌, [], sym, subst}
use Rattle.row_pivots.specs.Laws.Grown.{grown}
use Rattle.row_pivots.specs.Tables.{Holds}
use Rattle.row_dictionary.specs.Pushing.{line_of}
use Rattle.row_dictionary.proofs.dictionary.Dictionary.push.Goals as goal

pub returns-clause-held : goal.returns-clause-held
returns-clause-held c = λ rows h.
    let t = c.args.self.now in
    let row = c.args.row.now in
    subst (λ n. Holds t.vars (rows ++ row ∷ []) t.d (t.basic ++ (t.vars + n) ∷ []) t.free (t.lines ++ line_of t row ∷ [])) (sym h.many) (grown t.vars rows t.d t.basic t.free t.lines h row c.requires.long)
