use Rattle.std.proofs.Common.{◌≡◌, ◌∙◌, ◌++◌, ◌∷◌, [], refl, ap, ap₂, sym, subst, suc, length, List, ℕ, ℤ, All}
use Rattle.std.proofs.lemmas.List.Elements.{All-push}
use lib.Dec.{T}
use Rattle.row_pivots.specs.Ends.{Small}
use Rattle.row_pivots.specs.Growing.{row_line}
use Rattle.row_dictionary.specs.Pushing.{line_of}
use Rattle.row_pivots.specs.Laws.Grown.{length-more}
use Rattle.row_dictionary.specs.Seen.{Seen}
use Rattle.row_dictionary.specs.Tables.{IsLine, AreLines}
use Rattle.row_dictionary.proofs.RowNumbers.{row_length}
use Rattle.row_dictionary.proofs.dictionary.Dictionary.push_row.Goals as goal

pub returns-then-not-branch-clause-is : goal.returns-then-not-branch-clause-is
returns-then-not-branch-clause-is c =
    let t = c.args.self.now in
    let row = c.args.row.now in
    let s = c.self.inside in
    let no = c.in_ok-push_numbers.ensures.wide (λ i. absurd (subst T (sym i ∙ c.if-not-branch.true) tt)) in
    let same : row_line (length row.a) s.den s.variables.basic s.variables.free c.as_slice.result.now row ≡ line_of t row =
    ap (λ (l : List (List ℤ)). row_line (length row.a) s.den s.variables.basic s.variables.free l row) c.as_slice.ensures.value
    ∙ ap (λ n. row_line n s.den s.variables.basic s.variables.free s.lines.items row) c.requires.long
    ∙ ap (λ (v : Seen). row_line t.vars v.d v.basic v.free v.lines row) c.self.view_is in
    (λ all. no (subst (All Small) (sym same) all), refl)

pub invariant_of-self-2 : goal.invariant_of-self-2
invariant_of-self-2 c =
    let s = c.self.inside in
    let row = c.args.row.now in
    let shape = c.self.invariant.0 in
    let line = row_line (length row.a) s.den s.variables.basic s.variables.free c.as_slice.result.now row in
    let held = c.if-not-branch.false in
    let lines_are : c.as_slice.result.now ≡ s.lines.items = c.as_slice.ensures.value in
    let numbers : c.made.result ≡ line = c.made.ensures ∙ c.in_ok-push_numbers.ensures.held held in
    let small : All Small line = c.in_ok-push_numbers.ensures.small held in
    let are : AreLines (suc (length s.variables.free)) c.as_slice.result.now = subst (AreLines (suc (length s.variables.free))) (sym lines_are) shape.2 in
    let long = row_length s.den s.variables.basic s.variables.free c.as_slice.result.now row (shape.3 ∙ sym (ap length lines_are)) are in
    let added : c.add_line.new.lines.items ≡ s.lines.items ++ line ∷ [] = c.add_line.ensures ∙ ap₂ (λ (a : List (List ℤ)) (l : List ℤ). a ++ l ∷ []) c.reserve.ensures.items numbers in
    let all : AreLines (suc (length s.variables.free)) (s.lines.items ++ line ∷ []) = All-push (IsLine (suc (length s.variables.free))) s.lines.items line shape.2 (long, small) in
    let free : c.grow.new.self.free ≡ s.variables.free = c.grow.ensures.free in
    let more : length c.grow.new.self.basic ≡ length c.add_line.new.lines.items =
    ap length c.in_ok-grow.ensures.basic ∙ length-more s.variables.basic _ ∙ ap suc shape.3 ∙ sym (length-more s.lines.items line) ∙ sym (ap length added) in (
      (shape.0, shape.1, subst (λ (f : List ℕ). AreLines (suc (length f)) c.add_line.new.lines.items) (sym free) (subst (AreLines (suc (length s.variables.free))) (sym added) all), more),
      c.self.invariant.1 ∙ ap (λ (f : List ℕ). suc (length f)) (sym free),
      ap length free ∙ c.self.invariant.2,
    )
