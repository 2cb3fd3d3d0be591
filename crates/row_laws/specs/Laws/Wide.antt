-- A form decides where its basis is wide.
--
--   wide_decided     the basis is wide at a row just where is_wide says so of the form's line
use Rattle.std.proofs.Common.{◌≡◌, ℕ, ◌+◌, ◌≤◌, ◌^◌, List, ◌∷◌, length, refl, ap, ap₂, sym, subst, ◌∙◌, arith, ℤ, true, Option, Some, None, IsTrue, unsigned_abs, ◌↔◌}
use Rattle.std.proofs.lemmas.Bool.Decides.{nat_tests}
use Rattle.std.proofs.lemmas.List.Folds.{Any-from_list_any, list_any-from_Any}
use Rattle.std.specs.Prelude.{nat_le}
use lib.Dec.{T}
use Rattle.row_laws.specs.Computed.{line_of, is_big, is_wide}
use Rattle.row_laws.specs.Laws.Independence.{from_zero}
use Rattle.row_laws.specs.Laws.Lines.{line_of_has, has_line_of}
use Rattle.row_laws.specs.Laws.OneForm.{one_form}
use Rattle.seq_model.specs.Dictionaries.{Form, WideAt}
use Rattle.seq_model.specs.declared.row.Row.{Row}

le_is : (n m : ℕ) → nat_le n m ≡ true → n ≤ m
le_is n m e = grind (arith, nat_tests)

is_le : (n m : ℕ) → n ≤ m → nat_le n m ≡ true
is_le n m h = grind (arith, nat_tests)

pub wide_decided : (vars : ℕ) (rows : List Row) (basis : List ℕ) (f : Form vars rows basis) (row : ℕ) → WideAt vars rows basis row ↔ IsTrue (is_wide f.d (line_of row basis f.lines))
wide_decided vars rows basis f row = (there, by (line_of row basis f.lines) refl)
  where
    there : WideAt vars rows basis row → IsTrue (is_wide f.d (line_of row basis f.lines))
    there w =
        let s = one_form vars rows basis w.form f in
        let line = line_of_has 0 (vars + length rows) basis w.form.lines row w.line (from_zero (vars + length rows) basis w.form.rising) w.has in
        let big = list_any-from_Any is_big (w.form.d ∷ w.line) (w.member.0, w.number, w.member.1, w.member.2, is_le (2 ^ 62) (unsigned_abs w.number) w.wide) in
        subst IsTrue (ap₂ (λ d lines. is_wide d (line_of row basis lines)) s.0 s.1) (ap (is_wide w.form.d) line ∙ big)

    by : (found : Option (List ℤ)) → line_of row basis f.lines ≡ found → IsTrue (is_wide f.d found) → WideAt vars rows basis row
    by None e t = absurd (subst T (sym t) tt)
    by (Some line) e t =
        let a = Any-from_list_any is_big (f.d ∷ line) t in
        record { form = f; line = line; number = a.1; has = has_line_of basis f.lines row line e; member = (a.0, a.2, a.3); wide = le_is (2 ^ 62) (unsigned_abs a.1) a.4 }
