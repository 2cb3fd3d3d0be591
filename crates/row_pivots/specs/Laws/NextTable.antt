-- Whatever table a program makes of the next basis, it is the one that the measure speaks of.
--
--   seen_next     a table of the basis in which the least-numbered variables were swapped is the next one
use Rattle.std.proofs.Common.{◌≡◌, ◌≢◌, ℕ, ◌+◌, List, length, ap, sym, subst, ◌∙◌, arith, ℤ, ◌⊎◌, Option, Some, None, ◌↔◌}
use Rattle.std.proofs.lemmas.Int.{ints}
use Rattle.integer_laws.specs.Members.{In}
use Rattle.row_laws.specs.Computed.{leaving, entering, first_positive}
use Rattle.row_laws.specs.Laws.Independence.{from_zero}
use Rattle.row_laws.specs.Laws.Lines.{line_of_has}
use Rattle.row_laws.specs.Laws.Pivots.{Left, left, Entered, entered, entering_is, free_climbs, rising_same, same_line}
use Rattle.row_pivots.specs.Laws.Measure.{NextStep, made, made_moves, one_table}
use Rattle.row_pivots.specs.Steps.{Table, IsTable, table_of, pivoted, after_leaving, after_entering, next_of}
use Rattle.row_pivots.specs.Tables.{AreRowsOf}
use Rattle.seq_model.specs.Dictionaries.{free_of, Form}
use Rattle.seq_model.specs.Walks.{entries, Leaves, Enters}
use Rattle.seq_model.specs.declared.row.Row.{Row}

leaving_is : (vars : ℕ) (rows : List Row) (basis : List ℕ) (f : Form vars rows basis) (out : ℕ) → Leaves basis f.lines out → leaving basis f.lines ≡ Some out
leaving_is vars rows basis f out l = by (leaving basis f.lines) (left 0 (vars + length rows) basis f.lines (from_zero (vars + length rows) basis f.rising))
  where
    by : (found : Option ℕ) → Left basis f.lines found → found ≡ Some out
    by None n = absurd (let h = n out l.line l.has in let k = l.negative in omega (arith, ints, h, k))
    by (Some z) m = ap Some (same_line (vars + length rows) basis f.lines z out (from_zero (vars + length rows) basis f.rising) m l).0

first_is : (count : ℕ) (basis : List ℕ) (es : List ℤ) (into : ℕ) → Enters (free_of count basis) es into → first_positive (free_of count basis) es ≡ Some into
first_is count basis es into e = by (first_positive (free_of count basis) es) (entered 0 count (free_of count basis) es (free_climbs count basis))
  where
    by : (found : Option ℕ) → Entered (free_of count basis) es found → found ≡ Some into
    by None n = absurd (let h = n into e.entry e.has in let k = e.positive in omega (arith, ints, h, k))
    by (Some z) m = ap Some (let a = m.least into e.entry e.has e.positive in let b = e.least z m.entry m.has m.positive in omega (arith, a, b))

pub seen_next : (vars : ℕ) (rows : List Row) → AreRowsOf vars rows → (basis : List ℕ) (f : Form vars rows basis) (out into : ℕ) (l : Leaves basis f.lines out) → Enters (free_of (vars + length rows) basis) (entries l.line) into
    → (m : Table) → IsTable vars rows m → ((z : ℕ) → In z m.basis ↔ ((z ≡ into) ⊎ (In z basis × (z ≢ out)))) → next_of (vars + length rows) (table_of vars rows basis f) ≡ Some m
seen_next vars rows are basis f out into l en m is swaps =
    ap (after_leaving (vars + length rows) (table_of vars rows basis f)) (leaving_is vars rows basis f out l)
    ∙ ap (after_entering (vars + length rows) (table_of vars rows basis f) out)
    (ap (entering (free_of (vars + length rows) basis)) (line_of_has 0 (vars + length rows) basis f.lines out l.line (from_zero (vars + length rows) basis f.rising) l.has)
    ∙ entering_is (free_of (vars + length rows) basis) l.line ∙ first_is (vars + length rows) basis (entries l.line) into en)
    ∙ ap Some (one_table vars rows (pivoted (vars + length rows) (table_of vars rows basis f) out into) m same next.table is)
  where
    next : NextStep vars rows basis (pivoted (vars + length rows) (table_of vars rows basis f) out into)
    next = made vars rows are basis f out l into en

    P : List ℕ
    P = (pivoted (vars + length rows) (table_of vars rows basis f) out into).basis

    same : (pivoted (vars + length rows) (table_of vars rows basis f) out into).basis ≡ m.basis
    same = rising_same 0 (vars + length rows) P m.basis (from_zero (vars + length rows) P next.table.form.rising) (from_zero (vars + length rows) m.basis is.form.rising) (λ z i. (swaps z).1 (there z i)) (λ z i. back z i)
      where
        moved : (next.w.enter ≡ into) × (next.w.leave ≡ out)
        moved = made_moves vars rows are basis f out l into en

        there : (z : ℕ) → In z P → (z ≡ into) ⊎ (In z basis × (z ≢ out))
        there z i = subst (λ o. (z ≡ into) ⊎ (In z basis × (z ≢ o))) moved.1 (subst (λ e. (z ≡ e) ⊎ (In z basis × (z ≢ next.w.leave))) moved.0 ((next.step.swaps z).0 i))

        back : (z : ℕ) → In z m.basis → In z P
        back z i = (next.step.swaps z).1 (subst (λ e. (z ≡ e) ⊎ (In z basis × (z ≢ next.w.leave))) (sym moved.0) (subst (λ o. (z ≡ into) ⊎ (In z basis × (z ≢ o))) (sym moved.1) ((swaps z).0 i)))
