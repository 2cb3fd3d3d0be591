-- What a cut and one choice more leave of a trail.
use Rattle.std.proofs.Common.{◌≡◌, ℕ, ◌≤◌, ◌<◌, List, [], ◌∷◌, ◌++◌, length, get_or, take, sym, ap, subst, ◌∙◌, arith, length-append}
use Rattle.std.proofs.Math.Path.{subst₂}
use Rattle.std.proofs.lemmas.List.{get_or_default, length-take-le, take_all}
use Rattle.difference_polygon.specs.declared.rows.SideRow.{SideRow}
use Rattle.seq_model.specs.declared.job.Job.{Job}
use Rattle.seq_model.specs.declared.tree.Choice.{Choice}
use Rattle.seq_model.specs.declared.tree.Choice.TheVariants as Choices
use Rattle.seq_model.specs.declared.tree.Contact.{Contact}
use Rattle.seq_model.specs.declared.tree.Dir.{Dir}
use Rattle.cert_checker.proofs.Marks.{side_count-take-le, side_count-order, side_count-side, rows_cut, rows_order, rows_side, marks_cut, marks_more}
use Rattle.cert_checker.proofs.Stamps.{cut_back, side_stamps}
use Rattle.cert_checker.specs.Trails.{AreMarked, AreRowsOf, IsFit, IsRowFor, IsStamped, side_count}
use Rattle.cert_checker.specs.declared.trail.Trail.{Trail}

-- ---- a cut
cut_count : (path : List Choice) (marks : List ℕ) (depth n d : ℕ) → AreMarked path marks → depth < length marks → n ≡ get_or marks depth d → n ≡ side_count (take depth path)
cut_count path marks depth n d m short is = is ∙ (get_or_default marks depth d 0 short ∙ m.1 depth (omega (arith, short, m.0)))

pub fit_cut : (old new : Trail) (depth n d : ℕ) → IsFit old → depth < length old.marks.items → n ≡ get_or old.marks.items depth d → new.path.items ≡ take depth old.path.items
    → new.marks.items ≡ take depth old.marks.items → new.rows.items ≡ take n old.rows.items → new.stamps.items ≡ old.stamps.items → IsFit new
fit_cut old new depth n d fit short is path marks rows stamps =
    let count = cut_count old.path.items old.marks.items depth n d fit.marked short is in
    record {
      many_stamps = ap length stamps ∙ fit.many_stamps;
      stamped = subst₂ IsStamped (sym path) (sym stamps) (cut_back old.path.items old.stamps.items depth fit.stamped);
      marked = subst₂ AreMarked (sym path) (sym marks) (marks_cut depth old.path.items old.marks.items fit.marked);
      many_rows = ap length rows ∙ (length-take-le n old.rows.items (omega (arith, count, fit.many_rows, side_count-take-le depth old.path.items)) ∙ (count ∙ ap side_count (sym path)));
    }

pub rows_of_cut : (job : Job) (path now : List Choice) (marks : List ℕ) (rows left : List SideRow) (depth n d : ℕ) → AreMarked path marks → depth < length marks → n ≡ get_or marks depth d → now ≡ take depth path
    → left ≡ take n rows → AreRowsOf job path rows → AreRowsOf job now left
rows_of_cut job path now marks rows left depth n d m short is e f has =
    subst₂ (AreRowsOf job) (sym e) (sym (f ∙ ap (λ n. take n rows) (cut_count path marks depth n d m short is))) (rows_cut job depth path rows has)

pub all_kept : (path now : List Choice) (marks : List ℕ) (depth : ℕ) → AreMarked path marks → length marks ≤ depth → now ≡ take depth path → now ≡ path
all_kept path now marks depth m long e = e ∙ take_all depth path (omega (arith, long, m.0))

pub fit_same : (old new : Trail) → IsFit old → new.path.items ≡ old.path.items → new.marks.items ≡ old.marks.items → new.rows.items ≡ old.rows.items → new.stamps.items ≡ old.stamps.items → IsFit new
fit_same old new fit path marks rows stamps = record {
  many_stamps = ap length stamps ∙ fit.many_stamps;
  stamped = subst₂ IsStamped (sym path) (sym stamps) fit.stamped;
  marked = subst₂ AreMarked (sym path) (sym marks) fit.marked;
  many_rows = ap length rows ∙ (fit.many_rows ∙ ap side_count (sym path));
}

-- ---- one choice more
pub fit_order : (old new : Trail) (i j : ℕ) → IsFit old → new.path.items ≡ old.path.items ++ Choices.Before i j ∷ [] → new.marks.items ≡ old.marks.items ++ length old.rows.items ∷ []
    → new.rows.items ≡ old.rows.items → length new.stamps.items ≡ 256 → IsStamped (old.path.items ++ Choices.Before i j ∷ []) new.stamps.items → IsFit new
fit_order old new i j fit path marks rows many stamps = record {
  many_stamps = many;
  stamped = subst (λ p. IsStamped p new.stamps.items) (sym path) stamps;
  marked = subst₂ AreMarked (sym path) (sym (marks ∙ ap (λ n. old.marks.items ++ n ∷ []) fit.many_rows)) (marks_more old.path.items old.marks.items (Choices.Before i j) fit.marked);
  many_rows = ap length rows ∙ (fit.many_rows ∙ (sym (side_count-order old.path.items i j) ∙ ap side_count (sym path)));
}

pub fit_side : (old new : Trail) (contact : Contact) (dir : Dir) (row : SideRow) → IsFit old → new.path.items ≡ old.path.items ++ Choices.Side contact dir ∷ [] → new.marks.items ≡ old.marks.items ++ length old.rows.items ∷ []
    → new.rows.items ≡ old.rows.items ++ row ∷ [] → new.stamps.items ≡ old.stamps.items → IsFit new
fit_side old new contact dir row fit path marks rows stamps = record {
  many_stamps = ap length stamps ∙ fit.many_stamps;
  stamped = subst₂ IsStamped (sym path) (sym stamps) (side_stamps old.path.items old.stamps.items contact dir fit.stamped);
  marked = subst₂ AreMarked (sym path) (sym (marks ∙ ap (λ n. old.marks.items ++ n ∷ []) fit.many_rows)) (marks_more old.path.items old.marks.items (Choices.Side contact dir) fit.marked);
  many_rows =
      (let count = side_count-side old.path.items contact dir in
      let here = ap side_count path in
      omega (arith, ap length rows, length-append old.rows.items (row ∷ []), fit.many_rows, count, here));
}

pub rows_by_order : (job : Job) (path now : List Choice) (rows left : List SideRow) (i j : ℕ) → now ≡ path ++ Choices.Before i j ∷ [] → left ≡ rows → AreRowsOf job path rows → AreRowsOf job now left
rows_by_order job path now rows left i j e f has = subst₂ (AreRowsOf job) (sym e) (sym f) (rows_order job path rows i j has)

pub rows_by_side : (job : Job) (path now : List Choice) (rows left : List SideRow) (side : Choice) (contact : Contact) (dir : Dir) (row : SideRow) → now ≡ path ++ side ∷ [] → left ≡ rows ++ row ∷ []
    → side ≡ Choices.Side contact dir → AreRowsOf job path rows → IsRowFor job side row → AreRowsOf job now left
rows_by_side job path now rows left side contact dir row e f s has is =
    subst₂ (AreRowsOf job) (sym (e ∙ ap (λ x. path ++ x ∷ []) s)) (sym f) (rows_side job path rows contact dir row has (subst (λ x. IsRowFor job x row) s is))
