-- Sides of a path, counted and with their rows.
use Rattle.std.proofs.Common.{◌≡◌, ℕ, zero, suc, ◌+◌, ◌≤◌, ◌<◌, List, [], ◌∷◌, ◌++◌, length, get_or, take, Bool, true, false, ltb, refl, sym, ap, ◌∙◌, arith, length-append}
use Rattle.std.proofs.lemmas.Bool.Decides.{nat_tests}
use Rattle.std.proofs.lemmas.List.{length-take, get_or-take, get_or_append_left, take_all, take-take, take-append-le}
use Rattle.std.proofs.Common.{min}
use Rattle.difference_polygon.specs.declared.rows.SideRow.{SideRow}
use Rattle.seq_model.specs.declared.job.Job.{Job}
use Rattle.seq_model.specs.declared.tree.Choice.{Choice}
use Rattle.seq_model.specs.declared.tree.Choice.TheVariants as Choices
use Rattle.seq_model.specs.declared.tree.Contact.{Contact}
use Rattle.seq_model.specs.declared.tree.Dir.{Dir}
use Rattle.cert_checker.specs.Trails.{AreMarked, AreRowsOf, IsRowFor, side_count}

pub side_count-le : (path : List Choice) → side_count path ≤ length path
side_count-le [] = omega arith
side_count-le (Choices.Before i j ∷ path) = let r = side_count-le path in omega (arith, r)
side_count-le (Choices.Side contact dir ∷ path) = let r = side_count-le path in omega (arith, r)

pub side_count-take-le : (k : ℕ) (path : List Choice) → side_count (take k path) ≤ side_count path
side_count-take-le zero path = omega arith
side_count-take-le (suc k) [] = omega arith
side_count-take-le (suc k) (Choices.Before i j ∷ path) = side_count-take-le k path
side_count-take-le (suc k) (Choices.Side contact dir ∷ path) = let r = side_count-take-le k path in omega (arith, r)

pub side_count-order : (path : List Choice) (i j : ℕ) → side_count (path ++ Choices.Before i j ∷ []) ≡ side_count path
side_count-order [] i j = refl
side_count-order (Choices.Before a b ∷ path) i j = side_count-order path i j
side_count-order (Choices.Side contact dir ∷ path) i j = ap suc (side_count-order path i j)

-- ---- rows

pub rows_cut : (job : Job) (k : ℕ) (path : List Choice) (rows : List SideRow) → AreRowsOf job path rows → AreRowsOf job (take k path) (take (side_count (take k path)) rows)
rows_cut job zero path rows h = tt
rows_cut job (suc k) [] rows h = tt
rows_cut job (suc k) (Choices.Before i j ∷ path) rows h = rows_cut job k path rows h
rows_cut job (suc k) (Choices.Side contact dir ∷ path) [] h = absurd h
rows_cut job (suc k) (Choices.Side contact dir ∷ path) (row ∷ rows) h = (h.0, rows_cut job k path rows h.1)

pub rows_order : (job : Job) (path : List Choice) (rows : List SideRow) (i j : ℕ) → AreRowsOf job path rows → AreRowsOf job (path ++ Choices.Before i j ∷ []) rows
rows_order job [] [] i j h = tt
rows_order job [] (row ∷ rows) i j h = absurd h
rows_order job (Choices.Before a b ∷ path) rows i j h = rows_order job path rows i j h
rows_order job (Choices.Side contact dir ∷ path) [] i j h = absurd h
rows_order job (Choices.Side contact dir ∷ path) (row ∷ rows) i j h = (h.0, rows_order job path rows i j h.1)

pub rows_side : (job : Job) (path : List Choice) (rows : List SideRow) (contact : Contact) (dir : Dir) (row : SideRow) → AreRowsOf job path rows → IsRowFor job (Choices.Side contact dir) row
    → AreRowsOf job (path ++ Choices.Side contact dir ∷ []) (rows ++ row ∷ [])
rows_side job [] [] contact dir row h is = (is, tt)
rows_side job [] (r ∷ rows) contact dir row h is = absurd h
rows_side job (Choices.Before a b ∷ path) rows contact dir row h is = rows_side job path rows contact dir row h is
rows_side job (Choices.Side c d ∷ path) [] contact dir row h is = absurd h
rows_side job (Choices.Side c d ∷ path) (r ∷ rows) contact dir row h is = (h.0, rows_side job path rows contact dir row h.1 is)

pub side_count-side : (path : List Choice) (contact : Contact) (dir : Dir) → side_count (path ++ Choices.Side contact dir ∷ []) ≡ suc (side_count path)
side_count-side [] contact dir = refl
side_count-side (Choices.Before a b ∷ path) contact dir = side_count-side path contact dir
side_count-side (Choices.Side c d ∷ path) contact dir = ap suc (side_count-side path contact dir)

-- ---- marks
at_end : (l : List ℕ) (y : ℕ) → get_or (l ++ y ∷ []) (length l) 0 ≡ y
at_end [] y = refl
at_end (z ∷ l) y = at_end l y

pub marks_cut : (k : ℕ) (path : List Choice) (marks : List ℕ) → AreMarked path marks → AreMarked (take k path) (take k marks)
marks_cut k path marks m =
    let p = length-take k path in
    let q = length-take k marks in (
      q ∙ ap (λ n. min k n) m.0 ∙ sym p,
      λ j h.
          (let below : j < k = omega (arith, h, p) in
          let inside : j < length path = omega (arith, h, p) in
          get_or-take k marks j 0 below ∙ m.1 j inside ∙ ap side_count (sym (take-take j k path (omega (arith, below))))),
    )

pub marks_more : (path : List Choice) (marks : List ℕ) (x : Choice) → AreMarked path marks → AreMarked (path ++ x ∷ []) (marks ++ side_count path ∷ [])
marks_more path marks x m =
    let p = length-append path (x ∷ []) in
    let q = length-append marks (side_count path ∷ []) in
    (omega (arith, p, q, m.0), λ j h. by j (ltb j (length path)) refl (omega (arith, h, p)))
  where
    by : (j : ℕ) (b : Bool) → ltb j (length path) ≡ b → j < length path + 1 → get_or (marks ++ side_count path ∷ []) j 0 ≡ side_count (take j (path ++ x ∷ []))
    by j true e h =
        let inside : j < length path = grind (arith, nat_tests, e) in
        get_or_append_left marks (side_count path ∷ []) 0 j (omega (arith, inside, m.0)) ∙ m.1 j inside ∙ ap side_count (sym (take-append-le j path (x ∷ []) (omega (arith, inside))))
    by j false e h =
        let outside : length path ≤ j = grind (arith, nat_tests, e) in
        let at : j ≡ length path = omega (arith, outside, h) in
        let last : get_or (marks ++ side_count path ∷ []) (length marks) 0 ≡ side_count path = at_end marks (side_count path) in
        ap (λ n. get_or (marks ++ side_count path ∷ []) n 0) (at ∙ sym m.0) ∙ last ∙ ap side_count (sym (ap (λ n. take n (path ++ x ∷ [])) at ∙ take-append-le (length path) path (x ∷ []) (omega arith) ∙ take_all (length path) path (omega arith)))
