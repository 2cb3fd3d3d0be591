-- The rows of a path's system are those of the rooms and of its sides.
use Rattle.std.proofs.Common.{◌≡◌, ℕ, ◌+◌, ◌*◌, ℤ, List, [], ◌∷◌, ◌++◌, length, map, All, refl, ap, ◌∙◌, arith}
use Rattle.std.proofs.lemmas.List.Elements.{All-nil, All-cons}
use Rattle.bound_sums.specs.Sparse.{IsShortSide, full_row, room_rows, rows_of}
use Rattle.bound_sums.specs.declared.rows.Line.TheVariants as Lines
use Rattle.difference_polygon.specs.declared.rows.SideRow.{SideRow}
use Rattle.seq_model.specs.Systems.{bounds_of, side_row, side_rows, system}
use Rattle.seq_model.specs.declared.job.Job.{Job}
use Rattle.seq_model.specs.declared.job.Object.{Object}
use Rattle.seq_model.specs.declared.row.Row.{Row}
use Rattle.seq_model.specs.declared.tree.Choice.{Choice}
use Rattle.seq_model.specs.declared.tree.Choice.TheVariants as Choices
use Rattle.cert_checker.specs.Rooms.{room_x, room_y, rooms_of}
use Rattle.cert_checker.specs.Trails.{AreRowsOf}

pub length-rooms_of : (job : Job) (e : ℕ) (objects : List Object) → length (rooms_of job e objects) ≡ 2 * length objects
length-rooms_of job e [] = refl
length-rooms_of job e (o ∷ objects) = let r = length-rooms_of job e objects in omega (arith, r)

bounds_by_rooms : (job : Job) (e variable : ℕ) (objects : List Object) → room_rows (2 * length job.objects) variable (rooms_of job e objects) ≡ bounds_of job e variable objects
bounds_by_rooms job e variable [] = refl
bounds_by_rooms job e variable (o ∷ objects) =
    let two : (variable + 1) + 1 ≡ variable + 2 = omega arith in
    ap (λ rows. first ∷ second ∷ rows) (ap (λ v. room_rows (2 * length job.objects) v (rooms_of job e objects)) two ∙ bounds_by_rooms job e (variable + 2) objects)
  where
    first : Row
    first = full_row (2 * length job.objects) (Lines.Bound variable (room_x job e o))

    second : Row
    second = full_row (2 * length job.objects) (Lines.Bound (variable + 1) (room_y job e o))

sides_by_rows : (job : Job) (e : ℕ) (path : List Choice) (rows : List SideRow) → AreRowsOf job path rows → map (λ row. full_row (2 * length job.objects) (Lines.Beyond row)) rows ≡ side_rows job e path
sides_by_rows job e [] [] h = refl
sides_by_rows job e [] (row ∷ rows) h = absurd h
sides_by_rows job e (Choices.Before i j ∷ path) rows h = sides_by_rows job e path rows h
sides_by_rows job e (Choices.Side contact dir ∷ path) [] h = absurd h
sides_by_rows job e (Choices.Side contact dir ∷ path) (row ∷ rows) h =
    ap (λ r. r ∷ map (λ row. full_row (2 * length job.objects) (Lines.Beyond row)) rows) (h.0.is e) ∙ ap (λ t. side_row job e contact dir ∷ t) (sides_by_rows job e path rows h.1)

pub system_by_rows : (job : Job) (e : ℕ) (path : List Choice) (rooms : List ℤ) (rows : List SideRow) → rooms ≡ rooms_of job e job.objects → AreRowsOf job path rows → rows_of rooms rows ≡ system job e path
system_by_rows job e path rooms rows is h =
    let many : length rooms ≡ 2 * length job.objects = ap length is ∙ length-rooms_of job e job.objects in
    ap (λ w. room_rows w 0 rooms ++ map (λ row. full_row w (Lines.Beyond row)) rows) many
    ∙ (ap (λ r. room_rows (2 * length job.objects) 0 r ++ map (λ row. full_row (2 * length job.objects) (Lines.Beyond row)) rows) is
    ∙ (ap (λ t. t ++ map (λ row. full_row (2 * length job.objects) (Lines.Beyond row)) rows) (bounds_by_rooms job e 0 job.objects)
    ∙ ap (λ t. bounds_of job e 0 job.objects ++ t) (sides_by_rows job e path rows h)))

pub short_rows : (job : Job) (path : List Choice) (rows : List SideRow) → AreRowsOf job path rows → All (IsShortSide (2 * length job.objects)) rows
short_rows job [] [] h = All-nil (IsShortSide (2 * length job.objects))
short_rows job [] (row ∷ rows) h = absurd h
short_rows job (Choices.Before i j ∷ path) rows h = short_rows job path rows h
short_rows job (Choices.Side contact dir ∷ path) [] h = absurd h
short_rows job (Choices.Side contact dir ∷ path) (row ∷ rows) h = All-cons (IsShortSide (2 * length job.objects)) row rows h.0.short (short_rows job path rows h.1)
