-- The linear system of a path at an extent.
--
--   zeros job            a coefficient 0 for each variable: two for each object
--   at_most job z bound  bound - u >= 0 for variable z
--   bounds_of ..         two rows for each object: the region's size less the object's span, in x and in y
--   side_constant job e c dir      the constant of a side's row: by how far the low corners differ along it, less its greatest value
--   pair_row job c x y i j         the row that says c + x * (x of j less x of i) + y * (y of j less y of i) >= 0
--   side_row job e c dir           the later thing of the contact stands beyond the side
--   side_rows job e path           one such row for each side of a path, in path order
--   system job e path    the bounds, then those
--   row_value d u row    the value of a row at the point u / d, times d
--   MeetsRows rows d u   the point u / d has no negative coordinate and meets every row
--   row_at rows r        row number r
--   sum_constant, sum_coefficients    of the rows, each times its multiplier
--   IsTaken rows m       the multiplier is at least 0 and names a row
--   Contradiction rows mults     with these multipliers every coefficient sums to at most 0, and the constants to less than 0
--   place_of job e d u o         where object o stands at the point u / d
--
-- Variable 2i is object i's x and variable 2i + 1 its y: place + least spot - low corner of the region.
use Rattle.std.specs.Prelude.{ℕ, ◌+◌, ◌*◌, ◌<◌, List, [], ◌∷◌, ◌++◌, ℤ, pos, neg_ℤ, ◌+ℤ◌, ◌-ℤ◌, ◌*ℤ◌, ◌≤ℤ◌, ◌<ℤ◌, All, length, slice_index_or, slice_set, replicate}
use Rattle.integer_laws.specs.Vectors.{dot, plus, scale}
use Rattle.seq_model.specs.Contacts.{points_of}
use Rattle.seq_model.specs.Jobs.{low_of}
use Rattle.seq_model.specs.Plates.{share_of, half_left}
use Rattle.seq_model.specs.Points.{Point}
use Rattle.seq_model.specs.Sides.{greatest_along}
use Rattle.seq_model.specs.declared.job.Job.{Job}
use Rattle.seq_model.specs.declared.job.Object.{Object}
use Rattle.seq_model.specs.declared.row.Row.{Row}
use Rattle.seq_model.specs.declared.tree.Choice.{Choice}
use Rattle.seq_model.specs.declared.tree.Choice.TheVariants as Choices
use Rattle.seq_model.specs.declared.tree.Contact.{Contact}
use Rattle.seq_model.specs.declared.tree.Dir.{Dir}
use Rattle.seq_model.specs.declared.tree.Mult.{Mult}

abbrev pub zeros : Job → List ℤ
zeros job = replicate (2 * length job.objects) (pos 0)

abbrev pub at_most : Job → ℕ → ℤ → Row
at_most job variable bound = record { c = bound; a = slice_set (zeros job) variable (neg_ℤ (pos 1)) }

abbrev pub bounds_of : Job → ℕ → ℕ → List Object → List Row
bounds_of job e variable [] = []
bounds_of job e variable (o ∷ objects) =
    at_most job variable (share_of job.printer.width job.printer.grid e -ℤ (o.high.x -ℤ o.low.x))
    ∷ at_most job (variable + 1) (share_of job.printer.depth job.printer.grid e -ℤ (o.high.y -ℤ o.low.y))
    ∷ bounds_of job e (variable + 2) objects

abbrev pub side_constant : Job → ℕ → Contact → Dir → ℤ
side_constant job e contact dir =
    let i = low_of job e contact.i in
    let j = low_of job e contact.j in
    dir.x *ℤ (i.x -ℤ j.x) +ℤ dir.y *ℤ (i.y -ℤ j.y) -ℤ greatest_along dir (points_of job contact)

abbrev pub pair_row : Job → ℤ → ℤ → ℤ → ℕ → ℕ → Row
pair_row job c x y i j = record { c = c; a = slice_set (slice_set (slice_set (slice_set (zeros job) (2 * i) (neg_ℤ x)) (2 * i + 1) (neg_ℤ y)) (2 * j) x) (2 * j + 1) y }

abbrev pub side_row : Job → ℕ → Contact → Dir → Row
side_row job e contact dir = pair_row job (side_constant job e contact dir) dir.x dir.y contact.i contact.j

abbrev pub side_rows : Job → ℕ → List Choice → List Row
side_rows job e [] = []
side_rows job e (Choices.Before i j ∷ path) = side_rows job e path
side_rows job e (Choices.Side contact dir ∷ path) = side_row job e contact dir ∷ side_rows job e path

abbrev pub system : Job → ℕ → List Choice → List Row
system job e path = bounds_of job e 0 job.objects ++ side_rows job e path

abbrev pub row_value : ℤ → List ℤ → Row → ℤ
row_value d u row = d *ℤ row.c +ℤ dot row.a u

pub record MeetsRows (rows : List Row) (d : ℤ) (u : List ℤ) : Type 0 where
  pub positive : pos 1 ≤ℤ d
  pub coordinates : All (λ x. pos 0 ≤ℤ x) u
  pub each : All (λ row. pos 0 ≤ℤ row_value d u row) rows

abbrev pub no_row : Row
no_row = record { c = pos 0; a = [] }

abbrev pub row_at : List Row → ℕ → Row
row_at rows r = slice_index_or rows r no_row

abbrev pub sum_constant : List Row → List Mult → ℤ
sum_constant rows [] = pos 0
sum_constant rows (m ∷ mults) = m.times *ℤ (row_at rows m.row).c +ℤ sum_constant rows mults

abbrev pub sum_coefficients : List Row → List Mult → List ℤ
sum_coefficients rows [] = []
sum_coefficients rows (m ∷ mults) = plus (scale m.times (row_at rows m.row).a) (sum_coefficients rows mults)

pub record IsTaken (rows : List Row) (m : Mult) : Type 0 where
  pub row : m.row < length rows
  pub times : pos 0 ≤ℤ m.times

pub record Contradiction (rows : List Row) (mults : List Mult) : Type 0 where
  pub each : All (IsTaken rows) mults
  pub coefficients : All (λ a. a ≤ℤ pos 0) (sum_coefficients rows mults)
  pub constant : sum_constant rows mults <ℤ pos 0

abbrev pub place_of : Job → ℕ → ℤ → List ℤ → ℕ → Point
place_of job e d u o =
    let p = job.printer in
    let low = low_of job e o in
    record {
      x = slice_index_or u (2 * o) (pos 0) +ℤ d *ℤ (half_left p.width (share_of p.width p.grid e) -ℤ low.x);
      y = slice_index_or u (2 * o + 1) (pos 0) +ℤ d *ℤ (half_left p.depth (share_of p.depth p.grid e) -ℤ low.y);
      d = d;
    }
