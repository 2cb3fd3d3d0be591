-- The rows of a path, one object or choice more.
use Rattle.std.proofs.Common.{◌≡◌, ℕ, suc, ◌+◌, ◌*◌, ◌<◌, ◌≤◌, ◌^◌, List, [], ◌∷◌, ◌++◌, length, get_or, take, drop, All, refl, sym, ap, subst, ◌∙◌, arith, append_assoc, drop-cons, add-one, ℤ, pos, ◌-ℤ◌, ◌≤ℤ◌, unsigned_abs}
use Rattle.std.proofs.lemmas.Int.{ints}
use Rattle.std.proofs.lemmas.List.{take-append-drop}
use Rattle.node_looks.specs.Rows.{IsSideOf}
use Rattle.plan_laws.specs.Inside.{region_at}
use Rattle.plan_laws.specs.Laws.PathRows.{many_rows}
use Rattle.plan_laws.specs.Members.{side_count}
use Rattle.row_dictionary.specs.Scans.{IsSmallRow}
use Rattle.row_pivots.specs.Tables.{AreRowsOf}
use Rattle.search_laws.specs.Laws.RowSizes.{contact_side_size, share_low, share_high, small_rows}
use Rattle.seq_model.specs.Contacts.{IsContact, points_of}
use Rattle.seq_model.specs.Plates.{share_of}
use Rattle.seq_model.specs.Sides.{Side}
use Rattle.seq_model.specs.Systems.{at_most, bounds_of, side_rows, system}
use Rattle.seq_model.specs.Trees.{IsPath}
use Rattle.seq_model.specs.declared.job.Job.{Job}
use Rattle.seq_model.specs.declared.job.Object.{Object}
use Rattle.seq_model.specs.declared.row.Row.{Row}
use Rattle.seq_model.specs.declared.tree.Choice.{Choice}
use Rattle.seq_model.specs.declared.tree.Choice.TheVariants as Choices
use Rattle.seq_model.specs.declared.tree.Contact.{Contact}
use Rattle.seq_model.specs.declared.tree.Dir.{Dir}

-- ---- bounds
pub bounds_more : (job : Job) (e o : ℕ) (rows new : List Row) (obj : Object) (w h : ℤ) (all : List Row) → o < length job.objects → get_or job.objects o obj ≡ obj → w ≡ (region_at job e).w → h ≡ (region_at job e).h
    → new ≡ rows ++ (at_most job (2 * o) (w -ℤ (obj.high.x -ℤ obj.low.x)) ∷ at_most job (2 * o + 1) (h -ℤ (obj.high.y -ℤ obj.low.y)) ∷ [])
    → rows ++ bounds_of job e (2 * o) (drop o job.objects) ≡ all → new ++ bounds_of job e (2 * (o + 1)) (drop (o + 1) job.objects) ≡ all
bounds_more job e o rows new obj w h all l is we he ne inv =
    ap (λ t. t ++ rest) ne ∙ append_assoc rows (two w h) rest ∙ ap (λ t. rows ++ t) (sym step) ∙ inv
  where
    two : ℤ → ℤ → List Row
    two w h = at_most job (2 * o) (w -ℤ (obj.high.x -ℤ obj.low.x)) ∷ at_most job (2 * o + 1) (h -ℤ (obj.high.y -ℤ obj.low.y)) ∷ []

    rest : List Row
    rest = bounds_of job e (2 * (o + 1)) (drop (o + 1) job.objects)

    parts : drop o job.objects ≡ obj ∷ drop (o + 1) job.objects
    parts = drop-cons job.objects o obj l ∙ ap (λ x. x ∷ drop (suc o) job.objects) is ∙ ap (λ k. obj ∷ drop k job.objects) (sym (add-one o))

    next : 2 * o + 2 ≡ 2 * (o + 1)
    next = omega arith

    step : bounds_of job e (2 * o) (drop o job.objects) ≡ two w h ++ rest
    step = ap (λ os. bounds_of job e (2 * o) os) parts ∙ ap (λ v. two (region_at job e).w (region_at job e).h ++ bounds_of job e v (drop (o + 1) job.objects)) next
        ∙ ap (λ t. two t (region_at job e).h ++ rest) (sym we) ∙ ap (λ t. two w t ++ rest) (sym he)

size_of : (size : ℤ) (grid e : ℕ) → pos 1 ≤ℤ size → size ≤ℤ pos 20_000 → 1 ≤ grid → e ≤ grid → unsigned_abs (share_of size grid e) ≤ 20_000
size_of size grid e one most g h =
    let low = share_low size grid e one g in
    let high = share_high size grid e one g h in
    omega (arith, ints, low, high, most)

pub wide_near : (job : Job) (e : ℕ) → e ≤ job.printer.grid → unsigned_abs (region_at job e).w ≤ 20_000
wide_near job e h = let r = job.printer.ranged in size_of job.printer.width job.printer.grid e r.width_low r.width_high r.grid_low h

pub deep_near : (job : Job) (e : ℕ) → e ≤ job.printer.grid → unsigned_abs (region_at job e).h ≤ 20_000
deep_near job e h = let r = job.printer.ranged in size_of job.printer.depth job.printer.grid e r.depth_low r.depth_high r.grid_low h

-- ---- sides
pub side_short : (job : Job) (c : Contact) (dir : Dir) → IsContact job c → Side (points_of job c) dir → (unsigned_abs dir.x < 2 ^ 22) × (unsigned_abs dir.y < 2 ^ 22)
side_short job c dir is side =
    let s = contact_side_size job c dir is side in
    let a = s.first in
    let b = s.second in
    (omega (arith, a), omega (arith, b))

rows_parts : (job : Job) (e : ℕ) (x : Choice) (path : List Choice) → side_rows job e (x ∷ path) ≡ side_rows job e (x ∷ []) ++ side_rows job e path
rows_parts job e (Choices.Before i j) path = refl
rows_parts job e (Choices.Side c d) path = refl

pub sides_more : (job : Job) (e k : ℕ) (path : List Choice) (rows new all : List Row) (x : Choice) → k < length path → get_or path k x ≡ x → new ≡ rows ++ side_rows job e (x ∷ [])
    → rows ++ side_rows job e (drop k path) ≡ all → new ++ side_rows job e (drop (k + 1) path) ≡ all
sides_more job e k path rows new all x l is ne inv =
    ap (λ t. t ++ side_rows job e (drop (k + 1) path)) ne ∙ append_assoc rows (side_rows job e (x ∷ [])) (side_rows job e (drop (k + 1) path))
    ∙ ap (λ t. rows ++ t) (sym (ap (side_rows job e) (parts k path x l is) ∙ rows_parts job e x (drop (k + 1) path))) ∙ inv
  where
    parts : (k : ℕ) (path : List Choice) (x : Choice) → k < length path → get_or path k x ≡ x → drop k path ≡ x ∷ drop (k + 1) path
    parts k path x l is = drop-cons path k x l ∙ ap (λ y. y ∷ drop (suc k) path) is ∙ ap (λ m. x ∷ drop m path) (sym (add-one k))

pub side_at : (job : Job) (path : List Choice) (k : ℕ) (x : Choice) → IsPath job path → k < length path → get_or path k x ≡ x → IsSideOf job x
side_at job path k (Choices.Before i j) is l e = tt
side_at job path k (Choices.Side c d) is l e =
    let r = is (take k path) (drop (suc k) path) c d (sym (ap (λ t. take k path ++ t) (sym (drop-cons path k (Choices.Side c d) l ∙ ap (λ y. y ∷ drop (suc k) path) e)) ∙ take-append-drop k path)) in
    (r.0, r.1)

-- ---- what the solver takes
pub rows_of : (job : Job) (e : ℕ) (path : List Choice) (rows : List Row) → rows ≡ system job e path → e ≤ job.printer.grid → IsPath job path → AreRowsOf (2 * length job.objects) rows
rows_of job e path rows same h is = subst (AreRowsOf (2 * length job.objects)) (sym same) (λ k d l. (small_rows job e path h is k d l).many)

all_small : (a : List ℤ) → All (λ x. unsigned_abs x < 2 ^ 21) a → All (λ x. unsigned_abs x < 2 ^ 62) a
all_small a all = λ k d l. let s = all k d l in omega (arith, s)

pub rows_small : (job : Job) (e : ℕ) (path : List Choice) (rows : List Row) → rows ≡ system job e path → e ≤ job.printer.grid → IsPath job path → All IsSmallRow rows
rows_small job e path rows same h is = subst (All IsSmallRow) (sym same) (λ k d l.
    let r = small_rows job e path h is k d l in
    let c = r.constant in
    (omega (arith, c), all_small (get_or (system job e path) k d).a r.entries))

sides_most : (path : List Choice) → side_count path ≤ length path
sides_most [] = omega arith
sides_most (Choices.Before i j ∷ path) = let r = sides_most path in omega (arith, r)
sides_most (Choices.Side c d ∷ path) = let r = sides_most path in omega (arith, r)

pub rows_few : (job : Job) (e : ℕ) (path : List Choice) (rows : List Row) → rows ≡ system job e path → length path ≤ 1_000_000 → 2 * length job.objects + length rows < 2 ^ 32
rows_few job e path rows same short =
    let n = job.sound.few in
    let m = many_rows job e path in
    let s = sides_most path in
    omega (arith, n, m, s, short, ap length same)
