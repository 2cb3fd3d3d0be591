-- What the end of a walk from any basis says of the rows.
use Rattle.std.proofs.Common.{◌≡◌, ℕ, suc, ◌+◌, ◌<◌, ◌≤◌, List, [], ◌∷◌, ◌++◌, length, All, refl, ap, sym, subst, ◌∙◌, arith, pos, ◌≤ℤ◌, Some, None}
use Rattle.std.proofs.lemmas.List.{length-map}
use Rattle.std.proofs.lemmas.List.FromFn.{length-range_with_len}
use Rattle.std.proofs.lemmas.Option.{none-some}
use Rattle.std.specs.List.{range_with_len}
use Rattle.integer_laws.specs.Members.{In}
use Rattle.integer_laws.specs.Vectors.{zeros}
use Rattle.feasible_point.specs.Answering.{mults_of}
use Rattle.feasible_point.specs.declared.Solved.TheVariants as Solveds
use Rattle.feasible_point.specs.Laws.Shorter.{Certifies}
use Rattle.feasible_point.specs.Laws.Solving.{certifies_of, some_of}
use Rattle.feasible_point.specs.Laws.Walking.{pivots_to, walk_wide, never_wide, stops_point, stops_none, upto_is, meets}
use Rattle.feasible_point.specs.Laws.Zero.{start_stays, zero_answer}
use Rattle.feasible_point.specs.Walked.{Walks, WalksFrom, Ended, NothingToLeave}
use Rattle.row_pivots.specs.Ends.{NoEntry}
use Rattle.row_pivots.specs.Laws.Slacks.{slack_table}
use Rattle.row_pivots.specs.Tables.{AreRowsOf, line_or, rising}
use Rattle.row_dictionary.specs.Laws.Found.{LeavesAt, EntersAt, leaves_at, none_leaves, enters_at, none_enters}
use Rattle.row_dictionary.specs.Laws.Placing.{range_next}
use Rattle.row_dictionary.specs.Scans.{start, least_leaving}
use Rattle.row_dictionary.specs.Seen.{Seen, Standing, IsOf, basis_of, swapped}
use Rattle.row_dictionary.specs.declared.turn.Turn.{Turn}
use Rattle.row_dictionary.specs.declared.turn.Turn.TheVariants as Turns
use Rattle.seq_model.specs.Systems.{MeetsRows}
use Rattle.seq_model.specs.Walks.{constant, Stops}
use Rattle.seq_model.specs.declared.row.Row.{Row}
use Rattle.warm_rows.specs.Answering.{Finds, HasSmallDen}
use Rattle.warm_rows.specs.Warming.{Warmth, Repairs, SomeEndsWide, IsZeroPoint, IsRowStep, rows_of, after_steps, standing, Gives}
use Rattle.warm_rows.specs.declared.step.Step.{Step}
use Rattle.warm_rows.specs.declared.step.Step.TheVariants as Steps
use Rattle.warm_rows.specs.declared.step.Warmed.{Warmed}
use Rattle.warm_rows.specs.declared.step.Warmed.TheVariants as Warmeds
use Rattle.warm_rows.proofs.Steps.{one_given}

-- ---- the end of a walk
record WalkedTo (vars : ℕ) (rows : List Row) (start : List ℕ) (t : Seen) : Type 0 where
  held : IsOf rows t
  vars_are : t.vars ≡ vars
  walks : Walks t.vars rows start (basis_of rows t)

no_wide : (vars : ℕ) (rows : List Row) (start : List ℕ) (t : Seen) → WalkedTo vars rows start t → Stops t.vars rows (basis_of rows t) → SomeEndsWide vars rows start → ⊥
no_wide vars rows start t w s k = by (subst (λ v. SomeEndsWide v rows start) (sym w.vars_are) k)
  where
    by : SomeEndsWide t.vars rows start → ⊥
    by k = never_wide t.vars rows start (basis_of rows t) w.walks s k.0 k.1 k.2

leaves_here : (rows : List Row) (t : Seen) → IsOf rows t → (out : ℕ) → least_leaving t.basic t.lines ≡ Some out → LeavesAt t.basic t.lines out
leaves_here rows t h out e = leaves_at t.vars rows t.d t.basic t.free t.lines h out e

pub repairs : (old new : Warmth) → IsOf (rows_of old.steps) new.table → new.table.vars ≡ old.vars → WalksFrom (rows_of old.steps) old.table new.table
    → (turn : Turn) → Ended (rows_of old.steps) new.table turn → (warmed : Warmed) → Finds new.table turn warmed → HasSmallDen warmed → Repairs old new warmed
repairs old new h v r Turns.Point e (Warmeds.Point den list) a d = (
  subst (λ c. MeetsRows (rows_of old.steps) c list.items) (sym a.0) (subst (MeetsRows (rows_of old.steps) new.table.d) (sym (a.1 ∙ upto_is new.table.vars new.table.basic new.table.lines)) (meets new.table.vars (rows_of old.steps) new.table.d new.table.basic new.table.free new.table.lines h none)),
  ap length (a.1 ∙ upto_is new.table.vars new.table.basic new.table.lines) ∙ length-map (range_with_len 0 new.table.vars) (λ z. constant (line_or z new.table.basic new.table.lines)) ∙ length-range_with_len 0 new.table.vars ∙ v,
  d.0,
  d.1,
  r,
  no_wide old.vars (rows_of old.steps) (basis_of (rows_of old.steps) old.table) new.table (record { held = h; vars_are = v; walks = r }) (stops_point new.table.vars (rows_of old.steps) new.table.d new.table.basic new.table.free new.table.lines h none),
)
  where
    none : (y : ℕ) → In y new.table.basic → pos 0 ≤ℤ constant (line_or y new.table.basic new.table.lines)
    none = none_leaves new.table.vars (rows_of old.steps) new.table.d new.table.basic new.table.free new.table.lines h e.1.1
repairs old new h v r Turns.Point e (Warmeds.Contradiction list) a d = absurd a
repairs old new h v r Turns.Point e Warmeds.Cold a d = absurd a
repairs old new h v r (Turns.Contradiction out) e (Warmeds.Point den list) a d = absurd a
repairs old new h v r (Turns.Contradiction out) e (Warmeds.Contradiction list) a d = (
  c.contradiction,
  c.rising,
  c.taken,
  c.shortest,
  c.some,
  subst (λ n. length list.items ≤ suc n) v c.few,
  r,
  no_wide old.vars (rows_of old.steps) (basis_of (rows_of old.steps) old.table) new.table (record { held = h; vars_are = v; walks = r }) (stops_none new.table.vars (rows_of old.steps) new.table.d new.table.basic new.table.free new.table.lines h out at none),
)
  where
    at : LeavesAt new.table.basic new.table.lines out
    at = leaves_here (rows_of old.steps) new.table h out e.1.1

    none : NoEntry new.table.free (line_or out new.table.basic new.table.lines)
    none = none_enters new.table.vars (rows_of old.steps) new.table.d new.table.basic new.table.free new.table.lines h out at.member e.1.2

    c : Certifies (rows_of old.steps) new.table.vars list.items
    c = certifies_of (rows_of old.steps) new.table h out e list.items a.0 a.1
repairs old new h v r (Turns.Contradiction out) e Warmeds.Cold a d = absurd a
repairs old new h v r (Turns.Wide out into row) e (Warmeds.Point den list) a d = absurd a
repairs old new h v r (Turns.Wide out into row) e (Warmeds.Contradiction list) a d = absurd a
repairs old new h v r (Turns.Wide out into row) e Warmeds.Cold a d =
    (r, subst (λ n. SomeEndsWide n (rows_of old.steps) (basis_of (rows_of old.steps) old.table)) v (next, row, walk_wide new.table.vars (rows_of old.steps) (basis_of (rows_of old.steps) old.table) (basis_of (rows_of old.steps) new.table) next row r (pivots_to new.table.vars (rows_of old.steps) new.table.d new.table.basic new.table.free new.table.lines h out into at en) e.1.3 e.1.4))
  where
    next : List ℕ
    next = rising (new.table.vars + length (rows_of old.steps)) (swapped new.table.basic out into)

    at : LeavesAt new.table.basic new.table.lines out
    at = leaves_here (rows_of old.steps) new.table h out e.1.1

    en : EntersAt new.table.free (line_or out new.table.basic new.table.lines) into
    en = enters_at new.table.vars (rows_of old.steps) new.table.d new.table.basic new.table.free new.table.lines h out into at.member e.1.2
repairs old new h v r (Turns.Next out into) e warmed a d = absurd (e.0 tt)

pub some_mults_of : (rows : List Row) (t : Seen) → IsOf rows t → (turn : Turn) → Ended rows t turn → (out : ℕ) → turn ≡ Turns.Contradiction out → 0 < length (mults_of t out)
some_mults_of rows t h turn e out s = some_of rows t h turn e out s

-- ---- rows alone: the table is that of the slacks
rows_alone : (vars : ℕ) (free : List ℕ) (n : ℕ) (steps : List Step) → All IsRowStep steps → after_steps vars (record { basic = range_with_len vars n; free = free }) steps ≡ record { basic = range_with_len vars (n + length (rows_of steps)); free = free }
rows_alone vars free n [] a = ap (λ m. record { basic = range_with_len vars m; free = free }) (plain n)
  where
    plain : (n : ℕ) → n ≡ n + 0
    plain n = omega arith
rows_alone vars free n (Steps.Row row ∷ steps) a =
    ap (λ (b : List ℕ). after_steps vars (record { basic = b; free = free }) steps) (ap (λ m. range_with_len vars n ++ (vars + m) ∷ []) (length-range_with_len vars n) ∙ sym (range_next vars n))
    ∙ rows_alone vars free (n + 1) steps (λ k d h. a (suc k) d (omega (arith, h)))
    ∙ ap (λ m. record { basic = range_with_len vars m; free = free }) (along n (length (rows_of steps)))
  where
    along : (n m : ℕ) → (n + 1) + m ≡ n + suc m
    along n m = omega arith
rows_alone vars free n (Steps.Pivot out into ∷ steps) a = absurd (a 0 (Steps.Pivot out into) (omega arith))

started : (vars : ℕ) (steps : List Step) (t : Seen) → Gives vars steps t → All IsRowStep steps → t ≡ start vars (rows_of steps)
started vars steps t g a = one_given vars steps t (start vars (rows_of steps)) g (record {
  vars_are = refl;
  basic = ap (range_with_len vars) (plain (length (rows_of steps))) ∙ sym (ap (λ (s : Standing). s.basic) stood);
  free = sym (ap (λ (s : Standing). s.free) stood);
  is_of = slack_table vars (rows_of steps) (subst (λ v. AreRowsOf v (rows_of steps)) g.vars_are g.is_of.rows_are);
})
  where
    plain : (n : ℕ) → n ≡ 0 + n
    plain n = omega arith

    stood : standing vars steps ≡ record { basic = range_with_len vars (0 + length (rows_of steps)); free = range_with_len 0 vars }
    stood = rows_alone vars (range_with_len 0 vars) 0 steps a

pub zero_found : (vars : ℕ) (steps : List Step) (t new : Seen) → Gives vars steps t → (NothingToLeave t → new ≡ t) → All IsRowStep steps → MeetsRows (rows_of steps) (pos 1) (zeros vars)
    → (turn : Turn) → Ended (rows_of steps) new turn → (warmed : Warmed) → Finds new turn warmed → IsZeroPoint vars warmed
zero_found vars steps t new g stays a m turn e warmed f = at turn (subst (λ (s : Seen). Ended (rows_of steps) s turn) same e) warmed (subst (λ (s : Seen). Finds s turn warmed) same f)
  where
    rows : List Row
    rows = rows_of steps

    none : least_leaving (start vars (rows_of steps)).basic (start vars (rows_of steps)).lines ≡ None
    none = start_stays vars (rows_of steps) m

    first : t ≡ start vars (rows_of steps)
    first = started vars steps t g a

    same : new ≡ start vars (rows_of steps)
    same = stays (subst (λ (s : Seen). least_leaving s.basic s.lines ≡ None) (sym first) none) ∙ first

    at : (turn : Turn) → Ended (rows_of steps) (start vars (rows_of steps)) turn → (warmed : Warmed) → Finds (start vars (rows_of steps)) turn warmed → IsZeroPoint vars warmed
    at Turns.Point e (Warmeds.Point den list) f = zero_answer vars (rows_of steps) none Turns.Point e (Solveds.Point den list) f
    at Turns.Point e (Warmeds.Contradiction list) f = absurd f
    at Turns.Point e Warmeds.Cold f = absurd f
    at (Turns.Contradiction out) e warmed f = absurd (none-some out (sym none ∙ e.1.1))
    at (Turns.Wide out into row) e warmed f = absurd (none-some out (sym none ∙ e.1.1))
    at (Turns.Next out into) e warmed f = absurd (e.0 tt)
