-- Each turn of the walk, and what its end says of the rows.
use Rattle.std.proofs.Common.{◌≡◌, ℕ, suc, ◌+◌, ◌<◌, ◌≤◌, ◌^◌, List, length, map, All, ap, sym, subst, ◌∙◌, ℤ, pos, ◌≤ℤ◌, Contains, inl, inr}
use Rattle.std.proofs.lemmas.List.{length-map}
use Rattle.std.proofs.lemmas.List.FromFn.{length-range_with_len}
use Rattle.std.specs.List.{range_with_len}
use Rattle.integer_laws.specs.Members.{In}
use Rattle.integer_laws.specs.Laws.Members.{Contains-from_in}
use Rattle.row_pivots.specs.Ends.{mults, weight, NoEntry}
use Rattle.row_pivots.specs.Laws.Contradictions.{contradicts, few_mults, some_mults, rising_mults}
use Rattle.row_pivots.specs.Steps.{steps_left}
use Rattle.row_pivots.specs.Tables.{Holds, rising, line_or}
use Rattle.row_dictionary.specs.Laws.Found.{LeavesAt, EntersAt, leaves_at, none_leaves, enters_at, none_enters}
use Rattle.row_dictionary.specs.Scans.{start}
use Rattle.row_dictionary.specs.Seen.{swapped}
use Rattle.row_dictionary.specs.Seen.{Seen, IsOf}
use Rattle.row_dictionary.specs.Turning.{Turned}
use Rattle.row_dictionary.specs.declared.turn.Turn.{Turn}
use Rattle.row_dictionary.specs.declared.turn.Turn.TheVariants as Turns
use Rattle.feasible_point.specs.Answering.{Answers, Solves, mults_of}
use Rattle.feasible_point.specs.Shortening.{Shortened, IsTaking, IsShortest}
use Rattle.feasible_point.specs.Laws.Shorter.{Certifies, certifies}
use Rattle.feasible_point.specs.Walked.{Reached, Walks, GoesOn, Ended, ReachedAt}
use Rattle.feasible_point.specs.Laws.Walking.{table, steps_of, pivots_to, fewer, reached_next, walk_to, walk_wide, never_wide, stops_point, stops_none, upto_is, meets}
use Rattle.feasible_point.specs.declared.Solved.{Solved}
use Rattle.feasible_point.specs.declared.Solved.TheVariants as Solveds
use Rattle.seq_model.specs.Dictionaries.{Rises}
use Rattle.seq_model.specs.Systems.{MeetsRows, Contradiction}
use Rattle.seq_model.specs.Walks.{constant, slacks, Ends, WalkWide}
use Rattle.seq_model.specs.declared.row.Row.{Row}
use Rattle.seq_model.specs.declared.tree.Mult.{Mult}

pub record GoneOn (rows : List Row) (start : List ℕ) (old new : Seen) : Type 0 where
  pub held : IsOf rows new
  pub vars : new.vars ≡ old.vars
  pub reached : ReachedAt rows start new
  pub fewer : steps_of rows new < steps_of rows old

moved : (rows : List Row) (start : List ℕ) (old new : Seen) → IsOf rows old → ReachedAt rows start old → (out into : ℕ) → Turned rows old new (Turns.Next out into) → GoneOn rows start old new
moved rows start old new h r out into t = record {
  held = t.4;
  vars = t.2;
  reached = subst (λ v. Reached v rows start (rising (v + length rows) new.basic)) (sym t.2) (subst (λ b. Reached old.vars rows start (rising (old.vars + length rows) b)) (sym t.3)
      (reached_next old.vars rows start (rising (old.vars + length rows) old.basic) (rising (old.vars + length rows) (swapped old.basic out into)) r (pivots_to old.vars rows old.d old.basic old.free old.lines h out into at en) (λ w. t.5 w.0 w.1)));
  fewer = subst (λ v. steps_left (v + length rows) (2 ^ (v + length rows)) (table (v + length rows) new.d new.basic new.free new.lines) < steps_of rows old) (sym t.2)
      (subst (λ b. steps_left (old.vars + length rows) (2 ^ (old.vars + length rows)) (table (old.vars + length rows) new.d b new.free new.lines) < steps_of rows old) (sym t.3)
      (fewer old.vars rows old.d old.basic old.free old.lines h out into at en new.d new.free new.lines
      (subst (λ v. Holds v rows new.d (swapped old.basic out into) new.free new.lines) t.2 (subst (λ b. Holds new.vars rows new.d b new.free new.lines) t.3 t.4))));
}
  where
    at : LeavesAt old.basic old.lines out
    at = leaves_at old.vars rows old.d old.basic old.free old.lines h out t.0

    en : EntersAt old.free (line_or out old.basic old.lines) into
    en = enters_at old.vars rows old.d old.basic old.free old.lines h out into at.member t.1

pub gone_on : (rows : List Row) (start : List ℕ) (old new : Seen) → IsOf rows old → ReachedAt rows start old → (turn : Turn) → Turned rows old new turn → GoesOn turn → GoneOn rows start old new
gone_on rows start old new h r Turns.Point t g = absurd g
gone_on rows start old new h r (Turns.Contradiction out) t g = absurd g
gone_on rows start old new h r (Turns.Wide out into row) t g = absurd g
gone_on rows start old new h r (Turns.Next out into) t g = moved rows start old new h r out into t

pub stays : (rows : List Row) (old new : Seen) (turn : Turn) → Turned rows old new turn → (GoesOn turn → ⊥) → new ≡ old
stays rows old new Turns.Point t g = t.0
stays rows old new (Turns.Contradiction out) t g = t.0
stays rows old new (Turns.Wide out into row) t g = t.0
stays rows old new (Turns.Next out into) t g = absurd (g tt)

pub ended_here : (rows : List Row) (old new : Seen) (turn : Turn) → Turned rows old new turn → (GoesOn turn → ⊥) → Ended rows new turn
ended_here rows old new turn t g = (g, subst (λ s. Turned rows s new turn) (sym (stays rows old new turn t g)) t)

pub ends : (rows : List Row) (t : Seen) → IsOf rows t → (turn : Turn) → Ended rows t turn → Ends t.vars rows (rising (t.vars + length rows) t.basic)
ends rows t h Turns.Point e = inl (stops_point t.vars rows t.d t.basic t.free t.lines h (none_leaves t.vars rows t.d t.basic t.free t.lines h e.1.1))
ends rows t h (Turns.Contradiction out) e = inl (stops_none t.vars rows t.d t.basic t.free t.lines h out at (none_enters t.vars rows t.d t.basic t.free t.lines h out at.member e.1.2))
  where
    at : LeavesAt t.basic t.lines out
    at = leaves_at t.vars rows t.d t.basic t.free t.lines h out e.1.1
ends rows t h (Turns.Wide out into row) e =
    inr (rising (t.vars + length rows) (swapped t.basic out into), pivots_to t.vars rows t.d t.basic t.free t.lines h out into at (enters_at t.vars rows t.d t.basic t.free t.lines h out into at.member e.1.2), (row, e.1.3))
  where
    at : LeavesAt t.basic t.lines out
    at = leaves_at t.vars rows t.d t.basic t.free t.lines h out e.1.1
ends rows t h (Turns.Next out into) e = absurd (e.0 tt)

pub walks_to : (rows : List Row) (start : List ℕ) (t : Seen) → IsOf rows t → ReachedAt rows start t → (turn : Turn) → Ended rows t turn → Walks t.vars rows start (rising (t.vars + length rows) t.basic)
walks_to rows start t h r turn e = walk_to t.vars rows start (rising (t.vars + length rows) t.basic) r (ends rows t h turn e)

pub out_of : (rows : List Row) (t : Seen) → IsOf rows t → (turn : Turn) → Ended rows t turn → (out into row : ℕ) → turn ≡ Turns.Wide out into row → Contains t.basic out
out_of rows t h turn e out into row s = Contains-from_in t.basic out (leaves_at t.vars rows t.d t.basic t.free t.lines h out (subst (λ (u : Turn). Turned rows t t u) s e.1).1).member

contradicts_at : (rows : List Row) (t : Seen) → IsOf rows t → (out : ℕ) → Ended rows t (Turns.Contradiction out) → Contradiction rows (mults_of t out)
contradicts_at rows t h out e = subst (λ n. Contradiction rows (mults t.vars (weight t.d out t.free (line_or out t.basic t.lines)) n)) (sym h.many) (contradicts t.vars rows t.d t.basic t.free t.lines h out at.member at.negative none)
  where
    at : LeavesAt t.basic t.lines out
    at = leaves_at t.vars rows t.d t.basic t.free t.lines h out e.1.1

    none : NoEntry t.free (line_or out t.basic t.lines)
    none = none_enters t.vars rows t.d t.basic t.free t.lines h out at.member e.1.2

pub certifies_of : (rows : List Row) (t : Seen) → IsOf rows t → (out : ℕ) → Ended rows t (Turns.Contradiction out) → (list : List Mult) → All IsTaking (mults_of t out) → Shortened (mults_of t out) list → Certifies rows t.vars list
certifies_of rows t h out e list k s =
    certifies rows t.vars (mults_of t out) list (contradicts_at rows t h out e)
    (subst (λ n. Rises (length rows) (map (λ (m : Mult). m.row) (mults t.vars w n))) (sym h.many) (rising_mults t.vars w (length rows)))
    k
    (some_mults rows (mults_of t out) (contradicts_at rows t h out e))
    (subst (λ n. length (mults t.vars w n) ≤ suc t.vars) (sym h.many) (few_mults t.vars rows t.d t.basic t.free t.lines h out at.member (line_or out t.basic t.lines)))
    s
  where
    w : ℕ → ℤ
    w = weight t.d out t.free (line_or out t.basic t.lines)

    at : LeavesAt t.basic t.lines out
    at = leaves_at t.vars rows t.d t.basic t.free t.lines h out e.1.1

pub some_of : (rows : List Row) (t : Seen) → IsOf rows t → (turn : Turn) → Ended rows t turn → (out : ℕ) → turn ≡ Turns.Contradiction out → 0 < length (mults_of t out)
some_of rows t h turn e out s = some_mults rows (mults_of t out) (contradicts_at rows t h out (subst (λ (u : Turn). Ended rows t u) s e))

pub shortest : (rows : List Row) (t : Seen) → IsOf rows t → (turn : Turn) → Ended rows t turn → (solved : Solved) → Answers t turn solved → IsShortest solved
shortest rows t h turn e (Solveds.Point den list) a = tt
shortest rows t h turn e (Solveds.Wide basis row) a = tt
shortest rows t h Turns.Point e (Solveds.Contradiction list) a = absurd a
shortest rows t h (Turns.Contradiction out) e (Solveds.Contradiction list) a = (certifies_of rows t h out e list.items a.0 a.1).shortest
shortest rows t h (Turns.Wide out into row) e (Solveds.Contradiction list) a = absurd a
shortest rows t h (Turns.Next out into) e (Solveds.Contradiction list) a = absurd (e.0 tt)

pub solves : (rows : List Row) (t : Seen) → IsOf rows t → Walks t.vars rows (slacks t.vars rows) (rising (t.vars + length rows) t.basic) → (turn : Turn) → Ended rows t turn → (solved : Solved) → Answers t turn solved → Solves t.vars rows solved
solves rows t h r Turns.Point e (Solveds.Point den list) a = (
  subst (λ c. MeetsRows rows c list.items) (sym a.0) (subst (MeetsRows rows t.d) (sym (a.1 ∙ upto_is t.vars t.basic t.lines)) (meets t.vars rows t.d t.basic t.free t.lines h none)),
  ap length (a.1 ∙ upto_is t.vars t.basic t.lines) ∙ length-map (range_with_len 0 t.vars) (λ z. constant (line_or z t.basic t.lines)) ∙ length-range_with_len 0 t.vars,
  never_wide t.vars rows (slacks t.vars rows) (rising (t.vars + length rows) t.basic) r (stops_point t.vars rows t.d t.basic t.free t.lines h none),
)
  where
    none : (y : ℕ) → In y t.basic → pos 0 ≤ℤ constant (line_or y t.basic t.lines)
    none = none_leaves t.vars rows t.d t.basic t.free t.lines h e.1.1
solves rows t h r Turns.Point e (Solveds.Contradiction list) a = absurd a
solves rows t h r Turns.Point e (Solveds.Wide basis row) a = absurd a
solves rows t h r (Turns.Contradiction out) e (Solveds.Point den list) a = absurd a
solves rows t h r (Turns.Contradiction out) e (Solveds.Contradiction list) a =
    (c.contradiction, c.rising, c.taken, c.some, c.few, never_wide t.vars rows (slacks t.vars rows) (rising (t.vars + length rows) t.basic) r (stops_none t.vars rows t.d t.basic t.free t.lines h out at none))
  where
    at : LeavesAt t.basic t.lines out
    at = leaves_at t.vars rows t.d t.basic t.free t.lines h out e.1.1

    none : NoEntry t.free (line_or out t.basic t.lines)
    none = none_enters t.vars rows t.d t.basic t.free t.lines h out at.member e.1.2

    c : Certifies rows t.vars list.items
    c = certifies_of rows t h out e list.items a.0 a.1
solves rows t h r (Turns.Contradiction out) e (Solveds.Wide basis row) a = absurd a
solves rows t h r (Turns.Wide out into row) e (Solveds.Point den list) a = absurd a
solves rows t h r (Turns.Wide out into row) e (Solveds.Contradiction list) a = absurd a
solves rows t h r (Turns.Wide out into row) e (Solveds.Wide basis k) a =
    subst (λ (b : List ℕ). WalkWide t.vars rows b k) (sym (a.0 ∙ ap (λ n. rising (t.vars + n) (swapped t.basic out into)) h.many))
    (subst (WalkWide t.vars rows (rising (t.vars + length rows) (swapped t.basic out into))) (sym a.1)
    (walk_wide t.vars rows (slacks t.vars rows) (rising (t.vars + length rows) t.basic) (rising (t.vars + length rows) (swapped t.basic out into)) row r (pivots_to t.vars rows t.d t.basic t.free t.lines h out into at en) e.1.3 e.1.4))
  where
    at : LeavesAt t.basic t.lines out
    at = leaves_at t.vars rows t.d t.basic t.free t.lines h out e.1.1

    en : EntersAt t.free (line_or out t.basic t.lines) into
    en = enters_at t.vars rows t.d t.basic t.free t.lines h out into at.member e.1.2
solves rows t h r (Turns.Next out into) e solved a = absurd (e.0 tt)
