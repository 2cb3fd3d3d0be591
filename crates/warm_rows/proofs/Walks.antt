-- A walk that notes its pivots, turn by turn.
use Rattle.std.proofs.Common.{◌≡◌, suc, ◌<◌, List, [], ◌∷◌, ◌++◌, length, Contains, refl, ap, sym, subst, ◌∙◌, arith, None}
use Rattle.std.proofs.lemmas.List.Elements.{All-push}
use Rattle.integer_laws.specs.Laws.Members.{Contains-from_in}
use Rattle.feasible_point.specs.Laws.Solving.{gone_on, stays, ended_here, walks_to}
use Rattle.feasible_point.specs.Laws.Walking.{steps_of}
use Rattle.feasible_point.specs.Laws.Zero.{no_turn}
use Rattle.feasible_point.specs.Walked.{GoesOn, Ended}
use Rattle.row_pivots.specs.Tables.{line_or}
use Rattle.row_dictionary.specs.Laws.Found.{LeavesAt, EntersAt, leaves_at, enters_at}
use Rattle.row_dictionary.specs.Scans.{least_leaving}
use Rattle.row_dictionary.specs.Seen.{Seen, IsOf, basis_of}
use Rattle.row_dictionary.specs.Shrinking.{Fits}
use Rattle.row_dictionary.specs.Turning.{Turned, Frees}
use Rattle.row_dictionary.specs.declared.turn.Turn.{Turn}
use Rattle.row_dictionary.specs.declared.turn.Turn.TheVariants as Turns
use Rattle.seq_model.specs.declared.row.Row.{Row}
use Rattle.warm_rows.specs.Keeping.{Kept}
use Rattle.warm_rows.specs.Walking.{noted, OnWalk, AtEnd}
use Rattle.warm_rows.specs.Warming.{rows_of, ArePivots, IsPivot}
use Rattle.warm_rows.specs.declared.step.Step.{Step}
use Rattle.warm_rows.specs.declared.step.Step.TheVariants as Steps
use Rattle.warm_rows.proofs.Steps.{joined_none, rows_of-append, rows_of-pivot, gives_pivot, kept_more}

joined_twice : {A : Type 0} (xs ys zs : List A) → (xs ++ ys) ++ zs ≡ xs ++ (ys ++ zs)
joined_twice [] ys zs = refl
joined_twice (x ∷ xs) ys zs = ap (λ t. x ∷ t) (joined_twice xs ys zs)

no_rows : (pivots : List Step) → ArePivots pivots → rows_of pivots ≡ []
no_rows [] a = refl
no_rows (Steps.Row row ∷ pivots) a = absurd (a 0 (Steps.Row row) (omega arith))
no_rows (Steps.Pivot out into ∷ pivots) a = no_rows pivots (λ k d h. a (suc k) d (omega (arith, h)))

pub same_rows : (steps pivots : List Step) → ArePivots pivots → rows_of (steps ++ pivots) ≡ rows_of steps
same_rows steps pivots a = rows_of-append steps pivots ∙ ap (λ r. rows_of steps ++ r) (no_rows pivots a) ∙ joined_none (rows_of steps)

pub rows_on : (steps more : List Step) (t new : Seen) → OnWalk steps t more new → rows_of more ≡ rows_of steps
rows_on steps more t new w = ap rows_of w.steps_are ∙ same_rows steps w.pivots w.are

pub held_on : (steps more : List Step) (t new : Seen) → OnWalk steps t more new → IsOf (rows_of steps) new
held_on steps more t new w = subst (λ (r : List Row). IsOf r new) (rows_on steps more t new w) w.kept.gives.is_of

-- ---- a turn that pivots
pub goes : (steps more : List Step) (first t new : Seen) (turn : Turn) → OnWalk steps first more t → Fits t → Turned (rows_of steps) t new turn → Frees t.free new.free turn → GoesOn turn → OnWalk steps first (noted more turn) new
goes steps more first t new Turns.Point w f u r g = absurd g
goes steps more first t new (Turns.Contradiction out) w f u r g = absurd g
goes steps more first t new (Turns.Wide out into row) w f u r g = absurd g
goes steps more first t new (Turns.Next out into) w f u r g = record {
  vars = u.2 ∙ w.vars;
  pivots = w.pivots ++ Steps.Pivot out into ∷ [];
  are = All-push IsPivot w.pivots (Steps.Pivot out into) w.are tt;
  steps_are = ap (λ (l : List Step). l ++ Steps.Pivot out into ∷ []) w.steps_are ∙ joined_twice steps w.pivots (Steps.Pivot out into ∷ []);
  kept = subst (λ v. Kept v (more ++ Steps.Pivot out into ∷ []) new) (sym u.2) (kept_more t.vars more t new (Steps.Pivot out into) w.kept f members
      (gives_pivot t.vars more t new out into w.kept.gives u.2 u.3 r (subst (λ (l : List Row). IsOf l new) (sym rows) u.4))
      (let c = w.kept.count in let l = ap length (rows_of-pivot more out into) in omega (arith, c, l)));
  reached = (gone_on (rows_of steps) (basis_of (rows_of steps) first) t new h w.reached (Turns.Next out into) u tt).reached;
  stays = λ n. absurd (no_turn (rows_of steps) t new (Turns.Next out into) u (subst (λ (s : Seen). least_leaving s.basic s.lines ≡ None) (sym (w.stays n)) n) tt);
}
  where
    rows : rows_of more ≡ rows_of steps
    rows = rows_on steps more first t w

    h : IsOf (rows_of steps) t
    h = held_on steps more first t w

    at : LeavesAt t.basic t.lines out
    at = leaves_at t.vars (rows_of steps) t.d t.basic t.free t.lines h out u.0

    en : EntersAt t.free (line_or out t.basic t.lines) into
    en = enters_at t.vars (rows_of steps) t.d t.basic t.free t.lines h out into at.member u.1

    members : Contains t.basic out × Contains t.free into
    members = (Contains-from_in t.basic out at.member, Contains-from_in t.free into en.member)

pub goes_fewer : (steps more : List Step) (first t new : Seen) (turn : Turn) → OnWalk steps first more t → Turned (rows_of steps) t new turn → GoesOn turn → steps_of (rows_of steps) new < steps_of (rows_of steps) t
goes_fewer steps more first t new turn w u g = (gone_on (rows_of steps) (basis_of (rows_of steps) first) t new (held_on steps more first t w) w.reached turn u g).fewer

-- ---- a turn that doesn't

pub ends : (steps more : List Step) (first t new : Seen) (turn : Turn) → OnWalk steps first more t → Turned (rows_of steps) t new turn → (GoesOn turn → ⊥) → AtEnd steps first new turn
ends steps more first t new turn w u g = record { walks = walks_to (rows_of steps) (basis_of (rows_of steps) first) new (held_on steps more first new here) here.reached turn ended; ended = ended }
  where
    here : OnWalk steps first more new
    here = subst (OnWalk steps first more) (sym (stays (rows_of steps) t new turn u g)) w

    ended : Ended (rows_of steps) new turn
    ended = ended_here (rows_of steps) t new turn u g
