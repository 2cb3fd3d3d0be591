-- Where the zero point meets all rows, nothing leaves the basis of the slacks, and it is the answer.
use Rattle.std.proofs.Common.{◌≡◌, ℕ, zero, suc, ◌+◌, ◌<◌, ◌≤◌, List, [], ◌∷◌, ◌++◌, length, get_or, refl, ap, sym, subst, ◌∙◌, arith, ℤ, pos, ◌+ℤ◌, ◌*ℤ◌, ◌≤ℤ◌, ◌<ℤ◌, ◌⊎◌, inl, inr, Bool, true, false, None}
use Rattle.std.proofs.lemmas.Int.{ints}
use Rattle.std.proofs.lemmas.List.FromFn.{length-range_with_len}
use Rattle.std.proofs.lemmas.List.Elements.{All-get_or}
use Rattle.std.proofs.lemmas.Option.{none-some}
use Rattle.std.specs.Int.Signed.{lt_z}
use Rattle.std.specs.List.{range_with_len}
use lib.Signed.{lt_z_yes}
use lib.Dec.{T}
use Rattle.integer_laws.specs.Members.{In}
use Rattle.integer_laws.specs.Laws.Vectors.{dot_comm, dot-zeros}
use Rattle.integer_laws.specs.Vectors.{dot, zeros}
use Rattle.row_laws.specs.Laws.Independence.{true_or_false}
use Rattle.row_laws.specs.Laws.Pivots.{below}
use Rattle.row_pivots.specs.Ends.{slack_lines}
use Rattle.row_pivots.specs.Laws.Points.{line_none}
use Rattle.row_pivots.specs.Laws.Sorted.{range_climbs}
use Rattle.row_pivots.specs.Tables.{line_or}
use Rattle.row_dictionary.specs.Scans.{least_upto, number_at, least_leaving, start}
use Rattle.row_dictionary.specs.Seen.{Seen}
use Rattle.row_dictionary.specs.Tables.{least_with}
use Rattle.row_dictionary.specs.Turning.{Turned}
use Rattle.row_dictionary.specs.declared.turn.Turn.{Turn}
use Rattle.row_dictionary.specs.declared.turn.Turn.TheVariants as Turns
use Rattle.feasible_point.specs.Answering.{Answers, IsZeroPoint}
use Rattle.feasible_point.specs.Walked.{GoesOn, Ended, nums_upto}
use Rattle.feasible_point.specs.declared.Solved.{Solved}
use Rattle.feasible_point.specs.declared.Solved.TheVariants as Solveds
use Rattle.seq_model.specs.Systems.{MeetsRows, row_value, no_row}
use Rattle.seq_model.specs.Walks.{constant}
use Rattle.seq_model.specs.declared.row.Row.{Row}

-- ---- nothing leaves
is_false : (x y : ℤ) → y ≤ℤ x → lt_z x y ≡ false
is_false x y h = by (true_or_false (lt_z x y))
  where
    by : ((lt_z x y ≡ true) ⊎ (lt_z x y ≡ false)) → lt_z x y ≡ false
    by (inl e) = absurd (let k : x <ℤ y = lt_z_yes (subst T (sym e) tt) in omega (arith, ints, h, k))
    by (inr e) = e

none_passes : (zs : List ℕ) (p : ℕ → Bool) (n : ℕ) → ((i : ℕ) → i < n → p i ≡ false) → least_upto zs p n ≡ None
none_passes zs p zero h = refl
none_passes zs p (suc n) h = ap (least_with (least_upto zs p n) (get_or zs n 0)) (h n (omega arith)) ∙ none_passes zs p n (λ i k. h i (omega (arith, k)))

at_map : (rows : List Row) (i : ℕ) → i < length rows → get_or (slack_lines rows) i [] ≡ (get_or rows i no_row).c ∷ (get_or rows i no_row).a
at_map [] i h = absurd (omega (arith, h))
at_map (row ∷ rows) zero h = refl
at_map (row ∷ rows) (suc i) h = at_map rows i (omega (arith, h))

constant_of_zero : (row : Row) (n : ℕ) → pos 0 ≤ℤ row_value (pos 1) (zeros n) row → pos 0 ≤ℤ row.c
constant_of_zero row n h = plain row.c (dot row.a (zeros n)) (dot_comm row.a (zeros n) ∙ dot-zeros n row.a) h
  where
    plain : (c p : ℤ) → p ≡ pos 0 → pos 0 ≤ℤ (pos 1 *ℤ c +ℤ p) → pos 0 ≤ℤ c
    plain c p e h = omega (arith, ints, e, h)

pub start_stays : (vars : ℕ) (rows : List Row) → MeetsRows rows (pos 1) (zeros vars) → least_leaving (start vars rows).basic (start vars rows).lines ≡ None
start_stays vars rows m = none_passes (range_with_len vars (length rows)) (λ i. lt_z (number_at (slack_lines rows) i 0) (pos 0)) (length (range_with_len vars (length rows))) each
  where
    each : (i : ℕ) → i < length (range_with_len vars (length rows)) → lt_z (number_at (slack_lines rows) i 0) (pos 0) ≡ false
    each i h =
        let within : i < length rows = subst (λ n. i < n) (length-range_with_len vars (length rows)) h in
        is_false (number_at (slack_lines rows) i 0) (pos 0) (subst (λ t. pos 0 ≤ℤ t) (sym (ap (λ (l : List ℤ). get_or l 0 (pos 0)) (at_map rows i within)))
        (constant_of_zero (get_or rows i no_row) vars (All-get_or (λ row. pos 0 ≤ℤ row_value (pos 1) (zeros vars) row) rows i no_row within m.each)))

pub no_turn : (rows : List Row) (old new : Seen) (turn : Turn) → Turned rows old new turn → least_leaving old.basic old.lines ≡ None → GoesOn turn → ⊥
no_turn rows old new Turns.Point t e g = g
no_turn rows old new (Turns.Contradiction out) t e g = g
no_turn rows old new (Turns.Wide out into row) t e g = g
no_turn rows old new (Turns.Next out into) t e g = none-some out (sym e ∙ t.0)

-- ---- the point
nothing : (vars n m : ℕ) (lines : List (List ℤ)) → n ≤ vars → nums_upto n (range_with_len vars m) lines ≡ zeros n
nothing vars zero m lines h = refl
nothing vars (suc n) m lines h = ap (λ (t : List ℤ). t ++ constant (line_or n (range_with_len vars m) lines) ∷ []) (nothing vars n m lines (omega (arith, h))) ∙ ap (λ (t : List ℤ). zeros n ++ constant t ∷ []) (line_none n (range_with_len vars m) lines apart) ∙ zeros_on n
  where
    apart : In n (range_with_len vars m) → ⊥
    apart i = let b = (below vars (vars + m) (range_with_len vars m) n (range_climbs vars m (vars + m) refl) i).0 in absurd (omega (arith, h, b))

    zeros_on : (n : ℕ) → zeros n ++ pos 0 ∷ [] ≡ zeros (suc n)
    zeros_on zero = refl
    zeros_on (suc n) = ap (λ t. pos 0 ∷ t) (zeros_on n)

pub zero_answer : (vars : ℕ) (rows : List Row) → least_leaving (start vars rows).basic (start vars rows).lines ≡ None → (turn : Turn) → Ended rows (start vars rows) turn → (solved : Solved) → Answers (start vars rows) turn solved → IsZeroPoint vars solved
zero_answer vars rows n Turns.Point e (Solveds.Point den list) a = (a.0, a.1 ∙ nothing vars vars (length rows) (slack_lines rows) (omega arith))
zero_answer vars rows n Turns.Point e (Solveds.Contradiction list) a = absurd a
zero_answer vars rows n Turns.Point e (Solveds.Wide basis row) a = absurd a
zero_answer vars rows n (Turns.Contradiction out) e solved a = absurd (none-some out (sym n ∙ e.1.1))
zero_answer vars rows n (Turns.Wide out into row) e solved a = absurd (none-some out (sym n ∙ e.1.1))
zero_answer vars rows n (Turns.Next out into) e solved a = absurd (e.0 tt)
