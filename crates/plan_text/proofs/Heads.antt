-- The reading of a whole plan: what each part takes, and that it takes what is written.
use Rattle.std.proofs.Common.{◌≡◌, ℕ, ◌≤◌, pos, List, [], ◌∷◌, ◌++◌, Option, Some, None, Ok, codes, refl, sym, ap, ◌∙◌, subst, arith, append_assoc}
use Rattle.std.specs.Option.{ok_or}
use Rattle.text_lines.specs.Reading.{literal_at}
use Rattle.text_lines.specs.Laws.Reading.{literal_takes, literal_again}
use Rattle.seq_model.specs.declared.what.What.TheVariants as what
use Rattle.plan_text.specs.declared.file.State.{State}
use Rattle.plan_text.specs.declared.file.State.TheVariants.{Found, Least, OpenBudget, OpenWide, NoPlan, UndecidedBudget, UndecidedWide}
use Rattle.plan_text.specs.PlanText.{state_line, head_text}
use Rattle.plan_text.specs.Lines.{or_later, first_named, state_line_at}
use Rattle.text_lines.specs.Lines.{number_line, number_line_at}
use Rattle.text_lines.specs.Laws.Lines.{number_line_takes, number_line_again}
use Rattle.plan_text.specs.Reading.{refusal, head_at}
use Rattle.text_lines.specs.Laws.Results.{step_ok, was_there, same_ok}

-- ---- the state
named_takes : (s : State) (o : Option (List ℕ)) (later : Option (State × List ℕ)) (bytes rest : List ℕ) (t : State) → literal_at (state_line s) bytes ≡ o → (later ≡ Some (t, rest) → bytes ≡ state_line t ++ rest) → or_later s o later ≡ Some (t, rest) → bytes ≡ state_line t ++ rest
named_takes s None later bytes rest t is next e = next e
named_takes s (Some r) later bytes rest t is next e =
    let both : (s, r) ≡ (t, rest) = cc in
    literal_takes (state_line s) bytes r is ∙ ap (λ (q : State × List ℕ). state_line q.0 ++ q.1) both

first_takes : (ss : List State) (bytes rest : List ℕ) (t : State) → first_named ss bytes ≡ Some (t, rest) → bytes ≡ state_line t ++ rest
first_takes [] bytes rest t e = absurd cc
first_takes (s ∷ ss) bytes rest t e = named_takes s (literal_at (state_line s) bytes) (first_named ss bytes) bytes rest t refl (first_takes ss bytes rest t) e

pub state_takes : (bytes rest : List ℕ) (t : State) → state_line_at bytes ≡ Some (t, rest) → bytes ≡ state_line t ++ rest
unfolding state_line_at
state_takes bytes rest t e = first_takes (Found ∷ Least ∷ OpenBudget ∷ OpenWide ∷ NoPlan ∷ UndecidedBudget ∷ UndecidedWide ∷ []) bytes rest t e

pub state_again : (s : State) (rest : List ℕ) → state_line_at (state_line s ++ rest) ≡ Some (s, rest)
unfolding state_line_at literal_at
state_again Found rest = refl
state_again Least rest = refl
state_again OpenBudget rest = refl
state_again OpenWide rest = refl
state_again NoPlan rest = refl
state_again UndecidedBudget rest = refl
state_again UndecidedWide rest = refl

-- ---- the first three lines
pub record TakesHead (bytes rest : List ℕ) (state : State) (grid : ℕ) : Type 0 where
  pub spelled : bytes ≡ head_text state grid ++ rest
  pub low : 1 ≤ grid
  pub high : grid ≤ 1_000

regroup_head : (a b c rest : List ℕ) → (a ++ (b ++ c)) ++ rest ≡ a ++ (b ++ (c ++ rest))
regroup_head a b c rest = simp append_assoc

pub head_takes : (bytes rest : List ℕ) (state : State) (grid : ℕ) → head_at bytes ≡ Ok (state, grid, rest) → TakesHead bytes rest state grid
unfolding head_at
head_takes bytes rest state grid e =
    let a = step_ok (ok_or (literal_at (codes "seqplan 1\n") bytes) (refusal 1 what.Header bytes)) _ (state, grid, rest) e in
    let s = step_ok (ok_or (state_line_at a.0) (refusal 2 what.State a.0)) _ (state, grid, rest) a.2 in
    let g = step_ok (ok_or (number_line_at (codes "grid ") 1_000 s.0.1) (refusal 3 what.Grid s.0.1)) _ (state, grid, rest) s.2 in
    let end : (s.0.0, g.0.0, g.0.1) ≡ (state, grid, rest) = same_ok _ _ _ refl g.2 in
    let header = literal_takes (codes "seqplan 1\n") bytes a.0 (was_there _ _ a.0 a.1) in
    let line = state_takes a.0 s.0.1 s.0.0 (was_there _ _ s.0 s.1) in
    let number = number_line_takes (codes "grid ") 1_000 s.0.1 g.0.1 g.0.0 (was_there _ _ g.0 g.1) in
    let spelled : bytes ≡ codes "seqplan 1\n" ++ (state_line s.0.0 ++ (number_line (codes "grid ") (pos g.0.0) ++ g.0.1)) = header ∙ ap (λ l. codes "seqplan 1\n" ++ l) (line ∙ ap (λ l. state_line s.0.0 ++ l) number.spelled) in
    let taken : TakesHead bytes g.0.1 s.0.0 g.0.0 = record { spelled = spelled ∙ sym (regroup_head (codes "seqplan 1\n") (state_line s.0.0) (number_line (codes "grid ") (pos g.0.0)) g.0.1); low = number.low; high = number.high } in
    subst (λ (t : State × ℕ × List ℕ). TakesHead bytes t.2 t.0 t.1) end taken

pub head_again : (state : State) (grid : ℕ) (rest : List ℕ) → 1 ≤ grid → grid ≤ 1_000 → head_at (head_text state grid ++ rest) ≡ Ok (state, grid, rest)
unfolding head_at
head_again state grid rest low high =
    rw (regroup_head (codes "seqplan 1\n") (state_line state) (number_line (codes "grid ") (pos grid)) rest)
    (rw (literal_again (codes "seqplan 1\n") (state_line state ++ (number_line (codes "grid ") (pos grid) ++ rest)), state_again state (number_line (codes "grid ") (pos grid) ++ rest), number_line_again (codes "grid ") 1_000 grid rest low high (omega arith)) refl)
