-- The answer of the reading: it is a file and a place just where the bytes before the place are the file's text, and there its lines end.
use Rattle.std.proofs.Common.{◌≡◌, ◌≢◌, ℕ, ◌+◌, ◌-◌, ◌≤◌, ℤ, pos, List, [], ◌++◌, length, take, drop, Bool, true, false, cond, ◌||◌, eqb, Result, Ok, Err, refl, sym, ap, ◌∙◌, subst, arith, append_assoc, append-nil, length-append, length-drop}
use Rattle.std.proofs.lemmas.Bool.Decides.{nat_tests}
use Rattle.std.proofs.lemmas.List.{take-append-drop, take_at, drop_at}
use Rattle.seq_model.specs.declared.plan.Place.{Place}
use Rattle.plan_text.specs.declared.file.State.{State}
use Rattle.plan_text.specs.declared.file.PlanFile.{PlanFile}
use Rattle.plan_text.specs.declared.reading.PlanRead.{PlanRead}
use Rattle.plan_text.specs.declared.reading.PlanRead.TheVariants as refused
use Rattle.plan_text.specs.PlanText.{has_places, is_block_due, head_text, body_text, plan_text, begins_place, IsBare, IsPlanFile, IsPlanOf}
use Rattle.text_lines.specs.Reading.{has_line_end}
use Rattle.plan_text.specs.Reading.{head_at, body_at, bare, file_at, ended, plan_answer}
use Rattle.text_lines.specs.Laws.Results.{step_ok, same_ok, err_is_not_ok}
use Rattle.plan_text.proofs.Heads.{TakesHead, head_takes, head_again}
use Rattle.plan_text.proofs.Bodies.{TakesBody, body_takes, body_again}

-- ---- the steps of a file

pub with_body : (bytes rest : List ℕ) (state : State) (grid : ℕ) → head_at bytes ≡ Ok (state, grid, rest) → has_places state ≡ true → file_at bytes ≡ body_at state grid rest
unfolding file_at
with_body bytes rest state grid h placed = rw (h, placed) refl

pub without_body : (bytes rest : List ℕ) (state : State) (grid : ℕ) → head_at bytes ≡ Ok (state, grid, rest) → has_places state ≡ false → file_at bytes ≡ Ok (bare state grid, rest)
unfolding file_at
without_body bytes rest state grid h unplaced = rw (h, unplaced) refl

-- ---- what a file takes
pub record TakesFile (bytes rest : List ℕ) (f : PlanFile) : Type 0 where
  pub spelled : bytes ≡ plan_text f ++ rest
  pub file : IsPlanFile f
  pub ended : has_places f.state ≡ true → begins_place rest ≡ false

placed_text : (f : PlanFile) → has_places f.state ≡ true → plan_text f ≡ head_text f.state f.grid ++ body_text f.extent f.plan
placed_text f placed = ap (λ b. head_text f.state f.grid ++ cond b (body_text f.extent f.plan) []) placed

bare_text : (f : PlanFile) → has_places f.state ≡ false → plan_text f ≡ head_text f.state f.grid
bare_text f unplaced = ap (λ b. head_text f.state f.grid ++ cond b (body_text f.extent f.plan) []) unplaced ∙ append-nil (head_text f.state f.grid)

both_ways : (b : Bool) → b ≡ true → b ≡ false → ⊥
both_ways b is_true is_false = (let p : true ≡ false = sym is_true ∙ is_false in absurd (cc))

with_places : (bytes mid rest : List ℕ) (state : State) (grid : ℕ) (f : PlanFile) → TakesHead bytes mid state grid → TakesBody state grid mid rest f → has_places state ≡ true → TakesFile bytes rest f
with_places bytes mid rest state grid f h b placed =
    let same : has_places f.state ≡ true = ap has_places b.state_is ∙ placed in
    let head : head_text state grid ≡ head_text f.state f.grid = ap (λ s. head_text s grid) (sym b.state_is) ∙ ap (head_text f.state) (sym b.grid_is) in
    let body : head_text state grid ++ mid ≡ head_text f.state f.grid ++ (body_text f.extent f.plan ++ rest) = ap (λ l. l ++ mid) head ∙ ap (λ l. head_text f.state f.grid ++ l) b.spelled in
    record {
      spelled = h.spelled ∙ body ∙ sym (append_assoc (head_text f.state f.grid) (body_text f.extent f.plan) rest) ∙ ap (λ l. l ++ rest) (sym (placed_text f same));
      file = record {
        grid_low = subst (λ n. 1 ≤ n) (sym b.grid_is) h.low;
        grid_high = subst (λ n. n ≤ 1_000) (sym b.grid_is) h.high;
        placed = λ _. b.placed;
        bare = λ is_false. absurd (both_ways (has_places f.state) same is_false);
      };
      ended = λ _. b.ended;
    }

without_places : (bytes rest : List ℕ) (state : State) (grid : ℕ) → TakesHead bytes rest state grid → has_places state ≡ false → TakesFile bytes rest (bare state grid)
without_places bytes rest state grid h unplaced = record {
  spelled = h.spelled ∙ ap (λ l. l ++ rest) (sym (bare_text (bare state grid) unplaced));
  file = record {
    grid_low = h.low;
    grid_high = h.high;
    placed = λ is_true. absurd (both_ways (has_places state) is_true unplaced);
    bare = λ _. record { extent = refl; scale = refl; places = refl };
  };
  ended = λ is_true. absurd (both_ways (has_places state) is_true unplaced);
}

by_places : (b : Bool) (bytes mid rest : List ℕ) (state : State) (grid : ℕ) (f : PlanFile) → has_places state ≡ b → TakesHead bytes mid state grid → cond b (body_at state grid mid) (Ok (bare state grid, mid)) ≡ Ok (f, rest) → TakesFile bytes rest f
by_places true bytes mid rest state grid f placed h e = with_places bytes mid rest state grid f h (body_takes state grid mid rest f e) placed
by_places false bytes mid rest state grid f unplaced h e =
    let both : (bare state grid, mid) ≡ (f, rest) = same_ok _ _ _ refl e in
    subst (λ (q : PlanFile × List ℕ). TakesFile bytes q.1 q.0) both (without_places bytes mid state grid h unplaced)

pub file_takes : (bytes rest : List ℕ) (f : PlanFile) → file_at bytes ≡ Ok (f, rest) → TakesFile bytes rest f
unfolding file_at
file_takes bytes rest f e =
    let h = step_ok (head_at bytes) _ (f, rest) e in
    by_places (has_places h.0.0) bytes h.0.2 rest h.0.0 h.0.1 f refl (head_takes bytes h.0.2 h.0.0 h.0.1 h.1) h.2

-- ---- and it takes what is written
bare_is : (f : PlanFile) → IsBare f → bare f.state f.grid ≡ f
bare_is f b = same f.extent f.plan.scale f.plan.places b.extent b.scale b.places
  where
    same : (extent : ℕ) (scale : ℤ) (places : List Place) → extent ≡ 0 → scale ≡ pos 1 → places ≡ [] → bare f.state f.grid ≡ record { state = f.state; grid = f.grid; extent = extent; plan = record { scale = scale; places = places } }
    same extent scale places e s p = rw (e, s, p) refl

again_by : (b : Bool) (f : PlanFile) (rest : List ℕ) → has_places f.state ≡ b → IsPlanFile f → (has_places f.state ≡ true → begins_place rest ≡ false) → file_at (plan_text f ++ rest) ≡ Ok (f, rest)
again_by true f rest placed is ended =
    let mid = body_text f.extent f.plan ++ rest in
    let text : plan_text f ++ rest ≡ head_text f.state f.grid ++ mid = ap (λ l. l ++ rest) (placed_text f placed) ∙ append_assoc (head_text f.state f.grid) (body_text f.extent f.plan) rest in
    ap file_at text ∙ with_body (head_text f.state f.grid ++ mid) mid f.state f.grid (head_again f.state f.grid mid is.grid_low is.grid_high) placed ∙ body_again f rest is.grid_high (is.placed placed) (ended placed)
again_by false f rest unplaced is ended =
    ap (λ l. file_at (l ++ rest)) (bare_text f unplaced)
    ∙ without_body (head_text f.state f.grid ++ rest) rest f.state f.grid (head_again f.state f.grid rest is.grid_low is.grid_high) unplaced
    ∙ ap (λ (g : PlanFile). Ok (g, rest)) (bare_is f (is.bare unplaced))

pub file_again : (f : PlanFile) (rest : List ℕ) → IsPlanFile f → (has_places f.state ≡ true → begins_place rest ≡ false) → file_at (plan_text f ++ rest) ≡ Ok (f, rest)
file_again f rest is ended = again_by (has_places f.state) f rest refl is ended

-- ---- what may stand behind the lines
ended_by : (due empty lines : Bool) → cond {A = Result (Unit {0}) PlanRead} (due || empty) (Ok tt) (cond lines (Err refused.Trailing) (Err refused.Missing)) ≡ Ok tt → due ≡ false → empty ≡ true
ended_by true empty lines e undue = absurd (both_ways true refl undue)
ended_by false true lines e undue = refl
ended_by false false true e undue = absurd (err_is_not_ok _ tt _ refl e)
ended_by false false false e undue = absurd (err_is_not_ok _ tt _ refl e)

ended_takes : (f : PlanFile) (rest : List ℕ) → ended f rest ≡ Ok tt → is_block_due f.state f.extent ≡ false → length rest ≡ 0
unfolding ended
ended_takes f rest e is_false =
    let empty = ended_by (is_block_due f.state f.extent) (eqb (length rest) 0) (has_line_end rest) e is_false in
    grind (arith, nat_tests, empty)

none_behind : (due : Bool) (rest : List ℕ) (other : Result (Unit {0}) PlanRead) → (due ≡ false → length rest ≡ 0) → cond (due || eqb (length rest) 0) (Ok tt) other ≡ Ok tt
none_behind true rest other h = refl
none_behind false rest other h =
    let empty : eqb (length rest) 0 ≡ true = grind (arith, nat_tests, h refl) in
    rw empty refl

ended_again : (f : PlanFile) (rest : List ℕ) → (is_block_due f.state f.extent ≡ false → length rest ≡ 0) → ended f rest ≡ Ok tt
unfolding ended
ended_again f rest h = none_behind (is_block_due f.state f.extent) rest _ h

-- ---- the answer
pub no_file : (bytes : List ℕ) (e : PlanRead) → file_at bytes ≡ Err e → plan_answer bytes ≡ Err e
unfolding plan_answer
no_file bytes e h = rw h refl

pub no_end : (bytes rest : List ℕ) (f : PlanFile) (e : PlanRead) → file_at bytes ≡ Ok (f, rest) → ended f rest ≡ Err e → plan_answer bytes ≡ Err e
unfolding plan_answer
no_end bytes rest f e h k = rw (h, k) refl

pub whole : (bytes rest : List ℕ) (f : PlanFile) → file_at bytes ≡ Ok (f, rest) → ended f rest ≡ Ok tt → plan_answer bytes ≡ Ok (f, length bytes - length rest)
unfolding plan_answer
whole bytes rest f h k = rw (h, k) refl

pub within : (bytes rest : List ℕ) (f : PlanFile) → file_at bytes ≡ Ok (f, rest) → length rest ≤ length bytes
within bytes rest f h =
    let t = file_takes bytes rest f h in
    omega (arith, ap length t.spelled, length-append (plan_text f) rest)

is_plan : (bytes rest : List ℕ) (f : PlanFile) (k : ℕ) → TakesFile bytes rest f → ended f rest ≡ Ok tt → length (plan_text f) ≡ k → IsPlanOf bytes f k
is_plan bytes rest f k t end is =
    let sizes : length bytes ≡ k + length rest = ap length t.spelled ∙ length-append (plan_text f) rest ∙ ap (λ n. n + length rest) is in
    let front : take k bytes ≡ plan_text f = ap (take k) t.spelled ∙ take_at (plan_text f) rest k is in
    let back : drop k bytes ≡ rest = ap (drop k) t.spelled ∙ drop_at (plan_text f) rest k is in
    record {
      spelled = t.file;
      within = omega arith;
      text = front;
      ended = λ placed. ap begins_place back ∙ t.ended placed;
      alone = λ is_false. (let none = ended_takes f rest end is_false in omega (arith, none, sizes));
    }

pub answer_is : (bytes rest : List ℕ) (f : PlanFile) → file_at bytes ≡ Ok (f, rest) → ended f rest ≡ Ok tt → IsPlanOf bytes f (length bytes - length rest)
answer_is bytes rest f h end =
    let t = file_takes bytes rest f h in
    is_plan bytes rest f (length bytes - length rest) t end (omega (arith, ap length t.spelled, length-append (plan_text f) rest))

pub answer_again : (bytes : List ℕ) (f : PlanFile) (k : ℕ) → IsPlanOf bytes f k → plan_answer bytes ≡ Ok (f, k)
answer_again bytes f k p =
    let rest = drop k bytes in
    let text : bytes ≡ plan_text f ++ rest = sym (take-append-drop k bytes) ∙ ap (λ l. l ++ rest) p.text in
    let read : file_at bytes ≡ Ok (f, rest) = ap file_at text ∙ file_again f rest p.spelled p.ended in
    let left : length rest ≡ length bytes - k = length-drop k bytes in
    let end : ended f rest ≡ Ok tt = ended_again f rest (λ is_false. omega (arith, p.alone is_false, left)) in
    let place : length bytes - length rest ≡ k = omega (arith, p.within, left) in
    whole bytes rest f read end ∙ ap (λ n. Ok (f, n)) place

pub all_of : (bytes : List ℕ) (r : Result (PlanFile × ℕ) PlanRead) → (r ≢ Err refused.NoMemory → r ≡ plan_answer bytes) → (f : PlanFile) (k : ℕ) → IsPlanOf bytes f k → r ≢ Err refused.NoMemory → r ≡ Ok (f, k)
all_of bytes r is f k p some = is some ∙ answer_again bytes f k p
