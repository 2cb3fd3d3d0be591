-- The reading from the extent on: its steps, what it takes, and that it takes what is written.
use Rattle.std.proofs.Common.{◌≡◌, ℕ, ◌≤◌, ℤ, pos, ◌≤ℤ◌, unsigned_abs, List, [], ◌++◌, length, Bool, true, false, cond, eqb, Result, Ok, Err, All, codes, refl, sym, ap, ◌∙◌, subst, arith, append_assoc}
use Rattle.std.proofs.lemmas.Bool.Decides.{nat_tests}
use Rattle.std.proofs.lemmas.Int.{ints}
use Rattle.std.specs.Option.{ok_or}
use Rattle.seq_model.specs.declared.plan.Place.{Place}
use Rattle.seq_model.specs.declared.what.What.TheVariants as what
use Rattle.plan_text.specs.declared.file.State.{State}
use Rattle.plan_text.specs.declared.file.PlanFile.{PlanFile}
use Rattle.plan_text.specs.declared.reading.PlanRead.{PlanRead}
use Rattle.plan_text.specs.declared.reading.PlanRead.TheVariants as refused
use Rattle.plan_text.specs.PlanText.{places_text, body_text, IsPlace, IsPlaced, begins_place}
use Rattle.text_lines.specs.Lines.{number_line, number_line_at}
use Rattle.text_lines.specs.Laws.Lines.{number_line_takes, number_line_again}
use Rattle.plan_text.specs.Reading.{refusal, divisor_of, places_from, body_at}
use Rattle.text_lines.specs.Laws.Results.{step_ok, was_there, was_read, same_ok, err_is_not_ok}
use Rattle.plan_text.proofs.Divisors.{no_divisor_from, no_divisor_to}
use Rattle.plan_text.proofs.Placing.{places_takes, places_again}

abbrev pub extent_due : ℕ → List ℕ → Result (ℕ × List ℕ) PlanRead
extent_due grid bytes = ok_or (number_line_at (codes "extent ") grid bytes) (refusal 4 what.Extent bytes)

abbrev pub scale_due : List ℕ → Result (ℕ × List ℕ) PlanRead
scale_due bytes = ok_or (number_line_at (codes "scale ") 4_611_686_018_427_387_903 bytes) (refusal 5 what.Scale bytes)

abbrev pub file_with : State → ℕ → ℕ → ℕ → List Place → PlanFile
file_with state grid extent scale places = record { state = state; grid = grid; extent = extent; plan = record { scale = pos scale; places = places } }

pub made : (state : State) (grid extent scale : ℕ) (z : ℤ) (ps places : List Place) → z ≡ pos scale → ps ≡ places → record { state = state; grid = grid; extent = extent; plan = record { scale = z; places = ps } } ≡ file_with state grid extent scale places
made state grid extent scale z ps places scale_is places_are = rw (scale_is, places_are) refl

-- ---- its steps
pub no_extent : (state : State) (grid : ℕ) (bytes : List ℕ) (e : PlanRead) → extent_due grid bytes ≡ Err e → body_at state grid bytes ≡ Err e
unfolding body_at
no_extent state grid bytes e h = rw h refl

pub no_scale : (state : State) (grid extent : ℕ) (bytes a : List ℕ) (e : PlanRead) → extent_due grid bytes ≡ Ok (extent, a) → scale_due a ≡ Err e → body_at state grid bytes ≡ Err e
unfolding body_at
no_scale state grid extent bytes a e h k = rw (h, k) refl

pub no_places : (state : State) (grid extent scale : ℕ) (bytes a b : List ℕ) (e : PlanRead) → extent_due grid bytes ≡ Ok (extent, a) → scale_due a ≡ Ok (scale, b) → places_from 16 [] b ≡ Err e → body_at state grid bytes ≡ Err e
unfolding body_at
no_places state grid extent scale bytes a b e h k l = rw (h, k, l) refl

pub divided : (state : State) (grid extent scale : ℕ) (places : List Place) (bytes a b rest : List ℕ) → extent_due grid bytes ≡ Ok (extent, a) → scale_due a ≡ Ok (scale, b) → places_from 16 [] b ≡ Ok (places, rest) → eqb (divisor_of scale places) 1 ≡ false
    → body_at state grid bytes ≡ Err (refused.Line 5 what.Scale)
unfolding body_at
divided state grid extent scale places bytes a b rest h k l m = rw (h, k, l, m) refl

pub whole_body : (state : State) (grid extent scale : ℕ) (places : List Place) (bytes a b rest : List ℕ) → extent_due grid bytes ≡ Ok (extent, a) → scale_due a ≡ Ok (scale, b) → places_from 16 [] b ≡ Ok (places, rest) → eqb (divisor_of scale places) 1 ≡ true
    → body_at state grid bytes ≡ Ok (file_with state grid extent scale places, rest)
unfolding body_at
whole_body state grid extent scale places bytes a b rest h k l m = rw (h, k, l, m) refl

-- ---- what it takes
pub record TakesBody (state : State) (grid : ℕ) (bytes rest : List ℕ) (f : PlanFile) : Type 0 where
  pub state_is : f.state ≡ state
  pub grid_is : f.grid ≡ grid
  pub spelled : bytes ≡ body_text f.extent f.plan ++ rest
  pub placed : IsPlaced f
  pub ended : begins_place rest ≡ false

regroup : (a b c rest : List ℕ) → (a ++ (b ++ c)) ++ rest ≡ a ++ (b ++ (c ++ rest))
regroup a b c rest = simp append_assoc

tested : (b : Bool) (f g : PlanFile) (r rest : List ℕ) → cond {A = Result (PlanFile × List ℕ) PlanRead} b (Ok (f, r)) (Err (refused.Line 5 what.Scale)) ≡ Ok (g, rest) → (b ≡ true) × (f ≡ g) × (r ≡ rest)
tested true f g r rest e =
    let both = same_ok _ (f, r) (g, rest) refl e in
    (refl, ap (λ (q : PlanFile × List ℕ). q.0) both, ap (λ (q : PlanFile × List ℕ). q.1) both)
tested false f g r rest e = absurd (err_is_not_ok _ (g, rest) _ refl e)

pub body_takes : (state : State) (grid : ℕ) (bytes rest : List ℕ) (f : PlanFile) → body_at state grid bytes ≡ Ok (f, rest) → TakesBody state grid bytes rest f
unfolding body_at
body_takes state grid bytes rest f e =
    let x = step_ok (extent_due grid bytes) _ (f, rest) e in
    let s = step_ok (scale_due x.0.1) _ (f, rest) x.2 in
    let p = step_ok (places_from 16 [] s.0.1) _ (f, rest) s.2 in
    let g = file_with state grid x.0.0 s.0.0 p.0.0 in
    let t = tested (eqb (divisor_of s.0.0 p.0.0) 1) g f p.0.1 rest p.2 in
    let extent = number_line_takes (codes "extent ") grid bytes x.0.1 x.0.0 (was_there _ _ x.0 x.1) in
    let scale = number_line_takes (codes "scale ") 4_611_686_018_427_387_903 x.0.1 s.0.1 s.0.0 (was_there _ _ s.0 s.1) in
    let places = places_takes 16 [] p.0.0 s.0.1 p.0.1 p.1 in
    let all : p.0.0 ≡ places.more = places.are in
    let spelled : bytes ≡ number_line (codes "extent ") (pos x.0.0) ++ (number_line (codes "scale ") (pos s.0.0) ++ (places_text places.more ++ p.0.1)) =
    extent.spelled ∙ ap (λ l. number_line (codes "extent ") (pos x.0.0) ++ l) (scale.spelled ∙ ap (λ l. number_line (codes "scale ") (pos s.0.0) ++ l) places.spelled) in
    let one : divisor_of s.0.0 p.0.0 ≡ 1 = grind (arith, nat_tests, t.0) in
    let placed : IsPlaced g = record {
      extent_low = extent.low;
      extent_high = extent.high;
      scale_low = omega (arith, ints, scale.low);
      scale_high = omega (arith, ints, scale.high);
      few = omega (arith, ap length all, places.few);
      places = subst (All IsPlace) (sym all) places.small;
      reduced = record { one = no_divisor_from p.0.0 s.0.0 one };
    } in
    let taken : TakesBody state grid bytes p.0.1 g = record {
      state_is = refl;
      grid_is = refl;
      spelled = spelled ∙ sym (regroup (number_line (codes "extent ") (pos x.0.0)) (number_line (codes "scale ") (pos s.0.0)) (places_text places.more) p.0.1) ∙ ap (λ ps. body_text x.0.0 (record { scale = pos s.0.0; places = ps }) ++ p.0.1) (sym all);
      placed = placed;
      ended = places.ended;
    } in
    subst (λ (h : PlanFile). TakesBody state grid bytes rest h) t.1 (subst (λ r. TakesBody state grid bytes r g) t.2 taken)

again_with : (state : State) (grid extent scale : ℕ) (places : List Place) (rest : List ℕ) → grid ≤ 1_000 → IsPlaced (file_with state grid extent scale places) → begins_place rest ≡ false
    → body_at state grid (body_text extent (record { scale = pos scale; places = places }) ++ rest) ≡ Ok (file_with state grid extent scale places, rest)
again_with state grid extent scale places rest few placed ended =
    let b = places_text places ++ rest in
    let a = number_line (codes "scale ") (pos scale) ++ b in
    let low : 1 ≤ scale = omega (arith, ints, placed.scale_low) in
    let high : scale ≤ 4_611_686_018_427_387_903 = omega (arith, ints, placed.scale_high) in
    let one : eqb (divisor_of scale places) 1 ≡ true = grind (arith, nat_tests, no_divisor_to places scale placed.reduced.one) in
    ap (body_at state grid) (regroup (number_line (codes "extent ") (pos extent)) (number_line (codes "scale ") (pos scale)) (places_text places) rest)
    ∙ whole_body state grid extent scale places (number_line (codes "extent ") (pos extent) ++ a) a b rest
    (was_read _ (number_line_again (codes "extent ") grid extent a placed.extent_low placed.extent_high (omega arith)))
    (was_read _ (number_line_again (codes "scale ") 4_611_686_018_427_387_903 scale b low high (omega arith)))
    (places_again places 16 [] rest placed.places placed.few ended)
    one

is_positive : (z : ℤ) → pos 1 ≤ℤ z → z ≡ pos (unsigned_abs z)
is_positive z h = omega (arith, ints)

file_is : (f : PlanFile) → pos 1 ≤ℤ f.plan.scale → f ≡ file_with f.state f.grid f.extent (unsigned_abs f.plan.scale) f.plan.places
file_is f h = ap (λ z. record { state = f.state; grid = f.grid; extent = f.extent; plan = record { scale = z; places = f.plan.places } }) (is_positive f.plan.scale h)

pub body_again : (f : PlanFile) (rest : List ℕ) → f.grid ≤ 1_000 → IsPlaced f → begins_place rest ≡ false → body_at f.state f.grid (body_text f.extent f.plan ++ rest) ≡ Ok (f, rest)
body_again f rest few placed ended =
    let g = file_with f.state f.grid f.extent (unsigned_abs f.plan.scale) f.plan.places in
    let same : f ≡ g = file_is f placed.scale_low in
    let text = again_with f.state f.grid f.extent (unsigned_abs f.plan.scale) f.plan.places rest few (subst IsPlaced same placed) ended in
    subst (λ (h : PlanFile). body_at f.state f.grid (body_text f.extent h.plan ++ rest) ≡ Ok (h, rest)) (sym same) text
