-- The reading of place lines: its steps, and what it takes.
use Rattle.std.proofs.Common.{◌≡◌, ℕ, zero, suc, ◌+◌, ◌-◌, ◌≤◌, ◌<◌, ◌^◌, ℤ, pos, negsuc, unsigned_abs, List, [], ◌∷◌, ◌++◌, length, Bool, true, false, cond, ◌||◌, int_lt, ltb, Option, Some, None, Result, Ok, Err, All, codes, refl, sym, ap, ◌∙◌, subst, arith, append_assoc, append-nil, length-append}
use Rattle.std.proofs.lemmas.Bool.Decides.{nat_tests}
use Rattle.std.proofs.lemmas.List.Elements.{All-nil, All-cons, All-head, All-tail}
use Rattle.seq_num.specs.Spelling.{spelling}
use Rattle.text_lines.specs.Reading.{literal_at, digit_count, whole_at}
use Rattle.seq_num.specs.Laws.Spelling.{guard_some}
use Rattle.text_lines.specs.Laws.Reading.{step_some, literal_takes, literal_again, whole_takes, whole_again}
use Rattle.seq_model.specs.declared.plan.Place.{Place}
use Rattle.seq_model.specs.declared.what.What.TheVariants as what
use Rattle.plan_text.specs.declared.reading.PlanRead.{PlanRead}
use Rattle.plan_text.specs.PlanText.{place_text, places_text, IsPlace, begins_place}
use Rattle.plan_text.specs.Lines.{object_at, numerator_at, place_at}
use Rattle.std.specs.Option.{ok_or}
use Rattle.text_lines.specs.Results.{◌>>=◌}
use Rattle.plan_text.specs.Reading.{refusal, places_from}
use Rattle.text_lines.specs.Laws.Results.{step_ok, was_there, err_is_not_ok, same_ok}

-- ---- an object number
record TakesObject (bytes rest : List ℕ) (n : ℕ) : Type 0 where
  spelled : bytes ≡ spelling (pos n) ++ rest
  small : n < 2 ^ 32

record Passed (z : ℤ) (rest r : List ℕ) (n : ℕ) : Type 0 where
  value : z ≡ pos n
  small : n < 2 ^ 32
  left : rest ≡ r

passed : (z : ℤ) (rest r : List ℕ) (n : ℕ) (low high : Bool) → int_lt z (pos 0) ≡ low → int_lt (pos 4_294_967_295) z ≡ high → cond {A = Option (ℕ × List ℕ)} (low || high) None (Some (unsigned_abs z, rest)) ≡ Some (n, r) → Passed z rest r n
passed z rest r n true high a b e = absurd cc
passed z rest r n false true a b e = absurd cc
passed (pos k) rest r n false false a b e =
    let p : (k, rest) ≡ (n, r) = cc in
    let k_is : k ≡ n = ap (λ (q : ℕ × List ℕ). q.0) p in
    record { value = ap pos k_is; small = grind (arith, nat_tests); left = ap (λ (q : ℕ × List ℕ). q.1) p }
passed (negsuc k) rest r n false false a b e = absurd cc

object_takes : (bytes rest : List ℕ) (n : ℕ) → object_at bytes ≡ Some (n, rest) → TakesObject bytes rest n
unfolding object_at
object_takes bytes rest n e =
    let w = step_some (whole_at bytes) _ (n, rest) e in
    let g = passed w.0.0 w.0.1 rest n (int_lt w.0.0 (pos 0)) (int_lt (pos 4_294_967_295) w.0.0) refl refl w.2 in
    let t = whole_takes bytes w.0.1 w.0.0 w.1 in
    record { spelled = t.spelled ∙ ap (λ z. spelling z ++ w.0.1) g.value ∙ ap (λ l. spelling (pos n) ++ l) g.left; small = g.small }

object_again : (n : ℕ) (rest : List ℕ) → n < 2 ^ 32 → digit_count rest ≡ 0 → object_at (spelling (pos n) ++ rest) ≡ Some (n, rest)
unfolding object_at
object_again n rest small ended =
    let below : int_lt (pos n) (pos 0) ≡ false = grind (arith, nat_tests) in
    let above : int_lt (pos 4_294_967_295) (pos n) ≡ false = grind (arith, nat_tests) in
    rw (whole_again (pos n) rest (omega arith) ended, below, above) refl

-- ---- a numerator
record TakesNumerator (bytes rest : List ℕ) (n : ℤ) : Type 0 where
  spelled : bytes ≡ spelling n ++ rest
  small : unsigned_abs n < 2 ^ 90

numerator_takes : (bytes rest : List ℕ) (n : ℤ) → numerator_at bytes ≡ Some (n, rest) → TakesNumerator bytes rest n
unfolding numerator_at
numerator_takes bytes rest n e =
    let w = step_some (whole_at bytes) _ (n, rest) e in
    let g = guard_some (ltb (unsigned_abs w.0.0) (2 ^ 90)) w.0 (n, rest) w.2 in
    let t = whole_takes bytes w.0.1 w.0.0 w.1 in
    let value : w.0.0 ≡ n = ap (λ (q : ℤ × List ℕ). q.0) g.1 in
    let left : w.0.1 ≡ rest = ap (λ (q : ℤ × List ℕ). q.1) g.1 in
    record {
      spelled = t.spelled ∙ ap (λ z. spelling z ++ w.0.1) value ∙ ap (λ l. spelling n ++ l) left;
      small = subst (λ z. unsigned_abs z < 2 ^ 90) value (grind (arith, nat_tests, g.0));
    }

numerator_again : (n : ℤ) (rest : List ℕ) → unsigned_abs n < 2 ^ 90 → digit_count rest ≡ 0 → numerator_at (spelling n ++ rest) ≡ Some (n, rest)
unfolding numerator_at
numerator_again n rest near ended =
    let small : ltb (unsigned_abs n) (2 ^ 90) ≡ true = grind (arith, nat_tests) in
    rw (whole_again n rest (omega (arith, near)) ended, small) refl

-- ---- a place line
pub record TakesPlace (bytes rest : List ℕ) (p : Place) : Type 0 where
  pub spelled : bytes ≡ place_text p ++ rest
  pub small : IsPlace p

abbrev with_rest : Place → List ℕ → List ℕ
with_rest p rest = codes "place " ++ (spelling (pos p.object) ++ (codes " " ++ (spelling p.x ++ (codes " " ++ (spelling p.y ++ (codes "\n" ++ rest))))))

regroup : (a b c d e f g rest : List ℕ) → (a ++ (b ++ (c ++ (d ++ (e ++ (f ++ g)))))) ++ rest ≡ a ++ (b ++ (c ++ (d ++ (e ++ (f ++ (g ++ rest))))))
regroup a b c d e f g rest = simp append_assoc

place-append : (p : Place) (rest : List ℕ) → place_text p ++ rest ≡ with_rest p rest
place-append p rest = regroup (codes "place ") (spelling (pos p.object)) (codes " ") (spelling p.x) (codes " ") (spelling p.y) (codes "\n") rest

pub place_takes : (bytes rest : List ℕ) (p : Place) → place_at bytes ≡ Some (p, rest) → TakesPlace bytes rest p
unfolding place_at
place_takes bytes rest p e =
    let a = step_some (literal_at (codes "place ") bytes) _ (p, rest) e in
    let o = step_some (object_at a.0) _ (p, rest) a.2 in
    let b = step_some (literal_at (codes " ") o.0.1) _ (p, rest) o.2 in
    let x = step_some (numerator_at b.0) _ (p, rest) b.2 in
    let c = step_some (literal_at (codes " ") x.0.1) _ (p, rest) x.2 in
    let y = step_some (numerator_at c.0) _ (p, rest) c.2 in
    let d = step_some (literal_at (codes "\n") y.0.1) _ (p, rest) y.2 in
    let q : Place = record { object = o.0.0; x = x.0.0; y = y.0.0 } in
    let end : (q, d.0) ≡ (p, rest) = cc (d.2) in
    let to = object_takes a.0 o.0.1 o.0.0 o.1 in
    let tx = numerator_takes b.0 x.0.1 x.0.0 x.1 in
    let ty = numerator_takes c.0 y.0.1 y.0.0 y.1 in
    let is_y : y.0.1 ≡ codes "\n" ++ d.0 = literal_takes (codes "\n") y.0.1 d.0 d.1 in
    let is_c : x.0.1 ≡ codes " " ++ (spelling y.0.0 ++ (codes "\n" ++ d.0)) = literal_takes (codes " ") x.0.1 c.0 c.1 ∙ ap (λ l. codes " " ++ l) (ty.spelled ∙ ap (λ l. spelling y.0.0 ++ l) is_y) in
    let is_b : o.0.1 ≡ codes " " ++ (spelling x.0.0 ++ (codes " " ++ (spelling y.0.0 ++ (codes "\n" ++ d.0)))) = literal_takes (codes " ") o.0.1 b.0 b.1 ∙ ap (λ l. codes " " ++ l) (tx.spelled ∙ ap (λ l. spelling x.0.0 ++ l) is_c) in
    let taken : bytes ≡ with_rest q d.0 = literal_takes (codes "place ") bytes a.0 a.1 ∙ ap (λ l. codes "place " ++ l) (to.spelled ∙ ap (λ l. spelling (pos o.0.0) ++ l) is_b) in
    let all : TakesPlace bytes d.0 q = record { spelled = taken ∙ sym (place-append q d.0); small = record { object = to.small; x = tx.small; y = ty.small } } in
    subst (λ (t : Place × List ℕ). TakesPlace bytes t.1 t.0) end all

pub place_again : (p : Place) (rest : List ℕ) → IsPlace p → place_at (place_text p ++ rest) ≡ Some (p, rest)
unfolding place_at
place_again p rest small =
    rw (place-append p rest) (rw (literal_again, object_again p.object _ small.object refl, literal_again, numerator_again p.x _ small.x refl, literal_again, numerator_again p.y _ small.y refl, literal_again) refl)

begins_again : (p : Place) (rest : List ℕ) → begins_place (place_text p ++ rest) ≡ true
begins_again p rest = rw (place-append p rest) (rw literal_again refl)

-- ---- steps of the list
pub step_more : (room : ℕ) (found : List Place) (bytes rest : List ℕ) (p : Place) → begins_place bytes ≡ true → place_at bytes ≡ Some (p, rest) → places_from (suc room) found bytes ≡ places_from room (found ++ p ∷ []) rest
unfolding places_from
step_more room found bytes rest p begins is = rw (begins, is) refl

pub step_none : (room : ℕ) (found : List Place) (bytes : List ℕ) → begins_place bytes ≡ true → place_at bytes ≡ None → places_from (suc room) found bytes ≡ Err (refusal (length found + 6) what.Place bytes)
unfolding places_from
step_none room found bytes begins is = rw (begins, is) refl

step_full : (found : List Place) (bytes : List ℕ) → begins_place bytes ≡ true → places_from zero found bytes ≡ Err (refusal (length found + 6) what.Place bytes)
unfolding places_from
step_full found bytes begins = rw begins refl

pub step_end : (room : ℕ) (found : List Place) (bytes : List ℕ) → begins_place bytes ≡ false → places_from room found bytes ≡ Ok (found, bytes)
unfolding places_from
step_end zero found bytes begins = rw begins refl
step_end (suc room) found bytes begins = rw begins refl

-- ---- the loop, which has room for what of 16 places is left
room_left : (n : ℕ) → n < 16 → 16 - n ≡ suc (15 - n)
room_left n h = omega arith

pub loop_more : (all : Result (List Place × List ℕ) PlanRead) (found found' : List Place) (bytes rest : List ℕ) (p : Place) → length found < 16 → found' ≡ found ++ p ∷ [] → begins_place bytes ≡ true → place_at bytes ≡ Some (p, rest)
    → places_from (16 - length found) found bytes ≡ all → places_from (16 - length found') found' rest ≡ all
loop_more all found found' bytes rest p few is begins read so_far =
    let left : 16 - length found' ≡ 15 - length found = omega (arith, ap length is, length-append found (p ∷ [])) in
    ap (λ n. places_from n found' rest) left ∙ ap (λ ps. places_from (15 - length found) ps rest) is ∙ sym (step_more (15 - length found) found bytes rest p begins read) ∙ ap (λ n. places_from n found bytes) (sym (room_left (length found) few)) ∙ so_far

pub loop_none : (all : Result (List Place × List ℕ) PlanRead) (found : List Place) (bytes : List ℕ) → length found < 16 → begins_place bytes ≡ true → place_at bytes ≡ None
    → places_from (16 - length found) found bytes ≡ all → Err (refusal (length found + 6) what.Place bytes) ≡ all
loop_none all found bytes few begins none so_far = sym (step_none (15 - length found) found bytes begins none) ∙ ap (λ n. places_from n found bytes) (sym (room_left (length found) few)) ∙ so_far

pub loop_full : (all : Result (List Place × List ℕ) PlanRead) (found : List Place) (bytes : List ℕ) → length found ≡ 16 → begins_place bytes ≡ true
    → places_from (16 - length found) found bytes ≡ all → Err (refusal (length found + 6) what.Place bytes) ≡ all
loop_full all found bytes full begins so_far =
    let none : 16 - length found ≡ zero = omega arith in
    sym (step_full found bytes begins) ∙ ap (λ n. places_from n found bytes) (sym none) ∙ so_far

pub smaller_rest : (bytes rest : List ℕ) (p : Place) → place_at bytes ≡ Some (p, rest) → length rest < length bytes
smaller_rest bytes rest p read =
    let t = place_takes bytes rest p read in
    omega (arith, ap length t.spelled, length-append (place_text p) rest)

-- ---- what the list takes
pub record TakesPlaces (room : ℕ) (found all : List Place) (bytes rest : List ℕ) : Type 0 where
  pub more : List Place
  pub are : all ≡ found ++ more
  pub spelled : bytes ≡ places_text more ++ rest
  pub few : length more ≤ room
  pub small : All IsPlace more
  pub ended : begins_place rest ≡ false

none_taken : (room : ℕ) (found all : List Place) (bytes rest : List ℕ) → begins_place bytes ≡ false → found ≡ all → bytes ≡ rest → TakesPlaces room found all bytes rest
none_taken room found all bytes rest begins e same = record {
  more = [];
  are = sym e ∙ sym (append-nil found);
  spelled = same;
  few = omega arith;
  small = All-nil IsPlace;
  ended = ap begins_place (sym same) ∙ begins;
}

one_taken : (room : ℕ) (found all : List Place) (bytes after rest : List ℕ) (p : Place) → TakesPlace bytes after p → TakesPlaces room (found ++ p ∷ []) all after rest → TakesPlaces (suc room) found all bytes rest
one_taken room found all bytes after rest p t m = record {
  more = p ∷ m.more;
  are = m.are ∙ append_assoc found (p ∷ []) m.more;
  spelled = t.spelled ∙ ap (λ l. place_text p ++ l) m.spelled ∙ sym (append_assoc (place_text p) (places_text m.more) rest);
  few = omega (arith, m.few);
  small = All-cons IsPlace p m.more t.small m.small;
  ended = m.ended;
}

step_due : (room : ℕ) (found : List Place) (bytes : List ℕ) → begins_place bytes ≡ true → places_from (suc room) found bytes ≡ (ok_or (place_at bytes) (refusal (length found + 6) what.Place bytes) >>= λ p. places_from room (found ++ p.0 ∷ []) p.1)
unfolding places_from
step_due room found bytes begins = rw begins refl

ended_taken : (room : ℕ) (found all : List Place) (bytes rest : List ℕ) → begins_place bytes ≡ false → places_from room found bytes ≡ Ok (all, rest) → TakesPlaces room found all bytes rest
ended_taken room found all bytes rest begins e =
    let both : (found, bytes) ≡ (all, rest) = same_ok _ _ _ (step_end room found bytes begins) e in
    none_taken room found all bytes rest begins (ap (λ (q : List Place × List ℕ). q.0) both) (ap (λ (q : List Place × List ℕ). q.1) both)

abbrev Later : ℕ → List Place → List Place → List ℕ → Type 0
Later room found all rest = (p : Place) (after : List ℕ) → places_from room (found ++ p ∷ []) after ≡ Ok (all, rest) → TakesPlaces room (found ++ p ∷ []) all after rest

more_taken : (room : ℕ) (found all : List Place) (bytes rest : List ℕ) → Later room found all rest → begins_place bytes ≡ true → places_from (suc room) found bytes ≡ Ok (all, rest) → TakesPlaces (suc room) found all bytes rest
more_taken room found all bytes rest later begins e =
    let error = refusal (length found + 6) what.Place bytes in
    let s = step_ok (ok_or (place_at bytes) error) _ (all, rest) (sym (step_due room found bytes begins) ∙ e) in
    one_taken room found all bytes s.0.1 rest s.0.0 (place_takes bytes s.0.1 s.0.0 (was_there (place_at bytes) error s.0 s.1)) (later s.0.0 s.0.1 s.2)

full_taken : (found all : List Place) (bytes rest : List ℕ) → begins_place bytes ≡ true → places_from zero found bytes ≡ Ok (all, rest) → TakesPlaces zero found all bytes rest
full_taken found all bytes rest begins e = absurd (err_is_not_ok _ (all, rest) _ (step_full found bytes begins) e)

full_or_ended : (b : Bool) (found all : List Place) (bytes rest : List ℕ) → begins_place bytes ≡ b → places_from zero found bytes ≡ Ok (all, rest) → TakesPlaces zero found all bytes rest
full_or_ended true = full_taken
full_or_ended false = ended_taken zero

more_or_ended : (b : Bool) (room : ℕ) (found all : List Place) (bytes rest : List ℕ) → Later room found all rest → begins_place bytes ≡ b → places_from (suc room) found bytes ≡ Ok (all, rest) → TakesPlaces (suc room) found all bytes rest
more_or_ended true room found all bytes rest later = more_taken room found all bytes rest later
more_or_ended false room found all bytes rest later = ended_taken (suc room) found all bytes rest

pub places_takes : (room : ℕ) (found all : List Place) (bytes rest : List ℕ) → places_from room found bytes ≡ Ok (all, rest) → TakesPlaces room found all bytes rest
places_takes zero found all bytes rest e = full_or_ended (begins_place bytes) found all bytes rest refl e
places_takes (suc room) found all bytes rest e = more_or_ended (begins_place bytes) room found all bytes rest (λ p after h. places_takes room (found ++ p ∷ []) all after rest h) refl e

pub places_again : (more : List Place) (room : ℕ) (found : List Place) (rest : List ℕ) → All IsPlace more → length more ≤ room → begins_place rest ≡ false → places_from room found (places_text more ++ rest) ≡ Ok (found ++ more, rest)
places_again [] room found rest small few ended = step_end room found rest ended ∙ ap (λ (ps : List Place). Ok (ps, rest)) (sym (append-nil found))
places_again (p ∷ ps) zero found rest small few ended = absurd (omega arith)
places_again (p ∷ ps) (suc room) found rest small few ended =
    let line = place_again p (places_text ps ++ rest) (All-head IsPlace p ps small) in
    ap (places_from (suc room) found) (append_assoc (place_text p) (places_text ps) rest)
    ∙ step_more room found (place_text p ++ (places_text ps ++ rest)) (places_text ps ++ rest) p (begins_again p (places_text ps ++ rest)) line
    ∙ places_again ps room (found ++ p ∷ []) rest (All-tail IsPlace p ps small) (omega arith) ended
    ∙ ap (λ (l : List Place). Ok (l, rest)) (append_assoc found (p ∷ []) ps)
