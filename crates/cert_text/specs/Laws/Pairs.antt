-- Bound lines both ways: what is taken is the text of its pairs, and the text of pairs is taken.
use Rattle.std.proofs.Common.{◌≡◌, ℕ, zero, suc, ◌-◌, ◌≤◌, ◌<◌, ◌^◌, ℤ, pos, negsuc, unsigned_abs, int_lt, ◌≤ℤ◌, List, [], ◌∷◌, ◌++◌, length, map, Bool, true, false, eqb, not, ◌&&◌, Option, Some, None, is_some, All, codes, refl, sym, ap, ◌∙◌, subst, arith, append_assoc, append-nil, length-append}
use Rattle.std.proofs.lemmas.Bool.Decides.{nat_tests}
use Rattle.std.proofs.lemmas.Int.{ints}
use Rattle.std.proofs.lemmas.List.Elements.{All-nil, All-cons, All-head, All-tail}
use Rattle.std.specs.Option.{option_map}
use Rattle.seq_num.specs.Spelling.{spelling}
use Rattle.text_lines.specs.Reading.{◌>>=◌, literal_at, digit_count, whole_at}
use Rattle.seq_num.specs.Laws.Spelling.{guard_some}
use Rattle.text_lines.specs.Laws.Reading.{step_some, literal_takes, literal_again, whole_takes, whole_again}
use Rattle.cert_text.specs.Lines.{ends_line, pair_at, end_at, pairs_at, rises, are_due, bound_at}
use Rattle.cert_text.specs.TreeText.{pair_text, pairs_text, row_of, AreRising, IsBoundLine}
use Rattle.cert_text.specs.declared.pairs.Pair.{Pair}

-- two numbers that can be spelt
pub record IsSpelt (p : Pair) : Type 0 where
  pub row : unsigned_abs p.row < 2 ^ 100
  pub times : unsigned_abs p.times < 2 ^ 100

-- ---- one pair
pub record TakesPair (bytes rest : List ℕ) (p : Pair) : Type 0 where
  pub spelled : bytes ≡ pair_text p ++ rest
  pub spelt : IsSpelt p

regroup : (a b c d rest : List ℕ) → (a ++ (b ++ (c ++ d))) ++ rest ≡ a ++ (b ++ (c ++ (d ++ rest)))
regroup a b c d rest = simp append_assoc

pub pair_takes : (bytes rest : List ℕ) (p : Pair) → pair_at bytes ≡ Some (p, rest) → TakesPair bytes rest p
unfolding pair_at
pair_takes bytes rest p e =
    let a = step_some (literal_at (codes " ") bytes) _ (p, rest) e in
    let x = step_some (whole_at a.0) _ (p, rest) a.2 in
    let b = step_some (literal_at (codes ":") x.0.1) _ (p, rest) x.2 in
    let y = step_some (whole_at b.0) _ (p, rest) b.2 in
    let q : Pair = record { row = x.0.0; times = y.0.0 } in
    let end : (q, y.0.1) ≡ (p, rest) = cc (y.2) in
    let tx = whole_takes a.0 x.0.1 x.0.0 x.1 in
    let ty = whole_takes b.0 y.0.1 y.0.0 y.1 in
    let is_b : x.0.1 ≡ codes ":" ++ (spelling y.0.0 ++ y.0.1) = literal_takes (codes ":") x.0.1 b.0 b.1 ∙ ap (λ l. codes ":" ++ l) ty.spelled in
    let taken : bytes ≡ codes " " ++ (spelling x.0.0 ++ (codes ":" ++ (spelling y.0.0 ++ y.0.1))) = literal_takes (codes " ") bytes a.0 a.1 ∙ ap (λ l. codes " " ++ l) (tx.spelled ∙ ap (λ l. spelling x.0.0 ++ l) is_b) in
    let all : TakesPair bytes y.0.1 q = record { spelled = taken ∙ sym (regroup (codes " ") (spelling x.0.0) (codes ":") (spelling y.0.0) y.0.1); spelt = record { row = tx.small; times = ty.small } } in
    subst (λ (t : Pair × List ℕ). TakesPair bytes t.1 t.0) end all

pub pair_again : (p : Pair) (rest : List ℕ) → IsSpelt p → digit_count rest ≡ 0 → pair_at (pair_text p ++ rest) ≡ Some (p, rest)
unfolding pair_at
pair_again p rest spelt ended =
    rw (regroup (codes " ") (spelling p.row) (codes ":") (spelling p.times) rest) (rw (literal_again, whole_again p.row _ spelt.row refl, literal_again, whole_again p.times rest spelt.times ended) refl)

-- ---- steps of the list
pub step_end : (room : ℕ) (bytes rest : List ℕ) → literal_at (codes "\n") bytes ≡ Some rest → pairs_at room bytes ≡ Some ([], rest)
unfolding pairs_at
step_end zero bytes rest e = rw e refl
step_end (suc room) bytes rest e = rw e refl

no_end : (bytes : List ℕ) (o : Option (List ℕ)) → literal_at (codes "\n") bytes ≡ o → is_some o ≡ false → end_at bytes ≡ None
no_end bytes None e h = rw e refl
no_end bytes (Some rest) e h = absurd cc

pub step_full : (bytes : List ℕ) → ends_line bytes ≡ false → pairs_at 0 bytes ≡ None
unfolding pairs_at
step_full bytes h = no_end bytes (literal_at (codes "\n") bytes) refl h

pub step_more : (room : ℕ) (bytes : List ℕ) → ends_line bytes ≡ false → pairs_at (suc room) bytes ≡ (pair_at bytes >>= λ p. pairs_at room p.1 >>= λ ps. Some (p.0 ∷ ps.0, ps.1))
unfolding pairs_at
step_more room bytes h = rw h refl

step_zero : (bytes : List ℕ) → pairs_at zero bytes ≡ end_at bytes
unfolding pairs_at
step_zero bytes = refl

step_done : (room : ℕ) (bytes : List ℕ) → ends_line bytes ≡ true → pairs_at (suc room) bytes ≡ end_at bytes
unfolding pairs_at
step_done room bytes h = rw h refl

behind_space : (rest : List ℕ) → literal_at (codes "\n") (codes " " ++ rest) ≡ None
unfolding literal_at
behind_space rest = refl

no_end_yet : (p : Pair) (rest : List ℕ) → ends_line (pair_text p ++ rest) ≡ false
no_end_yet p rest = ap ends_line (regroup (codes " ") (spelling p.row) (codes ":") (spelling p.times) rest) ∙ ap is_some (behind_space (spelling p.row ++ (codes ":" ++ (spelling p.times ++ rest))))

starts_plain : (ps : List Pair) (rest : List ℕ) → digit_count (pairs_text ps ++ rest) ≡ 0
starts_plain [] rest = refl
starts_plain (p ∷ ps) rest = refl

-- ---- the list both ways
pub pairs_again : (ps : List Pair) (room : ℕ) (rest : List ℕ) → All IsSpelt ps → length ps ≤ room → pairs_at room (pairs_text ps ++ rest) ≡ Some (ps, rest)
pairs_again [] room rest spelt few = step_end room (codes "\n" ++ rest) rest (literal_again (codes "\n") rest)
pairs_again (p ∷ ps) zero rest spelt few = absurd (omega arith)
pairs_again (p ∷ ps) (suc room) rest spelt few =
    ap (pairs_at (suc room)) (append_assoc (pair_text p) (pairs_text ps) rest)
    ∙ step_more room (pair_text p ++ (pairs_text ps ++ rest)) (no_end_yet p (pairs_text ps ++ rest))
    ∙ rw (pair_again p (pairs_text ps ++ rest) (All-head IsSpelt p ps spelt) (starts_plain ps rest), pairs_again ps room rest (All-tail IsSpelt p ps spelt) (omega arith)) refl

pub record TakesPairs (room : ℕ) (bytes rest : List ℕ) (ps : List Pair) : Type 0 where
  pub spelled : bytes ≡ pairs_text ps ++ rest
  pub few : length ps ≤ room
  pub spelt : All IsSpelt ps

end_taken : (room : ℕ) (bytes rest : List ℕ) (ps : List Pair) → end_at bytes ≡ Some (ps, rest) → TakesPairs room bytes rest ps
end_taken room bytes rest ps e =
    let a = step_some (literal_at (codes "\n") bytes) _ (ps, rest) e in
    let end : ([], a.0) ≡ (ps, rest) = cc (a.2) in
    let t : TakesPairs room bytes a.0 [] = record { spelled = literal_takes (codes "\n") bytes a.0 a.1; few = omega arith; spelt = All-nil IsSpelt } in
    subst (λ (t : List Pair × List ℕ). TakesPairs room bytes t.1 t.0) end t

pub pairs_takes : (room : ℕ) (bytes rest : List ℕ) (ps : List Pair) → pairs_at room bytes ≡ Some (ps, rest) → TakesPairs room bytes rest ps
pairs_takes zero bytes rest ps e = end_taken zero bytes rest ps (sym (step_zero bytes) ∙ e)
pairs_takes (suc room) bytes rest ps e = by (ends_line bytes) refl (λ after more h. pairs_takes room after rest more h)
  where
    by : (b : Bool) → ends_line bytes ≡ b → ((after : List ℕ) (more : List Pair) → pairs_at room after ≡ Some (more, rest) → TakesPairs room after rest more) → TakesPairs (suc room) bytes rest ps
    by true h later = end_taken (suc room) bytes rest ps (sym (step_done room bytes h) ∙ e)
    by false h later =
        let p = step_some (pair_at bytes) _ (ps, rest) (sym (step_more room bytes h) ∙ e) in
        let m = step_some (pairs_at room p.0.1) _ (ps, rest) p.2 in
        let end : (p.0.0 ∷ m.0.0, m.0.1) ≡ (ps, rest) = cc (m.2) in
        let same : m.0.1 ≡ rest = ap (λ (q : List Pair × List ℕ). q.1) end in
        let t = pair_takes bytes p.0.1 p.0.0 p.1 in
        let n = later p.0.1 m.0.0 (m.1 ∙ ap (λ (l : List ℕ). Some (m.0.0, l)) same) in
        let all : TakesPairs (suc room) bytes rest (p.0.0 ∷ m.0.0) = record {
          spelled = t.spelled ∙ ap (λ l. pair_text p.0.0 ++ l) n.spelled ∙ sym (append_assoc (pair_text p.0.0) (pairs_text m.0.0) rest);
          few = omega (arith, n.few);
          spelt = All-cons IsSpelt p.0.0 m.0.0 t.spelt n.spelt;
        } in
        subst (λ (l : List Pair). TakesPairs (suc room) bytes rest l) (ap (λ (q : List Pair × List ℕ). q.0) end) all

-- ---- the rows rise
pub record AreDue (low : ℤ) (ps : List Pair) : Type 0 where
  pub rising : AreRising low (map row_of ps)
  pub times : All (λ p. pos 0 ≤ℤ p.times) ps

rises_is : (low : ℤ) (ps : List Pair) → rises low ps ≡ true → AreDue low ps
rises_is low [] h = record { rising = tt; times = All-nil (λ (p : Pair). pos 0 ≤ℤ p.times) }
rises_is low (p ∷ ps) h = by (int_lt low p.row) (int_lt p.times (pos 0)) refl refl h (rises_is p.row ps)
  where
    by : (a b : Bool) → int_lt low p.row ≡ a → int_lt p.times (pos 0) ≡ b → (a && not b && rises p.row ps) ≡ true → (rises p.row ps ≡ true → AreDue p.row ps) → AreDue low (p ∷ ps)
    by false b e f g k = absurd cc
    by true true e f g k = absurd cc
    by true false e f g k = record {
      rising = (grind (arith, nat_tests, ints, e), (k g).rising);
      times = All-cons (λ (p : Pair). pos 0 ≤ℤ p.times) p ps (grind (arith, nat_tests, ints, f)) (k g).times;
    }

is_rises : (low : ℤ) (ps : List Pair) → AreRising low (map row_of ps) → All (λ p. pos 0 ≤ℤ p.times) ps → rises low ps ≡ true
is_rises low [] h t = refl
is_rises low (p ∷ ps) h t =
    let a : int_lt low p.row ≡ true = grind (arith, nat_tests, ints, h.0) in
    let now : pos 0 ≤ℤ p.times = All-head (λ (p : Pair). pos 0 ≤ℤ p.times) p ps t in
    let b : int_lt p.times (pos 0) ≡ false = grind (arith, nat_tests, ints, now) in
    rw (a, b, is_rises p.row ps h.1 (All-tail (λ (p : Pair). pos 0 ≤ℤ p.times) p ps t)) refl

-- ---- the line both ways
pub record TakesBound (bytes rest : List ℕ) (ps : List Pair) : Type 0 where
  pub spelled : bytes ≡ pairs_text ps ++ rest
  pub is : IsBoundLine ps

due_is : (ps : List Pair) → are_due ps ≡ true → (1 ≤ length ps) × AreDue (negsuc 0) ps
due_is ps h = by (rises (negsuc 0) ps) (eqb (length ps) 0) refl refl h
  where
    by : (a b : Bool) → rises (negsuc 0) ps ≡ a → eqb (length ps) 0 ≡ b → (a && not b) ≡ true → (1 ≤ length ps) × AreDue (negsuc 0) ps
    by false b e f g = absurd cc
    by true true e f g = absurd cc
    by true false e f g = (grind (arith, nat_tests, f), rises_is (negsuc 0) ps e)

is_due : (ps : List Pair) → IsBoundLine ps → are_due ps ≡ true
is_due ps is =
    let some = is.some in
    let b : eqb (length ps) 0 ≡ false = grind (arith, nat_tests, some) in
    rw (is_rises (negsuc 0) ps is.rising is.times, b) refl

pub bound_takes : (bytes rest : List ℕ) (ps : List Pair) → bound_at bytes ≡ Some (ps, rest) → TakesBound bytes rest ps
unfolding bound_at
bound_takes bytes rest ps e =
    let p = step_some (pairs_at 33 bytes) _ (ps, rest) e in
    let g = guard_some (are_due p.0.0) p.0 (ps, rest) p.2 in
    let t = pairs_takes 33 bytes p.0.1 p.0.0 p.1 in
    let d = due_is p.0.0 g.0 in
    let all : TakesBound bytes p.0.1 p.0.0 = record {
      spelled = t.spelled;
      is = record { some = d.0; few = t.few; rising = d.1.rising; times = d.1.times };
    } in
    subst (λ (t : List Pair × List ℕ). TakesBound bytes t.1 t.0) g.1 all

pub bound_again : (ps : List Pair) (rest : List ℕ) → All IsSpelt ps → IsBoundLine ps → bound_at (pairs_text ps ++ rest) ≡ Some (ps, rest)
unfolding bound_at
bound_again ps rest spelt is = rw (pairs_again ps 33 rest spelt is.few, is_due ps is) refl

-- ---- the loop, which has room for what of 33 pairs is left
abbrev pub behind : List Pair → List Pair × List ℕ → List Pair × List ℕ
behind found p = (found ++ p.0, p.1)

room_left : (n : ℕ) → n < 33 → 33 - n ≡ suc (32 - n)
room_left n h = omega arith

behind_more : (found : List Pair) (p : Pair) (o : Option (List Pair × List ℕ)) → option_map (behind (found ++ p ∷ [])) o ≡ option_map (behind found) (o >>= λ ps. Some (p ∷ ps.0, ps.1))
behind_more found p None = refl
behind_more found p (Some ps) = ap (λ (l : List Pair). Some (l, ps.1)) (append_assoc found (p ∷ []) ps.0)

pub loop_more : (all : Option (List Pair × List ℕ)) (found found' : List Pair) (bytes rest : List ℕ) (p : Pair) → length found < 33 → found' ≡ found ++ p ∷ [] → ends_line bytes ≡ false → pair_at bytes ≡ Some (p, rest)
    → option_map (behind found) (pairs_at (33 - length found) bytes) ≡ all → option_map (behind found') (pairs_at (33 - length found') rest) ≡ all
loop_more all found found' bytes rest p few is open_line read so_far =
    let left : 33 - length found' ≡ 32 - length found = omega (arith, ap length is, length-append found (p ∷ [])) in
    let step : pairs_at (33 - length found) bytes ≡ (pairs_at (32 - length found) rest >>= λ ps. Some (p ∷ ps.0, ps.1)) =
    ap (λ n. pairs_at n bytes) (room_left (length found) few) ∙ step_more (32 - length found) bytes open_line ∙ ap (λ o. o >>= λ q. pairs_at (32 - length found) q.1 >>= λ ps. Some (q.0 ∷ ps.0, ps.1)) read in
    ap (λ n. option_map (behind found') (pairs_at n rest)) left ∙ ap (λ f. option_map (behind f) (pairs_at (32 - length found) rest)) is
    ∙ behind_more found p (pairs_at (32 - length found) rest) ∙ ap (option_map (behind found)) (sym step) ∙ so_far

pub loop_none : (all : Option (List Pair × List ℕ)) (found : List Pair) (bytes : List ℕ) → length found < 33 → ends_line bytes ≡ false → pair_at bytes ≡ None
    → option_map (behind found) (pairs_at (33 - length found) bytes) ≡ all → None ≡ all
loop_none all found bytes few open_line none so_far =
    let step : pairs_at (33 - length found) bytes ≡ None = ap (λ n. pairs_at n bytes) (room_left (length found) few) ∙ step_more (32 - length found) bytes open_line ∙ ap (λ o. o >>= λ q. pairs_at (32 - length found) q.1 >>= λ ps. Some (q.0 ∷ ps.0, ps.1)) none in
    sym (ap (option_map (behind found)) step) ∙ so_far

pub loop_full : (all : Option (List Pair × List ℕ)) (found : List Pair) (bytes : List ℕ) → length found ≡ 33 → ends_line bytes ≡ false → option_map (behind found) (pairs_at (33 - length found) bytes) ≡ all → None ≡ all
loop_full all found bytes full open_line so_far =
    let none : 33 - length found ≡ 0 = omega arith in
    sym (ap (option_map (behind found)) (ap (λ n. pairs_at n bytes) none ∙ step_full bytes open_line)) ∙ so_far

pub loop_ended : (all : Option (List Pair × List ℕ)) (found : List Pair) (bytes : List ℕ) (o : Option (List ℕ)) → ends_line bytes ≡ true → o ≡ literal_at (codes "\n") bytes
    → option_map (behind found) (pairs_at (33 - length found) bytes) ≡ all → option_map (λ rest. (found, rest)) o ≡ all
loop_ended all found bytes o ended is so_far = by o is
  where
    by : (q : Option (List ℕ)) → q ≡ literal_at (codes "\n") bytes → option_map (λ rest. (found, rest)) q ≡ all
    by None e = absurd (cc (ended, e))
    by (Some rest) e = sym (ap (option_map (behind found)) (step_end (33 - length found) bytes rest (sym e)) ∙ ap (λ (l : List Pair). Some (l, rest)) (append-nil found)) ∙ so_far

pub smaller_rest : (bytes rest : List ℕ) (p : Pair) → pair_at bytes ≡ Some (p, rest) → length rest < length bytes
smaller_rest bytes rest p read =
    let t = pair_takes bytes rest p read in
    omega (arith, ap length t.spelled, length-append (pair_text p) rest)

pub with_found : {B : Type 0} (found : List Pair) (now : B → List ℕ) (o : Option B) (y : Option (List ℕ)) → option_map now o ≡ y → option_map {U = List Pair × List ℕ} (λ r. (found, now r)) o ≡ option_map (λ rest. (found, rest)) y
with_found found now None y e = ap (option_map (λ rest. (found, rest))) e
with_found found now (Some r) y e = ap (option_map (λ rest. (found, rest))) e
