-- Numbers on a line, behind separators, both ways: what is taken is their text, and the text of numbers is taken.
--
--   IsSeparator sep        a separator begins with no digit, and isn't the end of a line
--   number_takes, number_again     one number behind a separator
--   numbers_takes, numbers_again   the numbers up to the end of the line
--   loop_..                 steps of the loop that reads them
use Rattle.std.proofs.Common.{◌≡◌, ℕ, zero, suc, ◌-◌, ◌≤◌, ◌<◌, ◌^◌, ℤ, pos, negsuc, unsigned_abs, List, [], ◌∷◌, ◌++◌, length, Bool, true, false, Option, Some, None, is_some, All, codes, refl, sym, ap, ◌∙◌, subst, arith, append_assoc, append-nil, length-append}
use Rattle.std.proofs.lemmas.List.Elements.{All-nil, All-cons, All-head, All-tail}
use Rattle.std.specs.Option.{option_map}
use Rattle.std.specs.Prelude.{decimal}
use Rattle.seq_num.specs.Spelling.{spelling}
use Rattle.seq_num.specs.Laws.Digits.{not_empty}
use Rattle.text_lines.specs.Reading.{◌>>=◌, literal_at, digit_count}
use Rattle.text_lines.specs.Laws.Reading.{step_some, literal_takes, literal_again, whole_takes, whole_again}
use Rattle.cert_text.specs.Lines.{ends_line, number_at, numbers_end, numbers_at}
use Rattle.cert_text.specs.TreeText.{number_text, numbers_text}

pub record IsSeparator (sep : List ℕ) : Type 0 where
  pub plain : (rest : List ℕ) → digit_count (sep ++ rest) ≡ 0
  pub within : (rest : List ℕ) → ends_line (sep ++ rest) ≡ false
  pub some : 1 ≤ length sep

abbrev pub CanBeSpelt : ℤ → Type 0
CanBeSpelt n = unsigned_abs n < 2 ^ 100

behind_space : (rest : List ℕ) → literal_at (codes "\n") (codes " " ++ rest) ≡ None
unfolding literal_at
behind_space rest = refl

behind_comma : (rest : List ℕ) → literal_at (codes "\n") (codes "," ++ rest) ≡ None
unfolding literal_at
behind_comma rest = refl

pub space_is : IsSeparator (codes " ")
space_is = record { plain = λ rest. refl; within = λ rest. ap is_some (behind_space rest); some = omega arith }

pub comma_is : IsSeparator (codes ",")
comma_is = record { plain = λ rest. refl; within = λ rest. ap is_some (behind_comma rest); some = omega arith }

-- ---- one number
pub record TakesNumber (sep bytes rest : List ℕ) (n : ℤ) : Type 0 where
  pub spelled : bytes ≡ number_text sep n ++ rest
  pub spelt : CanBeSpelt n

pub number_takes : (sep bytes rest : List ℕ) (n : ℤ) → number_at sep bytes ≡ Some (n, rest) → TakesNumber sep bytes rest n
unfolding number_at
number_takes sep bytes rest n e =
    let a = step_some (literal_at sep bytes) _ (n, rest) e in
    let t = whole_takes a.0 rest n a.2 in
    record { spelled = literal_takes sep bytes a.0 a.1 ∙ ap (λ l. sep ++ l) t.spelled ∙ sym (append_assoc sep (spelling n) rest); spelt = t.small }

pub number_again : (sep : List ℕ) (n : ℤ) (rest : List ℕ) → CanBeSpelt n → digit_count rest ≡ 0 → number_at sep (number_text sep n ++ rest) ≡ Some (n, rest)
unfolding number_at
number_again sep n rest spelt ended = rw (append_assoc sep (spelling n) rest) (rw (literal_again, whole_again n rest spelt ended) refl)

-- ---- steps of the list
pub step_end : (sep : List ℕ) (room : ℕ) (bytes rest : List ℕ) → literal_at (codes "\n") bytes ≡ Some rest → numbers_at sep room bytes ≡ Some ([], rest)
unfolding numbers_at
step_end sep zero bytes rest e = rw e refl
step_end sep (suc room) bytes rest e = rw e refl

no_end : (bytes : List ℕ) (o : Option (List ℕ)) → literal_at (codes "\n") bytes ≡ o → is_some o ≡ false → numbers_end bytes ≡ None
no_end bytes None e h = rw e refl
no_end bytes (Some rest) e h = absurd cc

pub step_full : (sep : List ℕ) (bytes : List ℕ) → ends_line bytes ≡ false → numbers_at sep 0 bytes ≡ None
unfolding numbers_at
step_full sep bytes h = no_end bytes (literal_at (codes "\n") bytes) refl h

pub step_more : (sep : List ℕ) (room : ℕ) (bytes : List ℕ) → ends_line bytes ≡ false → numbers_at sep (suc room) bytes ≡ (number_at sep bytes >>= λ p. numbers_at sep room p.1 >>= λ ps. Some (p.0 ∷ ps.0, ps.1))
unfolding numbers_at
step_more sep room bytes h = rw h refl

step_zero : (sep : List ℕ) (bytes : List ℕ) → numbers_at sep zero bytes ≡ numbers_end bytes
unfolding numbers_at
step_zero sep bytes = refl

step_done : (sep : List ℕ) (room : ℕ) (bytes : List ℕ) → ends_line bytes ≡ true → numbers_at sep (suc room) bytes ≡ numbers_end bytes
unfolding numbers_at
step_done sep room bytes h = rw h refl

no_end_yet : (sep : List ℕ) → IsSeparator sep → (n : ℤ) (rest : List ℕ) → ends_line (number_text sep n ++ rest) ≡ false
no_end_yet sep is n rest = ap ends_line (append_assoc sep (spelling n) rest) ∙ is.within (spelling n ++ rest)

pub starts_plain : (sep : List ℕ) → IsSeparator sep → (ps : List ℤ) (rest : List ℕ) → digit_count (numbers_text sep ps ++ rest) ≡ 0
starts_plain sep is [] rest = refl
starts_plain sep is (p ∷ ps) rest =
    ap digit_count (append_assoc (number_text sep p) (numbers_text sep ps) rest ∙ append_assoc sep (spelling p) (numbers_text sep ps ++ rest)) ∙ is.plain (spelling p ++ (numbers_text sep ps ++ rest))

-- ---- the list both ways
pub numbers_again : (sep : List ℕ) → IsSeparator sep → (ps : List ℤ) (room : ℕ) (rest : List ℕ) → All CanBeSpelt ps → length ps ≤ room → numbers_at sep room (numbers_text sep ps ++ rest) ≡ Some (ps, rest)
numbers_again sep is [] room rest spelt few = step_end sep room (codes "\n" ++ rest) rest (literal_again (codes "\n") rest)
numbers_again sep is (p ∷ ps) zero rest spelt few = absurd (omega arith)
numbers_again sep is (p ∷ ps) (suc room) rest spelt few =
    ap (numbers_at sep (suc room)) (append_assoc (number_text sep p) (numbers_text sep ps) rest)
    ∙ step_more sep room (number_text sep p ++ (numbers_text sep ps ++ rest)) (no_end_yet sep is p (numbers_text sep ps ++ rest))
    ∙ rw (number_again sep p (numbers_text sep ps ++ rest) (All-head CanBeSpelt p ps spelt) (starts_plain sep is ps rest), numbers_again sep is ps room rest (All-tail CanBeSpelt p ps spelt) (omega arith)) refl

pub record TakesNumbers (sep : List ℕ) (room : ℕ) (bytes rest : List ℕ) (ps : List ℤ) : Type 0 where
  pub spelled : bytes ≡ numbers_text sep ps ++ rest
  pub few : length ps ≤ room
  pub spelt : All CanBeSpelt ps

end_taken : (sep : List ℕ) (room : ℕ) (bytes rest : List ℕ) (ps : List ℤ) → numbers_end bytes ≡ Some (ps, rest) → TakesNumbers sep room bytes rest ps
end_taken sep room bytes rest ps e =
    let a = step_some (literal_at (codes "\n") bytes) _ (ps, rest) e in
    let end : ([], a.0) ≡ (ps, rest) = cc (a.2) in
    let t : TakesNumbers sep room bytes a.0 [] = record { spelled = literal_takes (codes "\n") bytes a.0 a.1; few = omega arith; spelt = All-nil CanBeSpelt } in
    subst (λ (t : List ℤ × List ℕ). TakesNumbers sep room bytes t.1 t.0) end t

pub numbers_takes : (sep : List ℕ) (room : ℕ) (bytes rest : List ℕ) (ps : List ℤ) → numbers_at sep room bytes ≡ Some (ps, rest) → TakesNumbers sep room bytes rest ps
numbers_takes sep zero bytes rest ps e = end_taken sep zero bytes rest ps (sym (step_zero sep bytes) ∙ e)
numbers_takes sep (suc room) bytes rest ps e = by (ends_line bytes) refl (λ after more h. numbers_takes sep room after rest more h)
  where
    by : (b : Bool) → ends_line bytes ≡ b → ((after : List ℕ) (more : List ℤ) → numbers_at sep room after ≡ Some (more, rest) → TakesNumbers sep room after rest more) → TakesNumbers sep (suc room) bytes rest ps
    by true h later = end_taken sep (suc room) bytes rest ps (sym (step_done sep room bytes h) ∙ e)
    by false h later =
        let p = step_some (number_at sep bytes) _ (ps, rest) (sym (step_more sep room bytes h) ∙ e) in
        let m = step_some (numbers_at sep room p.0.1) _ (ps, rest) p.2 in
        let end : (p.0.0 ∷ m.0.0, m.0.1) ≡ (ps, rest) = cc (m.2) in
        let same : m.0.1 ≡ rest = ap (λ (q : List ℤ × List ℕ). q.1) end in
        let t = number_takes sep bytes p.0.1 p.0.0 p.1 in
        let n = later p.0.1 m.0.0 (m.1 ∙ ap (λ (l : List ℕ). Some (m.0.0, l)) same) in
        let all : TakesNumbers sep (suc room) bytes rest (p.0.0 ∷ m.0.0) = record {
          spelled = t.spelled ∙ ap (λ l. number_text sep p.0.0 ++ l) n.spelled ∙ sym (append_assoc (number_text sep p.0.0) (numbers_text sep m.0.0) rest);
          few = omega (arith, n.few);
          spelt = All-cons CanBeSpelt p.0.0 m.0.0 t.spelt n.spelt;
        } in
        subst (λ (l : List ℤ). TakesNumbers sep (suc room) bytes rest l) (ap (λ (q : List ℤ × List ℕ). q.0) end) all

-- ---- the loop, which has room for what is left
abbrev pub behind : List ℤ → List ℤ × List ℕ → List ℤ × List ℕ
behind found p = (found ++ p.0, p.1)

room_left : (most n : ℕ) → n < most → most - n ≡ suc (most - n - 1)
room_left most n h = omega arith

behind_more : (found : List ℤ) (p : ℤ) (o : Option (List ℤ × List ℕ)) → option_map (behind (found ++ p ∷ [])) o ≡ option_map (behind found) (o >>= λ ps. Some (p ∷ ps.0, ps.1))
behind_more found p None = refl
behind_more found p (Some ps) = ap (λ (l : List ℤ). Some (l, ps.1)) (append_assoc found (p ∷ []) ps.0)

pub loop_more : (sep : List ℕ) (most : ℕ) (all : Option (List ℤ × List ℕ)) (found found' : List ℤ) (bytes rest : List ℕ) (p : ℤ) → length found < most → found' ≡ found ++ p ∷ [] → ends_line bytes ≡ false → number_at sep bytes ≡ Some (p, rest)
    → option_map (behind found) (numbers_at sep (most - length found) bytes) ≡ all → option_map (behind found') (numbers_at sep (most - length found') rest) ≡ all
loop_more sep most all found found' bytes rest p few is open_line read so_far =
    let left : most - length found' ≡ most - length found - 1 = omega (arith, ap length is, length-append found (p ∷ [])) in
    let step : numbers_at sep (most - length found) bytes ≡ (numbers_at sep (most - length found - 1) rest >>= λ ps. Some (p ∷ ps.0, ps.1)) =
    ap (λ n. numbers_at sep n bytes) (room_left most (length found) few) ∙ step_more sep (most - length found - 1) bytes open_line ∙ ap (λ o. o >>= λ q. numbers_at sep (most - length found - 1) q.1 >>= λ ps. Some (q.0 ∷ ps.0, ps.1)) read in
    ap (λ n. option_map (behind found') (numbers_at sep n rest)) left ∙ ap (λ f. option_map (behind f) (numbers_at sep (most - length found - 1) rest)) is
    ∙ behind_more found p (numbers_at sep (most - length found - 1) rest) ∙ ap (option_map (behind found)) (sym step) ∙ so_far

pub loop_none : (sep : List ℕ) (most : ℕ) (all : Option (List ℤ × List ℕ)) (found : List ℤ) (bytes : List ℕ) → length found < most → ends_line bytes ≡ false → number_at sep bytes ≡ None
    → option_map (behind found) (numbers_at sep (most - length found) bytes) ≡ all → None ≡ all
loop_none sep most all found bytes few open_line none so_far =
    let step : numbers_at sep (most - length found) bytes ≡ None = ap (λ n. numbers_at sep n bytes) (room_left most (length found) few) ∙ step_more sep (most - length found - 1) bytes open_line ∙ ap (λ o. o >>= λ q. numbers_at sep (most - length found - 1) q.1 >>= λ ps. Some (q.0 ∷ ps.0, ps.1)) none in
    sym (ap (option_map (behind found)) step) ∙ so_far

pub loop_full : (sep : List ℕ) (most : ℕ) (all : Option (List ℤ × List ℕ)) (found : List ℤ) (bytes : List ℕ) → length found ≡ most → ends_line bytes ≡ false → option_map (behind found) (numbers_at sep (most - length found) bytes) ≡ all → None ≡ all
loop_full sep most all found bytes full open_line so_far =
    let none : most - length found ≡ 0 = omega arith in
    sym (ap (option_map (behind found)) (ap (λ n. numbers_at sep n bytes) none ∙ step_full sep bytes open_line)) ∙ so_far

pub loop_ended : (sep : List ℕ) (most : ℕ) (all : Option (List ℤ × List ℕ)) (found : List ℤ) (bytes : List ℕ) (o : Option (List ℕ)) → ends_line bytes ≡ true → o ≡ literal_at (codes "\n") bytes
    → option_map (behind found) (numbers_at sep (most - length found) bytes) ≡ all → option_map (λ rest. (found, rest)) o ≡ all
loop_ended sep most all found bytes o ended is so_far = by o is
  where
    by : (q : Option (List ℕ)) → q ≡ literal_at (codes "\n") bytes → option_map (λ rest. (found, rest)) q ≡ all
    by None e = absurd (cc (ended, e))
    by (Some rest) e = sym (ap (option_map (behind found)) (step_end sep (most - length found) bytes rest (sym e)) ∙ ap (λ (l : List ℤ). Some (l, rest)) (append-nil found)) ∙ so_far

pub with_found : {B : Type 0} (found : List ℤ) (now : B → List ℕ) (o : Option B) (y : Option (List ℕ)) → option_map now o ≡ y → option_map {U = List ℤ × List ℕ} (λ r. (found, now r)) o ≡ option_map (λ rest. (found, rest)) y
with_found found now None y e = ap (option_map (λ rest. (found, rest))) e
with_found found now (Some r) y e = ap (option_map (λ rest. (found, rest))) e

-- a number takes bytes, whatever its separator
spelling_some : (n : ℤ) → CanBeSpelt n → 1 ≤ length (spelling n)
spelling_some (pos n) small = omega (arith, not_empty (decimal n) n (omega arith) refl)
spelling_some (negsuc n) small = omega (arith)

pub shorter_rest : (sep bytes rest : List ℕ) (n : ℤ) → number_at sep bytes ≡ Some (n, rest) → length rest < length bytes
shorter_rest sep bytes rest n read =
    let t = number_takes sep bytes rest n read in
    omega (arith, spelling_some n t.spelt, ap length t.spelled, length-append (number_text sep n) rest, length-append sep (spelling n))
