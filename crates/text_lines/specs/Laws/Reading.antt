-- The laws of the readers, both ways: what they take is what is written, and what is written they take.
--
--   mapped_some      what an option that a call gave says of the definition's, seen through f
--   step_some        what a step of a chain of readers gave, where the chain gave something
--   literal_takes    the bytes begin with the text
--   literal_again    the text is taken from its front
--   whole_takes      the bytes begin with the spelling of the number, and no digit follows it
--   whole_again      a number's spelling is taken from its front, where no digit follows it
--   literal_exact, whole_exact      both ways in one
--   literal_one, whole_one          what stands at the front determines its value and the bytes after it
use Rattle.std.specs.Prelude.{◌≡◌, ◌↔◌, ℕ, ◌+◌, ◌<◌, ◌^◌, ℤ, pos, negsuc, suc, unsigned_abs, List, [], ◌∷◌, ◌++◌, length, take, drop, Bool, true, false, Option, Some, None, option_and_then, decimal, refl}
use Rattle.std.proofs.Common.{sym, ap, ◌∙◌, arith, cond, eqb, get_or, add-one}
use Rattle.std.proofs.lemmas.List.{take-append-drop, take_at, drop_at, get_or_append_left}
use Rattle.std.proofs.lemmas.Slice.Eq.{bytes_eq-Decides}
use Rattle.std.proofs.lemmas.Bool.Decides.{nat_tests}
use Rattle.std.proofs.lemmas.Grind.{common_steps}
use Rattle.std.specs.Char.{is_ascii_digit, digit_value}
use Rattle.std.specs.Str.{bytes_eq}
use Rattle.std.specs.Str.Parse.{AllDigits}
use Rattle.std.specs.Option.{option_map}
use Rattle.seq_num.specs.Spelling.{spelling, number_of}
use Rattle.seq_num.specs.Laws.Spelling.{guard_some, number_spells, number_again}
use Rattle.text_lines.specs.Reading.{literal_at, digit_count, whole_len, whole_at, IsWholeAt}
use Rattle.seq_num.specs.Laws.Digits.{decimal_all_digits, not_empty, each_digit}

pub mapped_some : {A B : Type 0} (f : A → B) (o : Option A) (x : A) (y : Option B) → option_map f o ≡ y → o ≡ Some x → y ≡ Some (f x)
mapped_some f o x y e h = sym e ∙ ap (option_map f) h

-- a step of a chain of readers that gave something
pub step_some : {A B : Type 0} (o : Option A) (f : A → Option B) (y : B) → option_and_then f o ≡ Some y → (x : A) × (o ≡ Some x) × (f x ≡ Some y)
step_some None f y e = absurd cc
step_some (Some x) f y e = (x, refl, e)

pub literal_takes : (text bytes rest : List ℕ) → literal_at text bytes ≡ Some rest → bytes ≡ text ++ rest
unfolding literal_at
literal_takes text bytes rest e =
    let g = guard_some (bytes_eq (take (length text) bytes) text) (drop (length text) bytes) rest e in
    let t : take (length text) bytes ≡ text = (bytes_eq-Decides (take (length text) bytes) text).0 g.0 in
    sym (take-append-drop (length text) bytes) ∙ ap (λ l. l ++ drop (length text) bytes) t ∙ ap (λ l. text ++ l) g.1

pub literal_again : (text rest : List ℕ) → literal_at text (text ++ rest) ≡ Some rest
unfolding literal_at
literal_again text rest =
    let t : take (length text) (text ++ rest) ≡ text = take_at text rest (length text) refl in
    let d : drop (length text) (text ++ rest) ≡ rest = drop_at text rest (length text) refl in
    let b : bytes_eq (take (length text) (text ++ rest)) text ≡ true = (bytes_eq-Decides (take (length text) (text ++ rest)) text).1 t in
    rw b (ap Some d)

digit_is_ascii : (c : ℕ) → digit_value c < 10 → is_ascii_digit c ≡ true
digit_is_ascii c h = grind (arith, common_steps)

digit_count-append : (ds rest : List ℕ) → AllDigits 10 ds → digit_count rest ≡ 0 → digit_count (ds ++ rest) ≡ length ds
digit_count-append [] rest h z = z
digit_count-append (c ∷ cs) rest h z = rw (digit_is_ascii c h.0) (ap (λ n. n + 1) (digit_count-append cs rest h.1 z) ∙ add-one (length cs))

-- behind the digits at the front no digit stands
counted_rest : (c : ℕ) (b : Bool) (cs : List ℕ) → is_ascii_digit c ≡ b → digit_count (drop (digit_count cs) cs) ≡ 0 → digit_count (drop (cond b (digit_count cs + 1) 0) (c ∷ cs)) ≡ 0
counted_rest c true cs e ih = rw add-one ih
counted_rest c false cs e ih = rw e refl

digit_count_rest : (bytes : List ℕ) → digit_count (drop (digit_count bytes) bytes) ≡ 0
digit_count_rest [] = refl
digit_count_rest (c ∷ cs) = counted_rest c (is_ascii_digit c) cs refl (digit_count_rest cs)

signed_rest : (c : ℕ) (b : Bool) (cs : List ℕ) → digit_count (drop (cond b (digit_count cs + 1) (digit_count (c ∷ cs))) (c ∷ cs)) ≡ 0
signed_rest c true cs = rw add-one (digit_count_rest cs)
signed_rest c false cs = digit_count_rest (c ∷ cs)

whole_len_rest : (bytes : List ℕ) → digit_count (drop (whole_len bytes) bytes) ≡ 0
whole_len_rest [] = refl
whole_len_rest (c ∷ cs) = signed_rest c (eqb c 45) cs

-- without a `-` in front the number is its digits
whole_len_plain : (bytes : List ℕ) → (get_or bytes 0 0 ≡ 45 → ⊥) → whole_len bytes ≡ digit_count bytes
whole_len_plain [] first = refl
whole_len_plain (c ∷ cs) first =
    let no_minus : eqb c 45 ≡ false = grind (arith, nat_tests) in
    rw no_minus refl

whole_len-append : (n : ℤ) (rest : List ℕ) → unsigned_abs n < 2 ^ 100 → digit_count rest ≡ 0 → whole_len (spelling n ++ rest) ≡ length (spelling n)
whole_len-append (pos n) rest small z =
    let some = not_empty (decimal n) n (omega arith) refl in
    let first = each_digit (decimal n) n 0 (omega arith) refl some in
    let front : get_or (decimal n ++ rest) 0 0 ≡ get_or (decimal n) 0 0 = (let h : 0 < length (decimal n) = some in rw get_or_append_left refl) in
    whole_len_plain (decimal n ++ rest) (λ minus. omega arith) ∙ digit_count-append (decimal n) rest (decimal_all_digits n (omega arith)) z
whole_len-append (negsuc n) rest small z = ap (λ k. k + 1) (digit_count-append (decimal (suc n)) rest (decimal_all_digits (suc n) (omega arith)) z) ∙ add-one (length (decimal (suc n)))

mapped : (o : Option ℤ) (r : List ℕ) (n : ℤ) (rest : List ℕ) → option_map {U = ℤ × List ℕ} (λ m. (m, r)) o ≡ Some (n, rest) → (o ≡ Some n) × (r ≡ rest)
mapped None r n rest e = absurd cc
mapped (Some m) r n rest e =
    let p : (m, r) ≡ (n, rest) = cc in
    (ap (λ (q : ℤ × List ℕ). Some q.0) p, ap (λ (q : ℤ × List ℕ). q.1) p)

pub whole_takes : (bytes rest : List ℕ) (n : ℤ) → whole_at bytes ≡ Some (n, rest) → IsWholeAt bytes n rest
unfolding whole_at
whole_takes bytes rest n e =
    let k = whole_len bytes in
    let m = mapped (number_of (take k bytes)) (drop k bytes) n rest e in
    let s = number_spells (take k bytes) n m.0 in
    record {
      spelled = sym (take-append-drop k bytes) ∙ ap (λ l. l ++ drop k bytes) s.is ∙ ap (λ l. spelling n ++ l) m.1;
      small = s.small;
      ended = ap digit_count (sym m.1) ∙ whole_len_rest bytes;
    }

pub whole_again : (n : ℤ) (rest : List ℕ) → unsigned_abs n < 2 ^ 100 → digit_count rest ≡ 0 → whole_at (spelling n ++ rest) ≡ Some (n, rest)
unfolding whole_at
whole_again n rest small z =
    let k : whole_len (spelling n ++ rest) ≡ length (spelling n) = whole_len-append n rest small z in
    rw (k, take_at (spelling n) rest (length (spelling n)) refl, drop_at (spelling n) rest (length (spelling n)) refl, number_again n small) refl

-- a number read from that front, with the bytes after it
pub whole_from : (bytes front rest : List ℕ) (k : ℕ) (number : Option ℤ) → k ≡ whole_len bytes → front ≡ take k bytes → rest ≡ drop k bytes → number ≡ number_of front → option_map {U = ℤ × List ℕ} (λ n. (n, rest)) number ≡ whole_at bytes
unfolding whole_at
whole_from bytes front rest k number len is_front is_rest is_number = rw (is_rest, is_number, is_front, len) refl

-- ---- both ways in one
pub literal_exact : (text bytes rest : List ℕ) → (literal_at text bytes ≡ Some rest) ↔ (bytes ≡ text ++ rest)
literal_exact text bytes rest = (literal_takes text bytes rest, λ e. ap (literal_at text) e ∙ literal_again text rest)

pub whole_exact : (bytes rest : List ℕ) (n : ℤ) → (whole_at bytes ≡ Some (n, rest)) ↔ IsWholeAt bytes n rest
whole_exact bytes rest n = (whole_takes bytes rest n, λ w. ap whole_at w.spelled ∙ whole_again n rest w.small w.ended)

pub literal_one : (text a b : List ℕ) → text ++ a ≡ text ++ b → a ≡ b
literal_one text a b e =
    let p : Some a ≡ Some b = sym (literal_again text a) ∙ ap (literal_at text) e ∙ literal_again text b in
    cc

pub whole_one : (bytes a b : List ℕ) (m n : ℤ) → IsWholeAt bytes m a → IsWholeAt bytes n b → (m ≡ n) × (a ≡ b)
whole_one bytes a b m n h k =
    let some : Some (m, a) ≡ Some (n, b) = sym ((whole_exact bytes a m).1 h) ∙ (whole_exact bytes b n).1 k in
    let p : (m, a) ≡ (n, b) = cc in
    (ap (λ (q : ℤ × List ℕ). q.0) p, ap (λ (q : ℤ × List ℕ). q.1) p)
