-- The laws of a line of a keyword and a number, both ways.
--
--   number_line_takes   what `number_line_at` takes is the line of its number, which is in the range
--   number_line_again   the line of a number in the range is taken as this number
--   number_line_exact   both ways in one
--   number_line_one     the line determines its number and the bytes after it
use Rattle.std.proofs.Common.{◌≡◌, ◌↔◌, ℕ, ◌≤◌, ◌<◌, ◌^◌, ℤ, pos, negsuc, List, ◌++◌, Bool, true, false, cond, ◌||◌, int_lt, Option, Some, None, codes, unsigned_abs, refl, sym, ap, ◌∙◌, arith, append_assoc}
use Rattle.std.proofs.lemmas.Bool.Decides.{nat_tests}
use Rattle.seq_num.specs.Spelling.{spelling}
use Rattle.text_lines.specs.Reading.{literal_at, whole_at}
use Rattle.text_lines.specs.Lines.{number_line, number_line_at, IsNumberLineAt}
use Rattle.text_lines.specs.Laws.Reading.{step_some, literal_takes, literal_again, whole_takes, whole_again}

record Passed (most : ℕ) (z : ℤ) (rest r : List ℕ) (n : ℕ) : Type 0 where
  value : z ≡ pos n
  low : 1 ≤ n
  high : n ≤ most
  left : rest ≡ r

passed : (most : ℕ) (z : ℤ) (rest r : List ℕ) (n : ℕ) (low high : Bool) → int_lt z (pos 1) ≡ low → int_lt (pos most) z ≡ high → cond {A = Option (ℕ × List ℕ)} (low || high) None (Some (unsigned_abs z, rest)) ≡ Some (n, r) → Passed most z rest r n
passed most z rest r n true high a b e = absurd cc
passed most z rest r n false true a b e = absurd cc
passed most (pos k) rest r n false false a b e =
    let p : (k, rest) ≡ (n, r) = cc in
    let k_is : k ≡ n = ap (λ (q : ℕ × List ℕ). q.0) p in
    record { value = ap pos k_is; low = grind (arith, nat_tests); high = grind (arith, nat_tests); left = ap (λ (q : ℕ × List ℕ). q.1) p }
passed most (negsuc k) rest r n false false a b e = absurd cc

regroup : (keyword n end rest : List ℕ) → (keyword ++ (n ++ end)) ++ rest ≡ keyword ++ (n ++ (end ++ rest))
regroup keyword n end rest = simp append_assoc

pub number_line_takes : (keyword : List ℕ) (most : ℕ) (bytes rest : List ℕ) (n : ℕ) → number_line_at keyword most bytes ≡ Some (n, rest) → IsNumberLineAt keyword most bytes n rest
unfolding number_line_at
number_line_takes keyword most bytes rest n e =
    let a = step_some (literal_at keyword bytes) _ (n, rest) e in
    let w = step_some (whole_at a.0) _ (n, rest) a.2 in
    let l = step_some (literal_at (codes "\n") w.0.1) _ (n, rest) w.2 in
    let g = passed most w.0.0 l.0 rest n (int_lt w.0.0 (pos 1)) (int_lt (pos most) w.0.0) refl refl l.2 in
    let t = whole_takes a.0 w.0.1 w.0.0 w.1 in
    let last : w.0.1 ≡ codes "\n" ++ rest = literal_takes (codes "\n") w.0.1 l.0 l.1 ∙ ap (λ r. codes "\n" ++ r) g.left in
    let taken : bytes ≡ keyword ++ (spelling (pos n) ++ (codes "\n" ++ rest)) =
    literal_takes keyword bytes a.0 a.1 ∙ ap (λ r. keyword ++ r) (t.spelled ∙ ap (λ z. spelling z ++ w.0.1) g.value ∙ ap (λ r. spelling (pos n) ++ r) last) in
    record { spelled = taken ∙ sym (regroup keyword (spelling (pos n)) (codes "\n") rest); low = g.low; high = g.high }

pub number_line_again : (keyword : List ℕ) (most n : ℕ) (rest : List ℕ) → 1 ≤ n → n ≤ most → most < 2 ^ 100 → number_line_at keyword most (number_line keyword (pos n) ++ rest) ≡ Some (n, rest)
unfolding number_line_at
number_line_again keyword most n rest low high small =
    let below : int_lt (pos n) (pos 1) ≡ false = grind (arith, nat_tests) in
    let above : int_lt (pos most) (pos n) ≡ false = grind (arith, nat_tests) in
    rw (regroup keyword (spelling (pos n)) (codes "\n") rest) (rw (literal_again, whole_again (pos n) (codes "\n" ++ rest) (omega arith) refl, literal_again, below, above) refl)

pub number_line_exact : (keyword : List ℕ) (most : ℕ) (bytes rest : List ℕ) (n : ℕ) → most < 2 ^ 100 → (number_line_at keyword most bytes ≡ Some (n, rest)) ↔ IsNumberLineAt keyword most bytes n rest
number_line_exact keyword most bytes rest n small = (number_line_takes keyword most bytes rest n, λ l. ap (number_line_at keyword most) l.spelled ∙ number_line_again keyword most n rest l.low l.high small)

pub number_line_one : (keyword : List ℕ) (most : ℕ) (bytes a b : List ℕ) (m n : ℕ) → most < 2 ^ 100 → IsNumberLineAt keyword most bytes m a → IsNumberLineAt keyword most bytes n b → (m ≡ n) × (a ≡ b)
number_line_one keyword most bytes a b m n small h k =
    let some : Some (m, a) ≡ Some (n, b) = sym ((number_line_exact keyword most bytes a m small).1 h) ∙ (number_line_exact keyword most bytes b n small).1 k in
    let p : (m, a) ≡ (n, b) = cc in
    (ap (λ (q : ℕ × List ℕ). q.0) p, ap (λ (q : ℕ × List ℕ). q.1) p)
