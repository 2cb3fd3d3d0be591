-- The common divisor of a table's lines of variables, one line after the other.
use Rattle.std.proofs.Common.{◌≡◌, ℕ, ◌+◌, ◌<◌, ◌≤◌, List, [], ◌∷◌, ◌++◌, length, map, get_or, take, take_all, All, refl, sym, subst, ◌∙◌, arith, ℤ, ◌⊎◌, inl, inr, unsigned_abs}
use Rattle.std.proofs.lemmas.Bool.{cases_lt}
use Rattle.std.proofs.lemmas.List.{take_more, length-map}
use Rattle.std.proofs.lemmas.List.Elements.{All-nil, All-push}
use Rattle.std.specs.Int.{◌∣◌}
use Rattle.integer_laws.specs.Laws.Members.{All-in, All-from_in, In-append_left, In-append_right}
use Rattle.row_dictionary.specs.Mixing.{IsCommon}
use Rattle.row_dictionary.specs.Tables.{AreCommon, of_variables}
use Rattle.row_dictionary.proofs.ByVariables.{length-of_variables, at_variable, at_slack}
use Rattle.row_dictionary.proofs.Lines.{at_map}

pub counted_none : (s : ℤ) (lines : List (List ℤ)) → AreCommon s (take 0 lines) s
counted_none s lines k = (λ h. (h, All-nil (λ line. All (λ x. k ∣ unsigned_abs x) line)), λ p. p.0)

one_more : (s : ℤ) (lines : List (List ℤ)) (i : ℕ) (found g : ℤ) → i < length lines → AreCommon s (take i lines) found → IsCommon found (get_or lines i []) g → AreCommon s (take (i + 1) lines) g
one_more s lines i found g h c is k = (there, back)
  where
    more : take (i + 1) lines ≡ take i lines ++ get_or lines i [] ∷ []
    more = take_more lines i [] h

    there : k ∣ unsigned_abs g → (k ∣ unsigned_abs s) × All (λ line. All (λ x. k ∣ unsigned_abs x) line) (take (i + 1) lines)
    there v =
        let both = (is k).0 v in
        let old = (c k).0 both.0 in
        (old.0, subst (All (λ line. All (λ x. k ∣ unsigned_abs x) line)) (sym more) (All-push (λ line. All (λ x. k ∣ unsigned_abs x) line) (take i lines) (get_or lines i []) old.1 both.1))

    back : (k ∣ unsigned_abs s) × All (λ line. All (λ x. k ∣ unsigned_abs x) line) (take (i + 1) lines) → k ∣ unsigned_abs g
    back p =
        let all = subst (All (λ line. All (λ x. k ∣ unsigned_abs x) line)) more p.1 in
        let front = All-from_in (λ line. All (λ x. k ∣ unsigned_abs x) line) (take i lines) (λ y m. All-in (λ line. All (λ x. k ∣ unsigned_abs x) line) (take i lines ++ get_or lines i [] ∷ []) y all (In-append_left (take i lines) (get_or lines i [] ∷ []) y m)) in
        let last = All-in (λ line. All (λ x. k ∣ unsigned_abs x) line) (take i lines ++ get_or lines i [] ∷ []) (get_or lines i []) all (In-append_right (take i lines) (get_or lines i [] ∷ []) (get_or lines i []) (inl refl)) in
        (is k).1 ((c k).1 (p.0, front), last)

nothing_more : (found : ℤ) → IsCommon found [] found
nothing_more found k = (λ h. (h, All-nil (λ x. k ∣ unsigned_abs x)), λ p. p.0)

pub counted_more : (vars : ℕ) (basic : List ℕ) (s : ℤ) (f : List ℤ → List ℤ) (lines : List (List ℤ)) (i : ℕ) (found g : ℤ) → length basic ≡ length lines → i < length lines
    → AreCommon s (take i (of_variables vars basic (map f lines))) found → (get_or basic i 0 < vars → IsCommon found (f (get_or lines i [])) g) → (vars ≤ get_or basic i 0 → g ≡ found)
    → AreCommon s (take (i + 1) (of_variables vars basic (map f lines))) g
counted_more vars basic s f lines i found g l h c variable slack = one_more s (of_variables vars basic (map f lines)) i found g within c (by (cases_lt (get_or basic i 0) vars))
  where
    many : length basic ≡ length (map f lines)
    many = l ∙ sym (length-map lines f)

    in_map : i < length (map f lines)
    in_map = let m = length-map lines f in omega (arith, m, h)

    within : i < length (of_variables vars basic (map f lines))
    within = let m = length-of_variables vars basic (map f lines) many in omega (arith, m, in_map)

    by : (get_or basic i 0 < vars) ⊎ (vars ≤ get_or basic i 0) → IsCommon found (get_or (of_variables vars basic (map f lines)) i []) g
    by (inl k) = subst (λ (t : List ℤ). IsCommon found t g) (sym (at_variable vars basic (map f lines) i [] many in_map k ∙ at_map f lines i [] [] h)) (variable k)
    by (inr k) = subst (λ (t : List ℤ). IsCommon found t g) (sym (at_slack vars basic (map f lines) i [] many in_map k)) (subst (λ (t : ℤ). IsCommon found [] t) (sym (slack k)) (nothing_more found))

pub counted_all : (vars : ℕ) (basic : List ℕ) (s : ℤ) (f : List ℤ → List ℤ) (lines : List (List ℤ)) (i : ℕ) (found : ℤ) → length basic ≡ length lines → length lines ≤ i
    → AreCommon s (take i (of_variables vars basic (map f lines))) found → AreCommon s (of_variables vars basic (map f lines)) found
counted_all vars basic s f lines i found l h c = subst (λ t. AreCommon s t found) (take_all i (of_variables vars basic (map f lines)) (let m = length-map lines f in let n = length-of_variables vars basic (map f lines) (l ∙ sym m) in omega (arith, m, n, h))) c
