-- A chain that is read and cut at its end.
use Rattle.std.proofs.Common.{◌≡◌, ℕ, ◌+◌, length, get_or, take, take_all, List, [], ◌∷◌, ◌++◌, refl, ap, sym, ◌∙◌, arith, pos, ◌≤ℤ◌, ◌<ℤ◌, Bool, true, false, cond}
use Rattle.std.proofs.lemmas.Int.{ints}
use Rattle.std.proofs.lemmas.List.{take_more, reverse-append, get_or-take, length-take-le}
use Rattle.std.specs.Prelude.{int_lt, reverse}
use Rattle.seq_model.specs.declared.printer.Spot.{Spot}
use Rattle.outline_laws.specs.Corners.{turn}
use Rattle.outline_laws.specs.Chains.{fallen}

last_read : (xs : List Spot) (k : ℕ) (d : Spot) → length xs ≡ k + 1 → reverse xs ≡ get_or xs k d ∷ reverse (take k xs)
last_read xs k d h =
    let e : xs ≡ take k xs ++ get_or xs k d ∷ [] = sym (take_all (k + 1) xs (omega arith)) ∙ take_more xs k d (omega arith) in
    ap reverse e ∙ reverse-append (take k xs) (get_or xs k d ∷ [])

two_read : (xs : List Spot) (k : ℕ) (d : Spot) → length xs ≡ k + 2 → reverse (take (k + 1) xs) ≡ get_or xs k d ∷ reverse (take k (take (k + 1) xs))
two_read xs k d h =
    let short : length (take (k + 1) xs) ≡ k + 1 = length-take-le (k + 1) xs (omega arith) in
    let same : get_or (take (k + 1) xs) k d ≡ get_or xs k d = get_or-take (k + 1) xs k d (omega arith) in
    last_read (take (k + 1) xs) k d short ∙ ap (λ t. t ∷ reverse (take k (take (k + 1) xs))) same

falls_one : (p b a : Spot) (cs : List Spot) → turn a b p ≤ℤ pos 0 → fallen p (b ∷ a ∷ cs) ≡ fallen p (a ∷ cs)
falls_one p b a cs h = by (int_lt (pos 0) (turn a b p)) refl
  where
    by : (t : Bool) → int_lt (pos 0) (turn a b p) ≡ t → cond t (b ∷ a ∷ cs) (fallen p (a ∷ cs)) ≡ fallen p (a ∷ cs)
    by true e = absurd (omega (arith, ints))
    by false e = refl

stays_one : (p b a : Spot) (cs : List Spot) → pos 0 <ℤ turn a b p → fallen p (b ∷ a ∷ cs) ≡ b ∷ a ∷ cs
stays_one p b a cs h = by (int_lt (pos 0) (turn a b p)) refl
  where
    by : (t : Bool) → int_lt (pos 0) (turn a b p) ≡ t → cond t (b ∷ a ∷ cs) (fallen p (a ∷ cs)) ≡ b ∷ a ∷ cs
    by true e = refl
    by false e = absurd (omega (arith, ints))

both_read : (x y : Spot) (xs : List Spot) (k : ℕ) → length xs ≡ k + 2 → x ≡ get_or xs k x → y ≡ get_or xs (k + 1) y → reverse xs ≡ y ∷ x ∷ reverse (take k (take (k + 1) xs))
both_read x y xs k h e f =
    last_read xs (k + 1) y (omega arith) ∙ ap (λ t. t ∷ reverse (take (k + 1) xs)) (sym f) ∙ ap (λ t. y ∷ t) (two_read xs k x h ∙ ap (λ t. t ∷ reverse (take k (take (k + 1) xs))) (sym e))

falls_at : (p x y : Spot) (xs : List Spot) (k : ℕ) → length xs ≡ k + 2 → x ≡ get_or xs k x → y ≡ get_or xs (k + 1) y → turn x y p ≤ℤ pos 0 → fallen p (reverse (take (k + 1) xs)) ≡ fallen p (reverse xs)
falls_at p x y xs k h e f t =
    let cs = reverse (take k (take (k + 1) xs)) in
    ap (fallen p) (two_read xs k x h ∙ ap (λ t. t ∷ cs) (sym e)) ∙ sym (falls_one p y x cs t) ∙ sym (ap (fallen p) (both_read x y xs k h e f))

stays_at : (p x y : Spot) (xs : List Spot) (k : ℕ) → length xs ≡ k + 2 → x ≡ get_or xs k x → y ≡ get_or xs (k + 1) y → pos 0 <ℤ turn x y p → reverse xs ≡ fallen p (reverse xs)
stays_at p x y xs k h e f t =
    let cs = reverse (take k (take (k + 1) xs)) in
    both_read x y xs k h e f ∙ sym (stays_one p y x cs t) ∙ sym (ap (fallen p) (both_read x y xs k h e f))

-- i and j as the code has them: the places of the last but one and of the last
pub falls : (p x y : Spot) (xs ys : List Spot) (i j m : ℕ) → i + 2 ≡ length xs → j + 1 ≡ length xs → m + 1 ≡ length xs → x ≡ get_or xs i x → y ≡ get_or xs j y → turn x y p ≤ℤ pos 0 → ys ≡ take m xs → fallen p (reverse ys) ≡ fallen p (reverse xs)
falls p x y xs ys i j m hi hj hm e f t g =
    let f' : y ≡ get_or xs (i + 1) y = f ∙ ap (λ n. get_or xs n y) (omega arith) in
    let g' : ys ≡ take (i + 1) xs = g ∙ ap (λ n. take n xs) (omega arith) in
    ap (λ l. fallen p (reverse l)) g' ∙ falls_at p x y xs i (sym hi) e f' t

pub stays : (p x y : Spot) (xs : List Spot) (i j : ℕ) → i + 2 ≡ length xs → j + 1 ≡ length xs → x ≡ get_or xs i x → y ≡ get_or xs j y → pos 0 <ℤ turn x y p → reverse xs ≡ fallen p (reverse xs)
stays p x y xs i j hi hj e f t =
    let f' : y ≡ get_or xs (i + 1) y = f ∙ ap (λ n. get_or xs n y) (omega arith) in
    stays_at p x y xs i (sym hi) e f' t
