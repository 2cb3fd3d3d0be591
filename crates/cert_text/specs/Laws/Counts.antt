-- Numbers of 32 bits, as whole numbers.
--
--   IsCount n        it is one
--   count_is         it is the size that it has
--   all_counts       numbers none of which is below 0 or too great are such
--   counted, again   their sizes give them back, and they their sizes
use Rattle.std.proofs.Common.{◌≡◌, ℕ, ◌<◌, ◌^◌, ℤ, pos, negsuc, unsigned_abs, ◌≤ℤ◌, List, [], ◌∷◌, map, Bool, true, false, ◌||◌, refl, ap, ◌∙◌, All, arith}
use Rattle.std.proofs.lemmas.Int.{ints}
use Rattle.std.proofs.lemmas.Bool.Decides.{nat_tests}
use Rattle.std.proofs.lemmas.List.Elements.{All-nil, All-cons, All-head, All-tail}
use Rattle.std.specs.List.{list_any}
use Rattle.cert_text.specs.Lines.{is_far, is_below}

pub record IsCount (n : ℤ) : Type 0 where
  pub low : pos 0 ≤ℤ n
  pub high : n ≤ℤ pos 4_294_967_295

pub count_is : (n : ℤ) → pos 0 ≤ℤ n → pos (unsigned_abs n) ≡ n
count_is (pos k) h = refl
count_is (negsuc k) h = absurd (omega (arith, ints, h))

pub count_small : (n : ℤ) → IsCount n → unsigned_abs n < 2 ^ 32
count_small (pos k) c = omega (arith, ints, c.high)
count_small (negsuc k) c = absurd (omega (arith, ints, c.low))

pub neither : (a b : Bool) → (a || b) ≡ false → (a ≡ false) × (b ≡ false)
neither true b e = absurd cc
neither false b e = (refl, e)

pub all_counts : (ns : List ℤ) → list_any is_below ns ≡ false → list_any is_far ns ≡ false → All IsCount ns
all_counts [] b f = All-nil IsCount
all_counts (n ∷ ns) b f =
    let below = neither (is_below n) (list_any is_below ns) b in
    let far = neither (is_far n) (list_any is_far ns) f in
    let low = below.0 in
    let high = far.0 in
    All-cons IsCount n ns (record { low = grind (arith, nat_tests, ints, low); high = grind (arith, nat_tests, ints, high) }) (all_counts ns below.1 far.1)

pub counted : (ns : List ℤ) → All IsCount ns → map pos (map unsigned_abs ns) ≡ ns
counted [] all = refl
counted (n ∷ ns) all =
    ap (λ k. k ∷ map pos (map unsigned_abs ns)) (count_is n (All-head IsCount n ns all).low) ∙ ap (λ l. n ∷ l) (counted ns (All-tail IsCount n ns all))

pub again : (ks : List ℕ) → map unsigned_abs (map pos ks) ≡ ks
again [] = refl
again (k ∷ ks) = ap (λ l. k ∷ l) (again ks)

pub all_small : (ns : List ℤ) → All IsCount ns → All (λ k. k < 2 ^ 32) (map unsigned_abs ns)
all_small [] all = All-nil (λ (k : ℕ). k < 2 ^ 32)
all_small (n ∷ ns) all = All-cons (λ (k : ℕ). k < 2 ^ 32) (unsigned_abs n) (map unsigned_abs ns) (count_small n (All-head IsCount n ns all)) (all_small ns (All-tail IsCount n ns all))

pub none_below : (ks : List ℕ) → list_any is_below (map pos ks) ≡ false
none_below [] = refl
none_below (k ∷ ks) =
    let h : is_below (pos k) ≡ false = grind (arith, nat_tests, ints) in
    rw (h, none_below ks) refl

pub none_far : (ks : List ℕ) → All (λ k. k < 2 ^ 32) ks → list_any is_far (map pos ks) ≡ false
none_far [] all = refl
none_far (k ∷ ks) all =
    let low : k < 2 ^ 32 = All-head (λ (k : ℕ). k < 2 ^ 32) k ks all in
    let h : is_far (pos k) ≡ false = grind (arith, nat_tests, ints, low) in
    rw (h, none_far ks (All-tail (λ (k : ℕ). k < 2 ^ 32) k ks all)) refl
