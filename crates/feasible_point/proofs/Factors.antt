-- The greatest number that divides all multipliers, one multiplier more.
use Rattle.std.proofs.Common.{◌≡◌, ℕ, ◌+◌, ◌<◌, ◌≤◌, List, [], ◌∷◌, ◌++◌, length, get_or, take, take_all, All, refl, ap, sym, subst, arith, ℤ, pos, ◌≤ℤ◌, unsigned_abs, inl}
use Rattle.std.proofs.lemmas.Int.{ints, by_lt_z}
use Rattle.std.proofs.lemmas.List.{take_more}
use Rattle.std.proofs.lemmas.List.Elements.{All-push, All-head}
use Rattle.std.proofs.Math.Nat.{zero-dvd}
use Rattle.std.specs.Int.{◌∣◌}
use Rattle.integer_laws.specs.Divisors.{IsGcdOf}
use Rattle.integer_laws.specs.Laws.Divisors.{divides_gcd}
use Rattle.integer_laws.specs.Laws.Members.{All-in, All-from_in, In-append_left, In-append_right}
use Rattle.integer_laws.specs.Laws.Order.{one_le}
use Rattle.row_pivots.specs.Laws.Turned.{divides_self}
use Rattle.feasible_point.specs.Shortening.{Divides, IsFactor, IsTaking}
use Rattle.seq_model.specs.declared.tree.Mult.{Mult}

pub factor_more : (ms : List Mult) (i : ℕ) (found g : ℤ) (d : Mult) → i < length ms → IsFactor (take i ms) found → IsGcdOf found (get_or ms i d).times g → IsFactor (take (i + 1) ms) g
factor_more ms i found g d h c is k = (there, back)
  where
    m : Mult
    m = get_or ms i d

    more : take (i + 1) ms ≡ take i ms ++ m ∷ []
    more = take_more ms i d h

    there : k ∣ unsigned_abs g → Divides k (take (i + 1) ms)
    there v =
        let both = (divides_gcd found m.times g k is).0 v in
        subst (Divides k) (sym more) (All-push (λ (m : Mult). k ∣ unsigned_abs m.times) (take i ms) m ((c k).0 both.0) both.1)

    back : Divides k (take (i + 1) ms) → k ∣ unsigned_abs g
    back p =
        let all : Divides k (take i ms ++ m ∷ []) = subst (Divides k) more p in
        let front = All-from_in (λ (m : Mult). k ∣ unsigned_abs m.times) (take i ms) (λ y j. All-in (λ (m : Mult). k ∣ unsigned_abs m.times) (take i ms ++ m ∷ []) y all (In-append_left (take i ms) (m ∷ []) y j)) in
        let last = All-in (λ (m : Mult). k ∣ unsigned_abs m.times) (take i ms ++ m ∷ []) m all (In-append_right (take i ms) (m ∷ []) m (inl refl)) in
        (divides_gcd found m.times g k is).1 ((c k).1 front, last)

pub factor_all : (ms : List Mult) (i : ℕ) (g : ℤ) → length ms ≤ i → IsFactor (take i ms) g → IsFactor ms g
factor_all ms i g h c = subst (λ (t : List Mult). IsFactor t g) (take_all i ms h) c

pub factor_some : (ms : List Mult) (g : ℤ) → 0 < length ms → All IsTaking ms → IsFactor ms g → pos 0 ≤ℤ g → pos 1 ≤ℤ g
factor_some [] g h all is n = absurd (omega (arith, h))
factor_some (m ∷ ms) g h all is n = by_lt_z (pos 0) g (λ k. one_le k) (λ k. absurd (zero (omega (arith, ints, k, n))))
  where
    some : (x : ℤ) → pos 1 ≤ℤ x → unsigned_abs x ≡ 0 → ⊥
    some x k e = absurd (omega (arith, ints, k, e))

    zero : g ≡ pos 0 → ⊥
    zero e = some m.times (All-head IsTaking m ms all).0 (zero-dvd.0 (All-head (λ (m : Mult). 0 ∣ unsigned_abs m.times) m ms ((is 0).0 (subst (λ t. 0 ∣ t) (sym (ap unsigned_abs e)) (divides_self 0)))))
