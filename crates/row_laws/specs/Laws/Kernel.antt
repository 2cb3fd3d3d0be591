-- Fewer equations than unknowns have a solution that isn't zero.
--
--   Kernel n vs     a list of n numbers, not all 0, whose products with all vectors of the list are 0
--   kernel          there is one where the vectors are fewer than n
use Rattle.std.proofs.Common.{◌≡◌, ℕ, zero, suc, ◌<◌, List, [], ◌∷◌, length, map, get_or, drop, refl, ap, sym, ◌∙◌, arith, ℤ, pos, negsuc, neg_ℤ, ◌+ℤ◌, ◌-ℤ◌, ◌*ℤ◌, ◌⊎◌, inl, inr}
use Rattle.std.proofs.lemmas.Int.{ints}
use Rattle.std.proofs.lemmas.List.{length-map, length-replicate}
use Rattle.integer_laws.specs.Members.{In}
use Rattle.integer_laws.specs.Laws.Members.{In-map}
use Rattle.integer_laws.specs.Laws.Order.{cancel_same}
use Rattle.integer_laws.specs.Laws.Ring.{expand}
use Rattle.integer_laws.specs.Vectors.{dot, scale, combined, zeros}
use Rattle.integer_laws.specs.Laws.Vectors.{dot_comm, dot-scale, dot-combined, dot-zeros, get_or-scale, length-scale}

pub record Kernel (n : ℕ) (vs : List (List ℤ)) : Type 0 where
  pub u : List ℤ
  pub long : length u ≡ n
  pub place : ℕ
  pub some : get_or u place (pos 0) ≡ pos 0 → ⊥
  pub none : (v : List ℤ) → In v vs → dot v u ≡ pos 0

pub zero_or_not : (x : ℤ) → (x ≡ pos 0) ⊎ (x ≡ pos 0 → ⊥)
zero_or_not (pos zero) = inl refl
zero_or_not (pos (suc n)) = inr (λ e. absurd (omega (arith, ints, e)))
zero_or_not (negsuc n) = inr (λ e. absurd (omega (arith, ints, e)))

pub cancel_factor : (t x : ℤ) → (t ≡ pos 0 → ⊥) → t *ℤ x ≡ pos 0 → x ≡ pos 0
cancel_factor (pos zero) x h e = absurd (h refl)
cancel_factor (pos (suc n)) x h e = cancel_same (pos (suc n)) (omega (arith, ints)) (e ∙ sym (nothing (pos (suc n))))
  where
    nothing : (t : ℤ) → t *ℤ pos 0 ≡ pos 0
    nothing t = simp expand
cancel_factor (negsuc n) x h e = cancel_same (neg_ℤ (negsuc n)) (omega (arith, ints)) (turned (negsuc n) x e)
  where
    turned : (t x : ℤ) → t *ℤ x ≡ pos 0 → neg_ℤ t *ℤ x ≡ neg_ℤ t *ℤ pos 0
    turned t x e = (let zero : neg_ℤ t *ℤ pos 0 ≡ pos 0 = simp expand in let n : neg_ℤ t *ℤ x ≡ neg_ℤ (t *ℤ x) = simp expand in n ∙ ap neg_ℤ e ∙ sym zero)

-- ---- the first entry, and the rest
abbrev first : List ℤ → ℤ
first v = get_or v 0 (pos 0)

abbrev rest : List ℤ → List ℤ
rest v = drop 1 v

by_first : (v : List ℤ) (x : ℤ) (u : List ℤ) → dot v (x ∷ u) ≡ first v *ℤ x +ℤ dot (rest v) u
by_first [] x u = simp expand
by_first (y ∷ v) x u = refl

-- a vector whose first entry isn't 0, and the others
record Pivot (vs : List (List ℤ)) : Type 0 where
  p : List ℤ
  some : first p ≡ pos 0 → ⊥
  others : List (List ℤ)
  many : length vs ≡ suc (length others)
  apart : (v : List ℤ) → In v vs → (v ≡ p) ⊎ In v others

find : (vs : List (List ℤ)) → ((v : List ℤ) → In v vs → first v ≡ pos 0) ⊎ Pivot vs
find [] = inl (λ v i. absurd i)
find (p ∷ vs) = by (zero_or_not (first p)) (find vs)
  where
    by : ((first p ≡ pos 0) ⊎ (first p ≡ pos 0 → ⊥)) → (((v : List ℤ) → In v vs → first v ≡ pos 0) ⊎ Pivot vs) → ((v : List ℤ) → In v (p ∷ vs) → first v ≡ pos 0) ⊎ Pivot (p ∷ vs)
    by (inr n) f = inr (record { p = p; some = n; others = vs; many = refl; apart = λ v i. i })
    by (inl e) (inl all) = inl every
      where
        every : (v : List ℤ) → In v (p ∷ vs) → first v ≡ pos 0
        every v (inl s) = ap first s ∙ e
        every v (inr i) = all v i
    by (inl e) (inr q) = inr (record { p = q.p; some = q.some; others = p ∷ q.others; many = ap suc q.many; apart = where_is })
      where
        where_is : (v : List ℤ) → In v (p ∷ vs) → (v ≡ q.p) ⊎ In v (p ∷ q.others)
        where_is v (inl s) = inr (inl s)
        where_is v (inr i) = further (q.apart v i)
          where
            further : ((v ≡ q.p) ⊎ In v q.others) → (v ≡ q.p) ⊎ In v (p ∷ q.others)
            further (inl s) = inl s
            further (inr j) = inr (inr j)

-- the first entry taken away by the pivot
abbrev reduced : List ℤ → List ℤ → List ℤ
reduced p v = combined (first p) (first v) (rest v) (rest p)

pub kernel : (n : ℕ) (vs : List (List ℤ)) → length vs < n → Kernel n vs
kernel zero vs h = absurd (omega (arith, h))
kernel (suc n) vs h = by (find vs) (λ q. kernel n (map (reduced q.p) q.others) (omega (arith, h, q.many, length-map q.others (reduced q.p))))
  where
    all_first : ((v : List ℤ) → In v vs → first v ≡ pos 0) → (v : List ℤ) → In v vs → dot v (pos 1 ∷ zeros n) ≡ pos 0
    all_first all v i = by_first v (pos 1) (zeros n) ∙ settle (first v) (dot (rest v) (zeros n)) (all v i) (dot_comm (rest v) (zeros n) ∙ dot-zeros n (rest v))
      where
        settle : (a b : ℤ) → a ≡ pos 0 → b ≡ pos 0 → a *ℤ pos 1 +ℤ b ≡ pos 0
        settle a b e f = rw (e, f) refl

    solved : (q : Pivot vs) → Kernel n (map (reduced q.p) q.others) → Kernel (suc n) vs
    solved q k = record {
      u = neg_ℤ (dot (rest q.p) k.u) ∷ scale (first q.p) k.u;
      long = ap suc (length-scale (first q.p) k.u ∙ k.long);
      place = suc k.place;
      some = λ e. k.some (cancel_factor (first q.p) (get_or k.u k.place (pos 0)) q.some (sym (get_or-scale (first q.p) k.u k.place) ∙ e));
      none = λ v i. each v (q.apart v i);
    }
      where
        at : (v : List ℤ) → dot v (neg_ℤ (dot (rest q.p) k.u) ∷ scale (first q.p) k.u) ≡ first v *ℤ neg_ℤ (dot (rest q.p) k.u) +ℤ first q.p *ℤ dot (rest v) k.u
        at v =
            by_first v (neg_ℤ (dot (rest q.p) k.u)) (scale (first q.p) k.u)
            ∙ ap (λ t. first v *ℤ neg_ℤ (dot (rest q.p) k.u) +ℤ t) (dot_comm (rest v) (scale (first q.p) k.u) ∙ dot-scale (first q.p) k.u (rest v) ∙ ap (λ t. first q.p *ℤ t) (dot_comm k.u (rest v)))

        cancels : (a d : ℤ) → a *ℤ neg_ℤ d +ℤ a *ℤ d ≡ pos 0
        cancels a d = simp expand (omega (arith, ints))

        turned : (a b d c : ℤ) → a *ℤ neg_ℤ d +ℤ b *ℤ c ≡ b *ℤ c -ℤ a *ℤ d
        turned a b d c = simp expand (omega (arith, ints))

        each : (v : List ℤ) → ((v ≡ q.p) ⊎ In v q.others) → dot v (neg_ℤ (dot (rest q.p) k.u) ∷ scale (first q.p) k.u) ≡ pos 0
        each v (inl s) = ap (λ w. dot w (neg_ℤ (dot (rest q.p) k.u) ∷ scale (first q.p) k.u)) s ∙ at q.p ∙ cancels (first q.p) (dot (rest q.p) k.u)
        each v (inr i) =
            at v ∙ turned (first v) (first q.p) (dot (rest q.p) k.u) (dot (rest v) k.u)
            ∙ sym (dot-combined (first q.p) (first v) (rest v) (rest q.p) k.u)
            ∙ k.none (reduced q.p v) (In-map (reduced q.p) q.others v i)

    by : (((v : List ℤ) → In v vs → first v ≡ pos 0) ⊎ Pivot vs) → ((q : Pivot vs) → Kernel n (map (reduced q.p) q.others)) → Kernel (suc n) vs
    by (inl all) smaller = record { u = pos 1 ∷ zeros n; long = ap suc (length-replicate n (pos 0)); place = 0; some = λ e. absurd (omega (arith, ints, e)); none = all_first all }
    by (inr q) smaller = solved q (smaller q)
