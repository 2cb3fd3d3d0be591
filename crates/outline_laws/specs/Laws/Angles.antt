-- Directions by their angle.
--
--   crossed d e               more than 0 where e lies to the left of d
--   IsDirection d             not (0, 0)
--   IsLower d                 in the second half of a turn
--   HaveSameAngle d e         neither is before the other
--   compare_angles            of two directions one is before the other, or they have the same angle
--   lesser_trans              before what is before
--   lesser_congr              and with the same angle
--   one_primitive             two primitive directions of one angle are the same
--   lesser_reduced            reducing changes no angle
use Rattle.std.proofs.Common.{◌≡◌, sym, subst, ◌∙◌, arith, ℤ, pos, neg_ℤ, ◌+ℤ◌, ◌-ℤ◌, ◌*ℤ◌, ◌≤ℤ◌, ◌<ℤ◌, ◌⊎◌, inl, inr, ◌↔◌}
use Rattle.std.proofs.lemmas.Int.{ints, by_lt_z}
use Rattle.integer_laws.specs.Laws.Ring.{expand}
use Rattle.integer_laws.specs.Laws.Order.{lt_from, same_from, le_of_same, add_same, add_lt_le, mul_same, mul_nonneg, mul_positive, cancel_lt, cancel_same}
use Rattle.integer_laws.specs.Divisors.{Reduces, IsPrimitive}
use Rattle.seq_model.specs.declared.tree.Dir.{Dir}
use Rattle.seq_model.specs.Sides.{IsUpper, HasLesserAngle}
use Rattle.outline_laws.specs.Laws.Sides.{not_both}
use Rattle.outline_laws.specs.Laws.Edges.{norm_positive, same_ahead}
pub use Rattle.outline_laws.specs.Directions.{crossed, IsDirection, HaveSameAngle}

abbrev pub IsLower : Dir → Type 0
IsLower d = (d.y <ℤ pos 0) ⊎ ((d.y ≡ pos 0) × (d.x <ℤ pos 0))

pub upper_or_lower : (d : Dir) → IsDirection d → IsUpper d ⊎ IsLower d
upper_or_lower d n = by_lt_z (pos 0) d.y (λ h. inl (inl h)) (λ h. by_lt_z d.y (pos 0) (λ k. inr (inl k)) (λ k. level (omega (arith, ints))))
  where
    level : d.y ≡ pos 0 → IsUpper d ⊎ IsLower d
    level e = by_lt_z (pos 0) d.x (λ h. inl (inr (e, h))) (λ h. by_lt_z d.x (pos 0) (λ k. inr (inr (e, k))) (λ k. absurd (n (omega (arith, ints)) e)))

pub not_upper : (d : Dir) → IsLower d → IsUpper d → ⊥
not_upper d (inl h) (inl k) = absurd (omega (arith, ints))
not_upper d (inl h) (inr k) = let e = k.0 in absurd (omega (arith, ints))
not_upper d (inr h) (inl k) = let e = h.0 in absurd (omega (arith, ints))
not_upper d (inr h) (inr k) = let l = h.1 in let m = k.1 in absurd (omega (arith, ints))

-- ---- within one half of a turn
never_less : {P : Type 0} → pos 0 <ℤ pos 0 → P
never_less h = absurd (omega (arith, ints))

-- the last of three points up
last_up : (nx ny dx dy : ℤ) → pos 0 ≤ℤ ny → pos 0 ≤ℤ dy → (dy ≡ pos 0 → pos 0 <ℤ dx) → pos 0 <ℤ (nx *ℤ dy -ℤ ny *ℤ dx) → pos 0 <ℤ dy
last_up nx ny dx dy n d level c = by_lt_z (pos 0) dy (λ h. h) (λ h. none (omega (arith, ints)))
  where
    none : dy ≡ pos 0 → pos 0 <ℤ dy
    none e =
        let p = level e in
        let q = mul_nonneg ny dx n (omega (arith, ints)) in
        never_less (lt_from (add_lt_le (add_lt_le c (le_of_same (mul_same nx e))) q) (simp expand (omega (arith, ints))))

-- the middle one does, where the first does
middle_up : (bx by nx ny : ℤ) → pos 0 ≤ℤ ny → pos 0 <ℤ by → (ny ≡ pos 0 → pos 0 <ℤ nx) → pos 0 ≤ℤ (bx *ℤ ny -ℤ by *ℤ nx) → pos 0 <ℤ ny
middle_up bx by nx ny n b level c = by_lt_z (pos 0) ny (λ h. h) (λ h. none (omega (arith, ints)))
  where
    none : ny ≡ pos 0 → pos 0 <ℤ ny
    none e =
        let q = mul_positive by nx b (level e) in
        never_less (lt_from (add_lt_le (add_lt_le q c) (le_of_same (mul_same bx e))) (simp expand (omega (arith, ints))))

in_turn : (bx by nx ny dx dy : ℤ) → pos 0 ≤ℤ by → (by ≡ pos 0 → pos 0 <ℤ bx) → pos 0 ≤ℤ ny → (ny ≡ pos 0 → pos 0 <ℤ nx) → pos 0 ≤ℤ dy → (dy ≡ pos 0 → pos 0 <ℤ dx)
    → pos 0 ≤ℤ (bx *ℤ ny -ℤ by *ℤ nx) → pos 0 <ℤ (nx *ℤ dy -ℤ ny *ℤ dx) → pos 0 <ℤ (bx *ℤ dy -ℤ by *ℤ dx)
in_turn bx by nx ny dx dy b bl n nl d dl first second = by_lt_z (pos 0) by rising (λ h. level (omega (arith, ints)))
  where
    up : pos 0 <ℤ dy
    up = last_up nx ny dx dy n d dl second

    level : by ≡ pos 0 → pos 0 <ℤ (bx *ℤ dy -ℤ by *ℤ dx)
    level e = lt_from (add_lt_le (mul_positive bx dy (bl e) up) (le_of_same (mul_same dx e))) (simp expand (omega (arith, ints)))

    rising : pos 0 <ℤ by → pos 0 <ℤ (bx *ℤ dy -ℤ by *ℤ dx)
    rising h =
        let m = middle_up bx by nx ny n h nl first in
        cancel_lt ny m (lt_from (add_lt_le (mul_positive by _ h second) (mul_nonneg dy _ d first)) (simp expand (omega (arith, ints))))

upper_y : (d : Dir) → IsUpper d → pos 0 ≤ℤ d.y
upper_y d (inl h) = omega (arith, ints)
upper_y d (inr h) = let e = h.0 in omega (arith, ints)

upper_x : (d : Dir) → IsUpper d → d.y ≡ pos 0 → pos 0 <ℤ d.x
upper_x d (inl h) e = absurd (omega (arith, ints))
upper_x d (inr h) e = h.1

lower_y : (d : Dir) → IsLower d → pos 0 ≤ℤ neg_ℤ d.y
lower_y d (inl h) = omega (arith, ints)
lower_y d (inr h) = let e = h.0 in omega (arith, ints)

lower_x : (d : Dir) → IsLower d → neg_ℤ d.y ≡ pos 0 → pos 0 <ℤ neg_ℤ d.x
lower_x d (inl h) e = absurd (omega (arith, ints))
lower_x d (inr h) e = let l = h.1 in omega (arith, ints)

in_half : (b n d : Dir) → IsDirection b → IsDirection n → IsDirection d → (IsUpper b ↔ IsUpper n) → (IsUpper n ↔ IsUpper d) → pos 0 ≤ℤ crossed b n → pos 0 <ℤ crossed n d → pos 0 <ℤ crossed b d
in_half b n d nb nn nd bn nd' first second = pick (upper_or_lower b nb) (upper_or_lower n nn) (upper_or_lower d nd)
  where
    turned : (x y v w : ℤ) → neg_ℤ x *ℤ neg_ℤ w -ℤ neg_ℤ y *ℤ neg_ℤ v ≡ x *ℤ w -ℤ y *ℤ v
    turned x y v w = simp expand (omega (arith, ints))

    pick : IsUpper b ⊎ IsLower b → IsUpper n ⊎ IsLower n → IsUpper d ⊎ IsLower d → pos 0 <ℤ crossed b d
    pick (inl p) (inl q) (inl r) = in_turn b.x b.y n.x n.y d.x d.y (upper_y b p) (upper_x b p) (upper_y n q) (upper_x n q) (upper_y d r) (upper_x d r) first second
    pick (inr p) (inr q) (inr r) =
        subst (λ t. pos 0 <ℤ t) (turned b.x b.y d.x d.y)
        (in_turn (neg_ℤ b.x) (neg_ℤ b.y) (neg_ℤ n.x) (neg_ℤ n.y) (neg_ℤ d.x) (neg_ℤ d.y) (lower_y b p) (lower_x b p) (lower_y n q) (lower_x n q) (lower_y d r) (lower_x d r)
        (subst (λ t. pos 0 ≤ℤ t) (sym (turned b.x b.y n.x n.y)) first) (subst (λ t. pos 0 <ℤ t) (sym (turned n.x n.y d.x d.y)) second))
    pick (inl p) (inr q) r = absurd (not_upper n q (bn.0 p))
    pick (inr p) (inl q) r = absurd (not_upper b p (bn.1 q))
    pick p (inl q) (inr r) = absurd (not_upper d r (nd'.0 q))
    pick p (inr q) (inl r) = absurd (not_upper n q (nd'.1 r))

-- ---- the order
pub compare_angles : (d e : Dir) → IsDirection d → IsDirection e → HasLesserAngle d e ⊎ (HaveSameAngle d e ⊎ HasLesserAngle e d)
compare_angles d e n m = pick (upper_or_lower d n) (upper_or_lower e m)
  where
    turned : crossed e d ≡ neg_ℤ (crossed d e)
    turned = simp expand (omega (arith, ints))

    one_half : (IsUpper d ↔ IsUpper e) → HasLesserAngle d e ⊎ (HaveSameAngle d e ⊎ HasLesserAngle e d)
    one_half same = by_lt_z (pos 0) (crossed d e) (λ h. inl (inr (same, h))) (λ h. by_lt_z (crossed d e) (pos 0) (λ k. inr (inr (inr ((same.1, same.0), back k)))) (λ k. inr (inl (same, zero_of h k))))
      where
        back : crossed d e <ℤ pos 0 → pos 0 <ℤ crossed e d
        back k = let t = turned in omega (arith, ints, t, k)

        zero_of : {n : ℤ} → n ≤ℤ pos 0 → pos 0 ≤ℤ n → n ≡ pos 0
        zero_of h k = omega (arith, ints)

    pick : IsUpper d ⊎ IsLower d → IsUpper e ⊎ IsLower e → HasLesserAngle d e ⊎ (HaveSameAngle d e ⊎ HasLesserAngle e d)
    pick (inl p) (inl q) = one_half (λ k. q, λ k. p)
    pick (inl p) (inr q) = inl (inl (p, not_upper e q))
    pick (inr p) (inl q) = inr (inr (inl (q, not_upper d p)))
    pick (inr p) (inr q) = one_half (λ k. absurd (not_upper d p k), λ k. absurd (not_upper e q k))

pub lesser_trans : (b n d : Dir) → IsDirection b → IsDirection n → IsDirection d → HasLesserAngle b n → HasLesserAngle n d → HasLesserAngle b d
lesser_trans b n d nb nn nd (inl p) (inl q) = absurd (p.1 q.0)
lesser_trans b n d nb nn nd (inl p) (inr q) = inl (p.0, λ k. p.1 (q.0.1 k))
lesser_trans b n d nb nn nd (inr p) (inl q) = inl (p.0.1 q.0, q.1)
lesser_trans b n d nb nn nd (inr p) (inr q) = inr ((λ k. q.0.0 (p.0.0 k), λ k. p.0.1 (q.0.1 k)), in_half b n d nb nn nd p.0 q.0 (weak p.1) q.1)
  where
    weak : {n : ℤ} → pos 0 <ℤ n → pos 0 ≤ℤ n
    weak h = omega (arith, ints)

pub lesser_congr : (b n d : Dir) → IsDirection b → IsDirection n → IsDirection d → HaveSameAngle b n → HasLesserAngle n d → HasLesserAngle b d
lesser_congr b n d nb nn nd s (inl q) = inl (s.0.1 q.0, q.1)
lesser_congr b n d nb nn nd s (inr q) = inr ((λ k. q.0.0 (s.0.0 k), λ k. s.0.1 (q.0.1 k)), in_half b n d nb nn nd s.0 q.0 (weak s.1) q.1)
  where
    weak : {n : ℤ} → n ≡ pos 0 → pos 0 ≤ℤ n
    weak h = omega (arith, ints)

pub lesser_not_back : (d e : Dir) → HasLesserAngle d e → HasLesserAngle e d → ⊥
lesser_not_back d e (inl p) (inl q) = q.1 p.0
lesser_not_back d e (inl p) (inr q) = p.1 (q.0.1 p.0)
lesser_not_back d e (inr p) (inl q) = q.1 (p.0.1 q.0)
lesser_not_back d e (inr p) (inr q) = never_less (lt_from (add_lt_le p.1 (weak q.1)) (simp expand (omega (arith, ints))))
  where
    weak : {n : ℤ} → pos 0 <ℤ n → pos 0 ≤ℤ n
    weak h = omega (arith, ints)

pub same_not_lesser : (d e : Dir) → HaveSameAngle d e → HasLesserAngle d e → ⊥
same_not_lesser d e s (inl p) = p.1 (s.0.0 p.0)
same_not_lesser d e s (inr p) = let h = s.1 in let k = p.1 in absurd (omega (arith, ints, h, k))

-- ---- reduced directions
pub reduced_direction : (n d : Dir) → Reduces n.x n.y d.x d.y → IsDirection d
reduced_direction n d r e f = not_both d.x d.y r.primitive e f

upper_times : (k x y v w : ℤ) → pos 0 <ℤ k → v ≡ k *ℤ x → w ≡ k *ℤ y → (pos 0 <ℤ y) ⊎ ((y ≡ pos 0) × (pos 0 <ℤ x)) → (pos 0 <ℤ w) ⊎ ((w ≡ pos 0) × (pos 0 <ℤ v))
upper_times k x y v w p e f (inl h) = inl (subst (λ t. pos 0 <ℤ t) (sym f) (mul_positive k y p h))
upper_times k x y v w p e f (inr h) = inr (f ∙ same_from (mul_same k h.0) (simp expand (omega (arith, ints))), subst (λ t. pos 0 <ℤ t) (sym e) (mul_positive k x p h.1))

upper_over : (k x y v w : ℤ) → pos 0 <ℤ k → v ≡ k *ℤ x → w ≡ k *ℤ y → (pos 0 <ℤ w) ⊎ ((w ≡ pos 0) × (pos 0 <ℤ v)) → (pos 0 <ℤ y) ⊎ ((y ≡ pos 0) × (pos 0 <ℤ x))
upper_over k x y v w p e f (inl h) = inl (cancel_lt k p (lt_from (subst (λ t. pos 0 <ℤ t) f h) (simp expand (omega (arith, ints)))))
upper_over k x y v w p e f (inr h) = inr (cancel_same k p (same_from (sym f ∙ h.0) (simp expand (omega (arith, ints)))), cancel_lt k p (lt_from (subst (λ t. pos 0 <ℤ t) e h.1) (simp expand (omega (arith, ints)))))

pub same_reduced : (n d : Dir) → Reduces n.x n.y d.x d.y → HaveSameAngle n d
same_reduced n d r = ((upper_over r.k d.x d.y n.x n.y r.positive r.x_is r.y_is, upper_times r.k d.x d.y n.x n.y r.positive r.x_is r.y_is), zero_of)
  where
    zero_of : crossed n d ≡ pos 0
    zero_of = same_from (add_same (mul_same d.y r.x_is) (mul_same (neg_ℤ d.x) r.y_is)) (simp expand (omega (arith, ints)))

pub same_turned : (d e : Dir) → HaveSameAngle d e → HaveSameAngle e d
same_turned d e s = ((s.0.1, s.0.0), same_from (mul_same (neg_ℤ (pos 1)) s.1) (simp expand (omega (arith, ints))))

pub lesser_congr_right : (b n d : Dir) → IsDirection b → IsDirection n → IsDirection d → HasLesserAngle b n → HaveSameAngle n d → HasLesserAngle b d
lesser_congr_right b n d nb nn nd l s = pick (compare_angles b d nb nd)
  where
    pick : HasLesserAngle b d ⊎ (HaveSameAngle b d ⊎ HasLesserAngle d b) → HasLesserAngle b d
    pick (inl h) = h
    pick (inr (inl h)) = absurd (same_not_lesser d n (same_turned n d s) (lesser_congr d b n nd nb nn (same_turned b d h) l))
    pick (inr (inr h)) = absurd (same_not_lesser d n (same_turned n d s) (lesser_trans d b n nd nb nn h l))

-- ---- one primitive direction for an angle
pub one_primitive : (d e : Dir) → IsPrimitive d.x d.y → IsPrimitive e.x e.y → HaveSameAngle d e → d ≡ e
one_primitive d e p q s = same_ahead d e p q (same_from (mul_same (neg_ℤ (pos 1)) s.1) (simp expand (omega (arith, ints)))) (pick (upper_or_lower d (λ a b. not_both d.x d.y p a b)) (upper_or_lower e (λ a b. not_both e.x e.y q a b)))
  where
    -- up and on one line, so ahead
    ahead : (a b c g : ℤ) → pos 0 ≤ℤ b → (b ≡ pos 0 → pos 0 <ℤ a) → pos 0 ≤ℤ g → (g ≡ pos 0 → pos 0 <ℤ c) → a *ℤ g -ℤ b *ℤ c ≡ pos 0 → pos 0 <ℤ (c *ℤ c +ℤ g *ℤ g) → pos 0 <ℤ (a *ℤ c +ℤ b *ℤ g)
    ahead a b c g nb lb ng lg z norm = by_lt_z (pos 0) g high (λ h. level (omega (arith, ints)))
      where
        level : g ≡ pos 0 → pos 0 <ℤ (a *ℤ c +ℤ b *ℤ g)
        level e = by_lt_z (pos 0) b (λ h. never_less (lt_from (add_lt_le (mul_positive b c h (lg e)) (le_of_same (sym (add_same z (mul_same (neg_ℤ a) e))))) (simp expand (omega (arith, ints))))) (λ h. flat (omega (arith, ints)))
          where
            flat : b ≡ pos 0 → pos 0 <ℤ (a *ℤ c +ℤ b *ℤ g)
            flat f = lt_from (add_lt_le (mul_positive a c (lb f) (lg e)) (le_of_same (mul_same (neg_ℤ g) f))) (simp expand (omega (arith, ints)))

        high : pos 0 <ℤ g → pos 0 <ℤ (a *ℤ c +ℤ b *ℤ g)
        high h = by_lt_z (pos 0) b (λ k. cancel_lt g h (lt_from (add_lt_le (mul_positive _ b norm k) (le_of_same (mul_same (neg_ℤ c) z))) (simp expand (omega (arith, ints))))) (λ k. flat (omega (arith, ints)))
          where
            flat : b ≡ pos 0 → pos 0 <ℤ (a *ℤ c +ℤ b *ℤ g)
            flat f = never_less (lt_from (add_lt_le (mul_positive a g (lb f) h) (le_of_same (add_same z (mul_same c f)))) (simp expand (omega (arith, ints))))

    turned_norm : (a b : ℤ) → neg_ℤ a *ℤ neg_ℤ a +ℤ neg_ℤ b *ℤ neg_ℤ b ≡ a *ℤ a +ℤ b *ℤ b
    turned_norm a b = simp expand (omega (arith, ints))

    turned_dot : (a b c g : ℤ) → neg_ℤ a *ℤ neg_ℤ c +ℤ neg_ℤ b *ℤ neg_ℤ g ≡ a *ℤ c +ℤ b *ℤ g
    turned_dot a b c g = simp expand (omega (arith, ints))

    turned_cross : (a b c g : ℤ) → neg_ℤ a *ℤ neg_ℤ g -ℤ neg_ℤ b *ℤ neg_ℤ c ≡ a *ℤ g -ℤ b *ℤ c
    turned_cross a b c g = simp expand (omega (arith, ints))

    pick : IsUpper d ⊎ IsLower d → IsUpper e ⊎ IsLower e → pos 0 <ℤ (d.x *ℤ e.x +ℤ d.y *ℤ e.y)
    pick (inl h) (inl k) = ahead d.x d.y e.x e.y (upper_y d h) (upper_x d h) (upper_y e k) (upper_x e k) s.1 (norm_positive e.x e.y q)
    pick (inr h) (inr k) =
        subst (λ t. pos 0 <ℤ t) (turned_dot d.x d.y e.x e.y)
        (ahead (neg_ℤ d.x) (neg_ℤ d.y) (neg_ℤ e.x) (neg_ℤ e.y) (lower_y d h) (lower_x d h) (lower_y e k) (lower_x e k) (turned_cross d.x d.y e.x e.y ∙ s.1) (subst (λ t. pos 0 <ℤ t) (sym (turned_norm e.x e.y)) (norm_positive e.x e.y q)))
    pick (inl h) (inr k) = absurd (not_upper e k (s.0.0 h))
    pick (inr h) (inl k) = absurd (not_upper d h (s.0.1 k))
