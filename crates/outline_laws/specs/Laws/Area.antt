-- A list with area has three corners or more.
--
--   three_of_area     what lies within two corners lies on their line, so a list that has area has a third corner
use Rattle.std.proofs.Common.{◌≡◌, ◌≤◌, List, [], ◌∷◌, length, refl, sym, subst, arith, ℤ, pos, neg_ℤ, ◌-ℤ◌, ◌*ℤ◌, ◌≤ℤ◌, ◌<ℤ◌, ◌⊎◌, inl, inr}
use Rattle.std.proofs.lemmas.Int.{ints}
use Rattle.integer_laws.specs.Laws.Ring.{expand}
use Rattle.integer_laws.specs.Laws.Order.{le_of_same, lt_from, same_from, add_le, add_lt_le, add_same, mul_positive, mul_same}
use Rattle.integer_laws.specs.Members.{In}
use Rattle.integer_laws.specs.Laws.Members.{All-in, In-from_contains}
use Rattle.seq_model.specs.declared.printer.Spot.{Spot}
use Rattle.model_laws.specs.Laws.Turning.{before_cases, least_by_list}
use Rattle.outline_laws.specs.Corners.{turn, IsBefore, HasArea}
use Rattle.seq_model.specs.Points.{at_spot}
use Rattle.outline_laws.specs.Laws.Vectors.{turn_flipped, turn_start, turn_end}
use Rattle.outline_laws.specs.Hulls.{Hull}
use Rattle.outline_laws.specs.Laws.Within.{seen_within, no_mean, one_corner}

-- a vector that neither u nor v turns away from, and that points east or north, leaves u and v on one line
no_turn : (dx dy ux uy vx vy : ℤ) → dx *ℤ vy -ℤ dy *ℤ vx ≡ pos 0 → dx *ℤ uy -ℤ dy *ℤ ux ≡ pos 0 → (pos 0 <ℤ dx) ⊎ (pos 0 <ℤ dy) → pos 0 <ℤ (ux *ℤ vy -ℤ uy *ℤ vx) → ⊥
no_turn dx dy ux uy vx vy e f (inl h) t =
    let never : pos 0 <ℤ pos 0 = lt_from (add_lt_le (mul_positive dx (ux *ℤ vy -ℤ uy *ℤ vx) h t) (add_le (le_of_same (mul_same ux e)) (le_of_same (mul_same (neg_ℤ vx) f)))) (simp expand (omega (arith, ints))) in
    absurd (omega (arith, ints, never))
no_turn dx dy ux uy vx vy e f (inr h) t =
    let never : pos 0 <ℤ pos 0 = lt_from (add_lt_le (mul_positive dy (ux *ℤ vy -ℤ uy *ℤ vx) h t) (add_le (le_of_same (mul_same uy e)) (le_of_same (mul_same (neg_ℤ vy) f)))) (simp expand (omega (arith, ints))) in
    absurd (omega (arith, ints, never))

along : (a b i k : Spot) → turn a b i ≡ pos 0 → turn a b k ≡ pos 0 → (b.x -ℤ a.x) *ℤ (k.y -ℤ i.y) -ℤ (b.y -ℤ a.y) *ℤ (k.x -ℤ i.x) ≡ pos 0
along a b i k e f = same_from (add_same f (mul_same (neg_ℤ (pos 1)) e)) (simp expand (omega (arith, ints)))

ahead : (a b : Spot) → IsBefore a b → (pos 0 <ℤ (b.x -ℤ a.x)) ⊎ (pos 0 <ℤ (b.y -ℤ a.y))
ahead a b h = pick (before_cases a b h)
  where
    pick : (a.x <ℤ b.x) ⊎ ((a.x ≡ b.x) × (a.y <ℤ b.y)) → (pos 0 <ℤ (b.x -ℤ a.x)) ⊎ (pos 0 <ℤ (b.y -ℤ a.y))
    pick (inl l) = inl (omega (arith, ints))
    pick (inr l) = let g = l.1 in inr (omega (arith, ints))

-- what lies within two corners lies on their line
on_line : (S : List Spot) (a b : Spot) → Hull S (a ∷ b ∷ []) → (s : Spot) → In s S → turn a b s ≡ pos 0
on_line S a b h s i =
    let left = seen_within a b (a ∷ b ∷ []) (seen a b) s (h.keeps.within s i) in
    let right = seen_within b a (a ∷ b ∷ []) (unseen a b) s (h.keeps.within s i) in
    same a b s left right
  where
    seen : (a b x : Spot) → In x (a ∷ b ∷ []) → pos 0 ≤ℤ turn a b x
    seen a b x (inl e) = subst (λ y. pos 0 ≤ℤ turn a b y) (sym e) (let z = turn_start a b in omega (arith, ints))
    seen a b x (inr (inl e)) = subst (λ y. pos 0 ≤ℤ turn a b y) (sym e) (let z = turn_end a b in omega (arith, ints))
    seen a b x (inr (inr i)) = absurd i

    unseen : (a b x : Spot) → In x (a ∷ b ∷ []) → pos 0 ≤ℤ turn b a x
    unseen a b x (inl e) = subst (λ y. pos 0 ≤ℤ turn b a y) (sym e) (let z = turn_end b a in omega (arith, ints))
    unseen a b x (inr (inl e)) = subst (λ y. pos 0 ≤ℤ turn b a y) (sym e) (let z = turn_start b a in omega (arith, ints))
    unseen a b x (inr (inr i)) = absurd i

    same : (a b s : Spot) → pos 0 ≤ℤ turn a b s → pos 0 ≤ℤ turn b a s → turn a b s ≡ pos 0
    same a b s p q = let e = turn_flipped a b s in omega (arith, ints, e)

-- a list with area has three corners or more
pub three_of_area : (S C : List Spot) → Hull S C → HasArea S → 3 ≤ length C
three_of_area S [] h g = absurd (no_mean (at_spot g.i) (h.keeps.within g.i (In-from_contains S g.i g.i_in)))
three_of_area S (a ∷ []) h g = absurd (flat a g.i g.j g.k (one_corner S a h g.i (In-from_contains S g.i g.i_in)) (one_corner S a h g.j (In-from_contains S g.j g.j_in)) g.turns)
  where
    still : (a k : Spot) → pos 0 <ℤ turn a a k → ⊥
    still a k t = let never : pos 0 <ℤ pos 0 = lt_from t (simp expand (omega (arith, ints))) in absurd (omega (arith, ints, never))

    flat : (a i j k : Spot) → i ≡ a → j ≡ a → pos 0 <ℤ turn i j k → ⊥
    flat a i j k e f t = still a k (subst (λ y. pos 0 <ℤ turn a y k) f (subst (λ y. pos 0 <ℤ turn y j k) e t))
three_of_area S (a ∷ b ∷ []) h g =
    let i = on_line S a b h g.i (In-from_contains S g.i g.i_in) in
    let j = on_line S a b h g.j (In-from_contains S g.j g.j_in) in
    let k = on_line S a b h g.k (In-from_contains S g.k g.k_in) in
    absurd (no_turn (b.x -ℤ a.x) (b.y -ℤ a.y) (g.j.x -ℤ g.i.x) (g.j.y -ℤ g.i.y) (g.k.x -ℤ g.i.x) (g.k.y -ℤ g.i.y) (along a b g.i g.k i k) (along a b g.i g.j i j)
    (ahead a b (All-in (IsBefore a) (b ∷ []) b (least_by_list (a ∷ b ∷ []) h.corners) (inl refl))) g.turns)
three_of_area S (a ∷ b ∷ c ∷ cs) h g = omega arith
