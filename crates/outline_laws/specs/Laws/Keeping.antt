-- When corners stand for a list.
--
--   keeps_as           a list with the same members is kept by the same corners
--   segment            a list on one line is kept by its two ends
--   short_hull         no point, or one, is its own outline
use Rattle.std.proofs.Common.{◌≡◌, ◌<◌, List, [], ◌∷◌, length, sym, subst, arith, ℤ, pos, neg_ℤ, ◌+ℤ◌, ◌-ℤ◌, ◌*ℤ◌, ◌≤ℤ◌, ◌<ℤ◌, inl, inr}
use Rattle.std.proofs.lemmas.Int.{ints}
use Rattle.std.proofs.lemmas.List.Elements.{All-nil}
use Rattle.integer_laws.specs.Laws.Ring.{expand}
use Rattle.integer_laws.specs.Laws.Order.{same_from, mul_same}
use Rattle.integer_laws.specs.Members.{In}
use Rattle.seq_model.specs.declared.printer.Spot.{Spot}
use Rattle.seq_model.specs.Points.{Point, IsPoint, at_spot}
use Rattle.seq_model.specs.Outlines.{IsMean, Inner, Within}
use Rattle.model_laws.specs.Laws.Turning.{corners_by_list}
use Rattle.outline_laws.specs.Hulls.{Keeps, Hull}
use Rattle.outline_laws.specs.Corners.{turn, turn_at, IsBefore}
use Rattle.outline_laws.specs.Laws.Vectors.{height, opposite}
use Rattle.outline_laws.specs.Laws.Means.{inner_below, inner_level, inner_of_corners, same_members, member_within}

pub keeps_as : (A B C : List Spot) → ((s : Spot) → In s A → In s B) → ((s : Spot) → In s B → In s A) → Keeps A C → Keeps B C
keeps_as A B C i j o = record {
  members = λ s k. i s (o.members s k);
  within = λ s k. o.within s (j s k);
  to_list = λ q m. same_members A B q i j (o.to_list q m);
  to_corners = λ q m. o.to_corners q (same_members B A q j i m);
}

keeps_itself : (S : List Spot) → Keeps S S
keeps_itself S = record { members = λ s i. i; within = λ s i. member_within s S i; to_list = λ q m. m; to_corners = λ q m. m }

pub short_hull : (S : List Spot) → length S < 2 → Hull S S
short_hull [] h = record { corners = corners_by_list [] tt tt; keeps = keeps_itself [] }
short_hull (s ∷ []) h = record { corners = corners_by_list (s ∷ []) (All-nil (IsBefore s)) (tt, tt); keeps = keeps_itself (s ∷ []) }
short_hull (s ∷ p ∷ ps) h = absurd (omega arith)

-- ---- on one line
abbrev along : ℤ → ℤ → Point → ℤ
along hx hy q = hx *ℤ q.x +ℤ hy *ℤ q.y

end_x : (hx hy : ℤ) (t b : Spot) (q : Point) → turn_at t b q ≡ pos 0
    → q.d *ℤ ((height hx hy b *ℤ q.d -ℤ along hx hy q) *ℤ t.x +ℤ ((along hx hy q -ℤ height hx hy t *ℤ q.d) *ℤ b.x +ℤ pos 0)) ≡ q.x *ℤ ((height hx hy b *ℤ q.d -ℤ along hx hy q) *ℤ pos 1 +ℤ ((along hx hy q -ℤ height hx hy t *ℤ q.d) *ℤ pos 1 +ℤ pos 0))
end_x hx hy t b q e = same_from (mul_same (q.d *ℤ hy) e) (simp expand (omega (arith, ints)))

end_y : (hx hy : ℤ) (t b : Spot) (q : Point) → turn_at t b q ≡ pos 0
    → q.d *ℤ ((height hx hy b *ℤ q.d -ℤ along hx hy q) *ℤ t.y +ℤ ((along hx hy q -ℤ height hx hy t *ℤ q.d) *ℤ b.y +ℤ pos 0)) ≡ q.y *ℤ ((height hx hy b *ℤ q.d -ℤ along hx hy q) *ℤ pos 1 +ℤ ((along hx hy q -ℤ height hx hy t *ℤ q.d) *ℤ pos 1 +ℤ pos 0))
end_y hx hy t b q e = same_from (mul_same (neg_ℤ (q.d *ℤ hx)) e) (simp expand (omega (arith, ints)))

-- the weights of two ends are the distances from the other one
pub mean_of_ends : (least hx hy : ℤ) (t b : Spot) (q : Point) → IsPoint q → turn_at t b q ≡ pos 0 → pos 0 <ℤ ((height hx hy b *ℤ q.d -ℤ along hx hy q) +ℤ (along hx hy q -ℤ height hx hy t *ℤ q.d))
    → least ≤ℤ (height hx hy b *ℤ q.d -ℤ along hx hy q) → least ≤ℤ (along hx hy q -ℤ height hx hy t *ℤ q.d) → IsMean least (t ∷ b ∷ []) q
mean_of_ends least hx hy t b q is e p h k =
    record {
      point = is;
      w = (height hx hy b *ℤ q.d -ℤ along hx hy q) ∷ (along hx hy q -ℤ height hx hy t *ℤ q.d) ∷ [];
      weights = (h, (k, tt));
      some = some_is (height hx hy b *ℤ q.d -ℤ along hx hy q) (along hx hy q -ℤ height hx hy t *ℤ q.d) p;
      x = end_x hx hy t b q e;
      y = end_y hx hy t b q e;
    }
  where
    some_is : (m n : ℤ) → pos 0 <ℤ (m +ℤ n) → pos 1 ≤ℤ (m *ℤ pos 1 +ℤ (n *ℤ pos 1 +ℤ pos 0))
    some_is m n p = omega (arith, ints)

pub on_segment : (t b : Spot) (S : List Spot) (q : Point) → ((s : Spot) → In s S → turn t b s ≡ pos 0) → Inner S q → turn_at t b q ≡ pos 0
on_segment t b S q h m =
    let x = t.y -ℤ b.y in
    let y = b.x -ℤ t.x in
    same_from (inner_level x y (x *ℤ t.x +ℤ y *ℤ t.y) S q (λ s i. level t b s (h s i)) m) (simp expand (omega (arith, ints)))
  where
    level : (t b s : Spot) → turn t b s ≡ pos 0 → (t.y -ℤ b.y) *ℤ s.x +ℤ (b.x -ℤ t.x) *ℤ s.y ≡ (t.y -ℤ b.y) *ℤ t.x +ℤ (b.x -ℤ t.x) *ℤ t.y
    level t b s e = same_from e (simp expand (omega (arith, ints)))

pub segment : (hx hy : ℤ) (S : List Spot) (t b : Spot) → height hx hy t <ℤ height hx hy b → In t S → In b S → ((s : Spot) → In s S → turn t b s ≡ pos 0)
    → ((s : Spot) → In s S → height hx hy s ≤ℤ height hx hy b) → ((s : Spot) → In s S → height hx hy t ≤ℤ height hx hy s) → Keeps S (t ∷ b ∷ [])
segment hx hy S t b up ti bi flat top low =
    record { members = members; within = within; to_list = λ q m. inner_of_corners (t ∷ b ∷ []) S q members within m; to_corners = inner }
  where
    members : (s : Spot) → In s (t ∷ b ∷ []) → In s S
    members s (inl e) = subst (λ u. In u S) (sym e) ti
    members s (inr (inl e)) = subst (λ u. In u S) (sym e) bi
    members s (inr (inr i)) = absurd i

    at_is : (s : Spot) → turn t b s ≡ pos 0 → turn_at t b (at_spot s) ≡ pos 0
    at_is s e = same_from e (simp expand (omega (arith, ints)))

    first : (m n : ℤ) → n ≤ℤ m → pos 0 ≤ℤ (m *ℤ pos 1 -ℤ n)
    first m n h = omega (arith, ints)

    second : (m n : ℤ) → n ≤ℤ m → pos 0 ≤ℤ (m -ℤ n *ℤ pos 1)
    second m n h = omega (arith, ints)

    some : (m n o : ℤ) → n <ℤ m → pos 0 <ℤ ((m *ℤ pos 1 -ℤ o) +ℤ (o -ℤ n *ℤ pos 1))
    some m n o h = omega (arith, ints)

    within : (s : Spot) → In s S → Within (t ∷ b ∷ []) (at_spot s)
    within s i =
        let h = height hx hy s in
        mean_of_ends (pos 0) hx hy t b (at_spot s) (record { positive = omega (arith, ints) }) (at_is s (flat s i)) (some (height hx hy b) (height hx hy t) h up) (first (height hx hy b) h (top s i)) (second h (height hx hy t) (low s i))

    over : (m n : ℤ) → n <ℤ m → pos 1 ≤ℤ (m -ℤ n)
    over m n h = omega (arith, ints)

    sum : (m n : ℤ) → pos 1 ≤ℤ m → pos 1 ≤ℤ n → pos 0 <ℤ (m +ℤ n)
    sum m n h k = omega (arith, ints)

    turned : (hx hy qx qy g d : ℤ) → (neg_ℤ hx *ℤ qx +ℤ neg_ℤ hy *ℤ qy) <ℤ (neg_ℤ g *ℤ d) → (g *ℤ d) <ℤ (hx *ℤ qx +ℤ hy *ℤ qy)
    turned hx hy qx qy g d h =
        let e : neg_ℤ hx *ℤ qx +ℤ neg_ℤ hy *ℤ qy ≡ neg_ℤ (hx *ℤ qx +ℤ hy *ℤ qy) = simp expand (omega (arith, ints)) in
        let f : neg_ℤ g *ℤ d ≡ neg_ℤ (g *ℤ d) = simp expand (omega (arith, ints)) in
        omega (arith, ints)

    falls : (m n o : ℤ) → m ≡ neg_ℤ n → o ≤ℤ n → m ≤ℤ neg_ℤ o
    falls m n o e h = omega (arith, ints)

    falls_more : (m n o : ℤ) → m ≡ neg_ℤ n → o <ℤ n → m <ℤ neg_ℤ o
    falls_more m n o e h = omega (arith, ints)

    inner : (q : Point) → Inner S q → Inner (t ∷ b ∷ []) q
    inner q m =
        let nx = neg_ℤ hx in
        let ny = neg_ℤ hy in
        let below = inner_below hx hy (height hx hy b) S q top t ti up m in
        let g = neg_ℤ (height hx hy t) in
        let above = turned hx hy q.x q.y (height hx hy t) q.d (inner_below nx ny g S q (λ s i. falls (height nx ny s) (height hx hy s) (height hx hy t) (opposite hx hy s) (low s i)) b bi (falls_more (height nx ny b) (height hx hy b) (height hx hy t) (opposite hx hy b) up) m) in
        let h = over (height hx hy b *ℤ q.d) (along hx hy q) below in
        let k = over (along hx hy q) (height hx hy t *ℤ q.d) above in
        mean_of_ends (pos 1) hx hy t b q m.point (on_segment t b S q flat m) (sum (height hx hy b *ℤ q.d -ℤ along hx hy q) (along hx hy q -ℤ height hx hy t *ℤ q.d) h k) h k
