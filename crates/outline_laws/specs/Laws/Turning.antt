-- A closed way that turns left at each corner, once around its lowest one, turns left at any three of its corners.
--
--   LeftAbout o vs      the corners stand counterclockwise about o (a word of `model_laws`)
--   about_lowest        corners that go counterclockwise about o one by one, all above it, do so for any two
--   LocallyLeft vs      the way along vs turns left at each corner between
--   any_three           then any three of vs turn left
use Rattle.std.proofs.Common.{◌≡◌, List, [], ◌∷◌, refl, sym, subst, arith, ℤ, pos, ◌+ℤ◌, ◌-ℤ◌, ◌*ℤ◌, ◌≤ℤ◌, ◌<ℤ◌, inl, inr}
use Rattle.std.proofs.lemmas.Int.{ints}
use Rattle.std.proofs.lemmas.List.Elements.{All-nil}
use Rattle.integer_laws.specs.Laws.Ring.{expand}
use Rattle.integer_laws.specs.Laws.Order.{same_from, lt_from, mul_positive, cancel_lt}
use Rattle.integer_laws.specs.Members.{In}
use Rattle.integer_laws.specs.Laws.Members.{All-in, All-from_in}
use Rattle.seq_model.specs.declared.printer.Spot.{Spot}
use Rattle.outline_laws.specs.Corners.{turn, LeftAbout, TurnsLeft}
use Rattle.outline_laws.specs.Laws.Vectors.{less, cross, height, rises, turn_from, strictly_between}
use Rattle.outline_laws.specs.Laws.Polygons.{Steps}

-- ---- about the lowest corner
left_on : (hx hy : ℤ) (o u v w : Spot) → height hx hy o <ℤ height hx hy u → height hx hy o <ℤ height hx hy v → height hx hy o <ℤ height hx hy w → pos 0 <ℤ turn o u v → pos 0 <ℤ turn o v w → pos 0 <ℤ turn o u w
left_on hx hy o u v w p q r h k =
    rw (turn_from o u w)
    (strictly_between hx hy (less u o) (less v o) (less w o) (rises hx hy o v q) (weak _ (rises hx hy o u p)) (rises hx hy o w r) (rw (sym (turn_from o u v)) h) (rw (sym (turn_from o v w)) (weak _ k)))
  where
    weak : (n : ℤ) → pos 0 <ℤ n → pos 0 ≤ℤ n
    weak n h = omega (arith, ints)

left_of_all : (hx hy : ℤ) (o u v : Spot) (vs : List Spot) → height hx hy o <ℤ height hx hy u → ((s : Spot) → In s (v ∷ vs) → height hx hy o <ℤ height hx hy s) → pos 0 <ℤ turn o u v → Steps (λ a b. pos 0 <ℤ turn o a b) v vs
    → (s : Spot) → In s (v ∷ vs) → pos 0 <ℤ turn o u s
left_of_all hx hy o u v vs p up h t s (inl e) = subst (λ x. pos 0 <ℤ turn o u x) (sym e) h
left_of_all hx hy o u v [] p up h t s (inr i) = absurd i
left_of_all hx hy o u v (w ∷ ws) p up h t s (inr i) =
    left_of_all hx hy o u w ws p (λ x j. up x (inr j)) (left_on hx hy o u v w p (up v (inl refl)) (up w (inr (inl refl))) h t.0) t.1 s i

pub about_lowest : (hx hy : ℤ) (o u : Spot) (vs : List Spot) → ((s : Spot) → In s (u ∷ vs) → height hx hy o <ℤ height hx hy s) → Steps (λ a b. pos 0 <ℤ turn o a b) u vs → LeftAbout o (u ∷ vs)
about_lowest hx hy o u [] up t = (All-nil (λ c. pos 0 <ℤ turn o u c), tt)
about_lowest hx hy o u (v ∷ vs) up t =
    (All-from_in (λ c. pos 0 <ℤ turn o u c) (v ∷ vs) (left_of_all hx hy o u v vs (up u (inl refl)) (λ s i. up s (inr i)) t.0 t.1), about_lowest hx hy o v vs (λ s i. up s (inr i)) t.1)

-- ---- about each corner
abbrev pub LocallyLeft : List Spot → Type 0
LocallyLeft [] = Unit {0}
LocallyLeft (a ∷ []) = Unit {0}
LocallyLeft (a ∷ b ∷ []) = Unit {0}
LocallyLeft (a ∷ b ∷ c ∷ cs) = (pos 0 <ℤ turn a b c) × LocallyLeft (b ∷ c ∷ cs)

-- four corners a, b, c, d in order about o
plucker : (a b c d : Spot) → cross a b *ℤ cross c d +ℤ cross b c *ℤ cross a d ≡ cross a c *ℤ cross b d
plucker a b c d = simp expand (omega (arith, ints))

apart : (o a b c : Spot) → turn a b c ≡ (cross (less a o) (less b o) +ℤ cross (less b o) (less c o)) -ℤ cross (less a o) (less c o)
apart o a b c = simp expand (omega (arith, ints))

first_sum : (ab ac ad bc bd cd : ℤ) → ab *ℤ cd +ℤ bc *ℤ ad ≡ ac *ℤ bd → bc *ℤ ((ab +ℤ bd) -ℤ ad) ≡ ab *ℤ ((bc +ℤ cd) -ℤ bd) +ℤ bd *ℤ ((ab +ℤ bc) -ℤ ac)
first_sum ab ac ad bc bd cd e = same_from (sym e) (simp expand (omega (arith, ints)))

last_sum : (ab ac ad bc bd cd : ℤ) → ab *ℤ cd +ℤ bc *ℤ ad ≡ ac *ℤ bd → bc *ℤ ((ac +ℤ cd) -ℤ ad) ≡ cd *ℤ ((ab +ℤ bc) -ℤ ac) +ℤ ac *ℤ ((bc +ℤ cd) -ℤ bd)
last_sum ab ac ad bc bd cd e = same_from (sym e) (simp expand (omega (arith, ints)))

four_first : (o a b c d : Spot) → turn o b c *ℤ turn a b d ≡ turn o a b *ℤ turn b c d +ℤ turn o b d *ℤ turn a b c
four_first o a b c d =
    rw (turn_from o a b, turn_from o b c, turn_from o b d, apart o a b d, apart o b c d, apart o a b c)
    (let x = less a o in let y = less b o in let z = less c o in let w = less d o in first_sum (cross x y) (cross x z) (cross x w) (cross y z) (cross y w) (cross z w) (plucker x y z w))

four_last : (o a b c d : Spot) → turn o b c *ℤ turn a c d ≡ turn o c d *ℤ turn a b c +ℤ turn o a c *ℤ turn b c d
four_last o a b c d =
    rw (turn_from o b c, turn_from o c d, turn_from o a c, apart o a c d, apart o a b c, apart o b c d)
    (let x = less a o in let y = less b o in let z = less c o in let w = less d o in last_sum (cross x y) (cross x z) (cross x w) (cross y z) (cross y w) (cross z w) (plucker x y z w))

by_four : (k t m n p q : ℤ) → pos 0 <ℤ k → pos 0 <ℤ m → pos 0 <ℤ n → pos 0 <ℤ p → pos 0 <ℤ q → k *ℤ t ≡ m *ℤ n +ℤ p *ℤ q → pos 0 <ℤ t
by_four k t m n p q hk hm hn hp hq e =
    let a = mul_positive m n hm hn in
    let b = mul_positive p q hp hq in
    cancel_lt k hk (lt_from (add_lt a b) (rw e (simp expand (omega (arith, ints)))))
  where
    add_lt : {a b c d : ℤ} → a <ℤ b → c <ℤ d → (a +ℤ c) <ℤ (b +ℤ d)
    add_lt h k = omega (arith, ints)

-- the edge from a to b has all later corners to its left
edge_left : (o a b : Spot) (cs : List Spot) → LeftAbout o (a ∷ b ∷ cs) → LocallyLeft (a ∷ b ∷ cs) → LeftAbout b cs → (d : Spot) → In d cs → pos 0 <ℤ turn a b d
edge_left o a b [] l t f d i = absurd i
edge_left o a b (c ∷ cs) l t f d (inl e) = subst (λ x. pos 0 <ℤ turn a b x) (sym e) t.0
edge_left o a b (c ∷ cs) l t f d (inr i) =
    by_four (turn o b c) (turn a b d) (turn o a b) (turn b c d) (turn o b d) (turn a b c) (All-in (λ x. pos 0 <ℤ turn o b x) (c ∷ cs) c l.1.0 (inl refl)) (All-in (λ x. pos 0 <ℤ turn o a x) (b ∷ c ∷ cs) b l.0 (inl refl))
    (All-in (λ x. pos 0 <ℤ turn b c x) cs d f.0 i) (All-in (λ x. pos 0 <ℤ turn o b x) (c ∷ cs) d l.1.0 (inr i)) t.0 (four_first o a b c d)

-- and so any two later corners stand counterclockwise about a
about_first : (o a b : Spot) (cs : List Spot) → ((x : Spot) → In x cs → pos 0 <ℤ turn o a x) → ((x : Spot) → In x cs → pos 0 <ℤ turn o b x) → LeftAbout o cs → ((d : Spot) → In d cs → pos 0 <ℤ turn a b d) → LeftAbout b cs → LeftAbout a cs
about_first o a b [] oa ob l e f = tt
about_first o a b (x ∷ ds) oa ob l e f = (
  All-from_in (λ d. pos 0 <ℤ turn a x d) ds (λ d i. by_four (turn o b x) (turn a x d) (turn o x d) (turn a b x) (turn o a x) (turn b x d) (ob x (inl refl)) (All-in (λ y. pos 0 <ℤ turn o x y) ds d l.0 i) (e x (inl refl)) (oa x (inl refl)) (All-in (λ y. pos 0 <ℤ turn b x y) ds d f.0 i) (four_last o a b x d)),
  about_first o a b ds (λ y i. oa y (inr i)) (λ y i. ob y (inr i)) l.1 (λ d i. e d (inr i)) f.1,
)

pub any_three : (o : Spot) (vs : List Spot) → LeftAbout o vs → LocallyLeft vs → TurnsLeft vs
any_three o [] l t = tt
any_three o (a ∷ []) l t = (tt, tt)
any_three o (a ∷ b ∷ []) l t = ((All-nil (λ c. pos 0 <ℤ turn a b c), tt), (tt, tt))
any_three o (a ∷ b ∷ c ∷ cs) l t =
    let rest = any_three o (b ∷ c ∷ cs) l.1 t.1 in
    let edge = edge_left o a b (c ∷ cs) l t rest.0 in (
      (
        All-from_in (λ d. pos 0 <ℤ turn a b d) (c ∷ cs) edge,
        about_first o a b (c ∷ cs) (λ x i. All-in (λ y. pos 0 <ℤ turn o a y) (b ∷ c ∷ cs) x l.0 (inr i)) (λ x i. All-in (λ y. pos 0 <ℤ turn o b y) (c ∷ cs) x l.1.0 i) l.1.1 edge rest.0,
      ),
      rest,
    )
