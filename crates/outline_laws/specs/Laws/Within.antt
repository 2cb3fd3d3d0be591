-- What holds of the corners of an outline, and of those of a list.
--
--   no_three_on_a_line              three different corners don't lie on one line
--   polygon_turns, polygon_sees     three corners or more: the way around turns left at each, and each edge sees all corners
--   left_of_polygon, inner_polygon  the points that are inner to the corners are those to the left of all edges
--   seen_within                     what is within corners that all lie to the left of a way lies there too
--   seen_by_edges                   no member of a list lies to the right of an edge of its polygon
--   area_of_three                   a list with three corners or more has area
--   within_above, within_below      what is within corners from o on, or up to o, is not before o, or not after it
--   no_mean, one_corner             nothing is within no corners, and within one lies just itself
--   ends_of_line                    the corners of a list without area are its ends
use Rattle.std.proofs.Common.{◌≡◌, List, [], ◌∷◌, refl, sym, subst, ◌∙◌, arith, ℤ, pos, neg_ℤ, ◌+ℤ◌, ◌-ℤ◌, ◌*ℤ◌, ◌≤ℤ◌, ◌<ℤ◌, ◌⊎◌, inl, inr}
use Rattle.std.proofs.lemmas.Int.{ints}
use Rattle.integer_laws.specs.Laws.Ring.{expand}
use Rattle.integer_laws.specs.Laws.Order.{le_from}
use Rattle.integer_laws.specs.Members.{In}
use Rattle.integer_laws.specs.Laws.Members.{All-in, All-from_in, Contains-from_in}
use Rattle.seq_model.specs.declared.printer.Spot.{Spot}
use Rattle.seq_model.specs.Points.{Point, IsPoint, at_spot}
use Rattle.seq_model.specs.Outlines.{Inner, Within}
use Rattle.model_laws.specs.Laws.Turning.{least_by_list, left_by_list}
use Rattle.outline_laws.specs.Corners.{turn, IsBefore, LeftAbout, TurnsLeft, HasArea, IsBetween, AreEnds}
use Rattle.outline_laws.specs.Laws.Vectors.{height, opposite, turn_round, turn_flipped, turn_start, turn_end}
use Rattle.outline_laws.specs.Laws.Means.{within_at_most}
use Rattle.outline_laws.specs.Laws.Polygons.{last_of, Steps, TurnsAlong, Seen, IsLeft, left_of_inner, inner_of_left}
use Rattle.outline_laws.specs.Hulls.{Hull}
use Rattle.outline_laws.specs.Laws.EveryList.{Bounded, bounded, Wide, wide_of, higher, Compared, compared}

-- ---- no three on a line
-- where the three stand in the list
turns_about : (a b c : Spot) (cs : List Spot) → LeftAbout a cs → In b cs → In c cs → (b ≡ c) ⊎ ((pos 0 <ℤ turn a b c) ⊎ (pos 0 <ℤ turn a c b))
turns_about a b c [] l i j = absurd i
turns_about a b c (x ∷ xs) l (inl e) (inl f) = inl (e ∙ sym f)
turns_about a b c (x ∷ xs) l (inl e) (inr j) = inr (inl (subst (λ y. pos 0 <ℤ turn a y c) (sym e) (All-in (λ y. pos 0 <ℤ turn a x y) xs c l.0 j)))
turns_about a b c (x ∷ xs) l (inr i) (inl f) = inr (inr (subst (λ y. pos 0 <ℤ turn a y b) (sym f) (All-in (λ y. pos 0 <ℤ turn a x y) xs b l.0 i)))
turns_about a b c (x ∷ xs) l (inr i) (inr j) = turns_about a b c xs l.1 i j

abbrev Bent : Spot → Spot → Spot → Type 0
Bent a b c = turn a b c ≡ pos 0 → ⊥

bent_left : (a b c : Spot) → pos 0 <ℤ turn a b c → Bent a b c
bent_left a b c h e = absurd (omega (arith, ints))

bent_right : (a b c : Spot) → pos 0 <ℤ turn a c b → Bent a b c
bent_right a b c h e = let f = turn_flipped a c b in let g = turn_round c a b in absurd (omega (arith, ints))

bent_round : (a b c : Spot) → Bent b c a → Bent a b c
bent_round a b c h e = h (sym (turn_round a b c) ∙ e)

bent_about : (x b c : Spot) (xs : List Spot) → LeftAbout x xs → In b xs → In c xs → (b ≡ c → ⊥) → Bent x b c
bent_about x b c xs l i j n = pick (turns_about x b c xs l i j)
  where
    pick : ((b ≡ c) ⊎ ((pos 0 <ℤ turn x b c) ⊎ (pos 0 <ℤ turn x c b))) → Bent x b c
    pick (inl e) = absurd (n e)
    pick (inr (inl h)) = bent_left x b c h
    pick (inr (inr h)) = bent_right x b c h

pub no_three_on_a_line : (C : List Spot) → TurnsLeft C → (a b c : Spot) → In a C → In b C → In c C → (a ≡ b → ⊥) → (b ≡ c → ⊥) → (a ≡ c → ⊥) → turn a b c ≡ pos 0 → ⊥
no_three_on_a_line [] t a b c i j k ab bc ac = absurd i
no_three_on_a_line (x ∷ xs) t a b c (inl e) (inl f) k ab bc ac = absurd (ab (e ∙ sym f))
no_three_on_a_line (x ∷ xs) t a b c (inl e) (inr j) (inl g) ab bc ac = absurd (ac (e ∙ sym g))
no_three_on_a_line (x ∷ xs) t a b c (inl e) (inr j) (inr k) ab bc ac = subst (λ y. Bent y b c) (sym e) (bent_about x b c xs t.0 j k bc)
no_three_on_a_line (x ∷ xs) t a b c (inr i) (inl f) (inl g) ab bc ac = absurd (bc (f ∙ sym g))
no_three_on_a_line (x ∷ xs) t a b c (inr i) (inl f) (inr k) ab bc ac = bent_round a b c (subst (λ y. Bent y c a) (sym f) (bent_about x c a xs t.0 k i (λ e. ac (sym e))))
no_three_on_a_line (x ∷ xs) t a b c (inr i) (inr j) (inl g) ab bc ac = bent_round a b c (bent_round b c a (subst (λ y. Bent y a b) (sym g) (bent_about x a b xs t.0 i j ab)))
no_three_on_a_line (x ∷ xs) t a b c (inr i) (inr j) (inr k) ab bc ac = no_three_on_a_line xs t.1 a b c i j k ab bc ac

-- ---- the way around three corners or more
along : (o u : Spot) (vs : List Spot) → LeftAbout o (u ∷ vs) → TurnsLeft (u ∷ vs) → TurnsAlong u vs o
along o u [] l t = tt
along o u (v ∷ []) l t = (closes (All-in (λ x. pos 0 <ℤ turn o u x) (v ∷ []) v l.0 (inl refl)), tt)
  where
    closes : pos 0 <ℤ turn o u v → pos 0 <ℤ turn u v o
    closes h = let e = turn_round o u v in omega (arith, ints)
along o u (v ∷ w ∷ ws) l t = (All-in (λ x. pos 0 <ℤ turn u v x) (w ∷ ws) w t.0.0 (inl refl), along o v (w ∷ ws) l.1 t.1)

last_in : (u : Spot) (vs : List Spot) → In (last_of u vs) (u ∷ vs)
last_in u [] = inl refl
last_in u (v ∷ vs) = inr (last_in v vs)

pub polygon_turns : (a b c : Spot) (cs : List Spot) → TurnsLeft (a ∷ b ∷ c ∷ cs) → TurnsAlong (last_of c cs) (a ∷ b ∷ c ∷ cs) a
polygon_turns a b c cs t = (
  closes (last_of c cs) (All-in (λ x. pos 0 <ℤ turn a b x) (c ∷ cs) (last_of c cs) t.0.0 (last_in c cs)),
  (All-in (λ x. pos 0 <ℤ turn a b x) (c ∷ cs) c t.0.0 (inl refl), along a b (c ∷ cs) t.0 t.1),
)
  where
    closes : (z : Spot) → pos 0 <ℤ turn a b z → pos 0 <ℤ turn z a b
    closes z h = let e = turn_round z a b in omega (arith, ints)

-- each edge has x to its left, or on it
seen_before : (x u : Spot) (vs : List Spot) → LeftAbout x (u ∷ vs) → Steps (λ a b. pos 0 ≤ℤ turn a b x) u vs
seen_before x u [] l = tt
seen_before x u (v ∷ vs) l = (weak (All-in (λ y. pos 0 <ℤ turn x u y) (v ∷ vs) v l.0 (inl refl)), seen_before x v vs l.1)
  where
    weak : pos 0 <ℤ turn x u v → pos 0 ≤ℤ turn u v x
    weak h = let e = turn_round x u v in omega (arith, ints)

seen_on : (x u : Spot) (vs : List Spot) → TurnsLeft (u ∷ vs) → In x (u ∷ vs) → Steps (λ a b. pos 0 ≤ℤ turn a b x) u vs
seen_on x u [] t i = tt
seen_on x u (v ∷ vs) t (inl e) = subst (λ y. Steps (λ a b. pos 0 ≤ℤ turn a b y) u (v ∷ vs)) (sym e) (start u v, seen_before u v vs t.0)
  where
    start : (u v : Spot) → pos 0 ≤ℤ turn u v u
    start u v = let z = turn_start u v in omega (arith, ints)
seen_on x u (v ∷ vs) t (inr (inl e)) = (subst (λ y. pos 0 ≤ℤ turn u v y) (sym e) (end u v), seen_on x v vs t.1 (inl e))
  where
    end : (u v : Spot) → pos 0 ≤ℤ turn u v v
    end u v = let z = turn_end u v in omega (arith, ints)
seen_on x u (v ∷ vs) t (inr (inr i)) = (weak _ (All-in (λ y. pos 0 <ℤ turn u v y) vs x t.0.0 i), seen_on x v vs t.1 (inr i))
  where
    weak : (n : ℤ) → pos 0 <ℤ n → pos 0 ≤ℤ n
    weak n h = omega (arith, ints)

about_last : (o x d : Spot) (ds : List Spot) → LeftAbout o (d ∷ ds) → In x (d ∷ ds) → pos 0 ≤ℤ turn o x (last_of d ds)
about_last o x d [] l (inl e) = subst (λ y. pos 0 ≤ℤ turn o y d) (sym e) (let z = turn_end o d in omega (arith, ints))
about_last o x d [] l (inr i) = absurd i
about_last o x d (f ∷ fs) l (inl e) = subst (λ y. pos 0 ≤ℤ turn o y (last_of f fs)) (sym e) (weak _ (All-in (λ y. pos 0 <ℤ turn o d y) (f ∷ fs) (last_of f fs) l.0 (last_in f fs)))
  where
    weak : (n : ℤ) → pos 0 <ℤ n → pos 0 ≤ℤ n
    weak n h = omega (arith, ints)
about_last o x d (f ∷ fs) l (inr i) = about_last o x f fs l.1 i

closing_edge : (a d : Spot) (ds : List Spot) → LeftAbout a (d ∷ ds) → (x : Spot) → In x (a ∷ d ∷ ds) → pos 0 ≤ℤ turn (last_of d ds) a x
closing_edge a d ds l x (inl e) = subst (λ y. pos 0 ≤ℤ turn (last_of d ds) a y) (sym e) (let z = turn_end (last_of d ds) a in omega (arith, ints))
closing_edge a d ds l x (inr i) = let h = about_last a x d ds l i in let e = turn_round (last_of d ds) a x in omega (arith, ints)

all_seen : (S : List Spot) (u : Spot) (vs : List Spot) → ((s : Spot) → In s S → Steps (λ a b. pos 0 ≤ℤ turn a b s) u vs) → Steps (Seen S) u vs
all_seen S u [] h = tt
all_seen S u (v ∷ vs) h = (λ s i. (h s i).0, all_seen S v vs (λ s i. (h s i).1))

pub polygon_sees : (a b c : Spot) (cs : List Spot) → TurnsLeft (a ∷ b ∷ c ∷ cs) → Steps (Seen (a ∷ b ∷ c ∷ cs)) (last_of c cs) (a ∷ b ∷ c ∷ cs)
polygon_sees a b c cs t = (λ x i. closing_edge a b (c ∷ cs) t.0 x i, all_seen (a ∷ b ∷ c ∷ cs) a (b ∷ c ∷ cs) (λ x i. seen_on x a (b ∷ c ∷ cs) t i))

pub left_of_polygon : (a b c : Spot) (cs : List Spot) → TurnsLeft (a ∷ b ∷ c ∷ cs) → (q : Point) → Inner (a ∷ b ∷ c ∷ cs) q → IsLeft q (last_of c cs) (a ∷ b ∷ c ∷ cs)
left_of_polygon a b c cs t q m =
    let C = a ∷ b ∷ c ∷ cs in
    left_of_inner q C (last_of c cs) C a (λ x i. i) (inl refl) (polygon_sees a b c cs t) (polygon_turns a b c cs t) m

pub inner_polygon : (a b c : Spot) (cs : List Spot) → TurnsLeft (a ∷ b ∷ c ∷ cs) → (q : Point) → IsPoint q → IsLeft q (last_of c cs) (a ∷ b ∷ c ∷ cs) → Inner (a ∷ b ∷ c ∷ cs) q
inner_polygon a b c cs t q is l = inner_of_left q is a (b ∷ c ∷ cs) (polygon_turns a b c cs t) l

-- ---- members of the list
pub seen_within : (u v : Spot) (C : List Spot) → Seen C u v → (s : Spot) → Within C (at_spot s) → pos 0 ≤ℤ turn u v s
seen_within u v C seen s m =
    le_from (within_at_most (v.y -ℤ u.y) (u.x -ℤ v.x) ((v.y -ℤ u.y) *ℤ u.x +ℤ (u.x -ℤ v.x) *ℤ u.y) C (at_spot s) (λ x i. at_most u v x (seen x i)) m) (simp expand (omega (arith, ints)))
  where
    at_most : (u v s : Spot) → pos 0 ≤ℤ turn u v s → ((v.y -ℤ u.y) *ℤ s.x +ℤ (u.x -ℤ v.x) *ℤ s.y) ≤ℤ ((v.y -ℤ u.y) *ℤ u.x +ℤ (u.x -ℤ v.x) *ℤ u.y)
    at_most u v s h = le_from h (simp expand (omega (arith, ints)))

see_members : (S C : List Spot) (u : Spot) (vs : List Spot) → ((s : Spot) → In s S → Within C (at_spot s)) → Steps (Seen C) u vs → Steps (Seen S) u vs
see_members S C u [] w h = tt
see_members S C u (v ∷ vs) w h = (λ s i. seen_within u v C h.0 s (w s i), see_members S C v vs w h.1)

pub seen_by_edges : (S : List Spot) (a b c : Spot) (cs : List Spot) → Hull S (a ∷ b ∷ c ∷ cs) → Steps (Seen S) (last_of c cs) (a ∷ b ∷ c ∷ cs)
seen_by_edges S a b c cs h = see_members S (a ∷ b ∷ c ∷ cs) (last_of c cs) (a ∷ b ∷ c ∷ cs) h.keeps.within (polygon_sees a b c cs (left_by_list (a ∷ b ∷ c ∷ cs) h.corners))

pub area_of_three : (S : List Spot) (a b c : Spot) (cs : List Spot) → Hull S (a ∷ b ∷ c ∷ cs) → HasArea S
area_of_three S a b c cs h =
    record {
      i = a;
      j = b;
      k = c;
      i_in = Contains-from_in S a (h.keeps.members a (inl refl));
      j_in = Contains-from_in S b (h.keeps.members b (inr (inl refl)));
      k_in = Contains-from_in S c (h.keeps.members c (inr (inr (inl refl))));
      turns = All-in (λ x. pos 0 <ℤ turn a b x) (c ∷ cs) c (left_by_list (a ∷ b ∷ c ∷ cs) h.corners).0.0 (inl refl);
    }

-- ---- the ends of the order
negated : (hx hy : ℤ) (a b : Spot) → height hx hy a ≤ℤ height hx hy b → height (neg_ℤ hx) (neg_ℤ hy) b ≤ℤ neg_ℤ (height hx hy a)
negated hx hy a b h = let e = opposite hx hy b in omega (arith, ints)

pub within_above : (C : List Spot) (o s : Spot) → ((x : Spot) → In x C → (x ≡ o) ⊎ IsBefore o x) → Within C (at_spot s) → (s ≡ o) ⊎ IsBefore o s
within_above C o s after m = pick (compared s o)
  where
    T : List Spot
    T = s ∷ o ∷ C

    b : Bounded T
    b = bounded T

    k : ℤ
    k = (b.m +ℤ b.m) +ℤ pos 1

    w : Wide k T
    w = wide_of T b

    up : (x : Spot) → In x C → ((x ≡ o) ⊎ IsBefore o x) → height k (pos 1) o ≤ℤ height k (pos 1) x
    up x i (inl e) = subst (λ y. height k (pos 1) o ≤ℤ height k (pos 1) y) (sym e) (same (height k (pos 1) o))
      where
        same : (n : ℤ) → n ≤ℤ n
        same n = omega (arith, ints)
    up x i (inr h) = weak _ _ (higher k o x w.least (w.apart o x (inr (inl refl)) (inr (inr i))) h)
      where
        weak : (m n : ℤ) → m <ℤ n → m ≤ℤ n
        weak m n h = omega (arith, ints)

    most : (neg_ℤ k *ℤ s.x +ℤ neg_ℤ (pos 1) *ℤ s.y) ≤ℤ (neg_ℤ (height k (pos 1) o) *ℤ pos 1)
    most = within_at_most (neg_ℤ k) (neg_ℤ (pos 1)) (neg_ℤ (height k (pos 1) o)) C (at_spot s) (λ x i. negated k (pos 1) o x (up x i (after x i))) m

    not_below : (k x y h : ℤ) → (neg_ℤ k *ℤ x +ℤ neg_ℤ (pos 1) *ℤ y) ≤ℤ (neg_ℤ h *ℤ pos 1) → (k *ℤ x +ℤ pos 1 *ℤ y) <ℤ h → ⊥
    not_below k x y h p q = never (le_from p (simp expand (omega (arith, ints)))) q
      where
        never : h ≤ℤ (k *ℤ x +ℤ pos 1 *ℤ y) → (k *ℤ x +ℤ pos 1 *ℤ y) <ℤ h → ⊥
        never p q = omega (arith, ints)

    pick : Compared s o → (s ≡ o) ⊎ IsBefore o s
    pick (inl h) = absurd (not_below k s.x s.y (height k (pos 1) o) most (higher k s o w.least (w.apart s o (inl refl) (inr (inl refl))) h))
    pick (inr r) = r

pub within_below : (C : List Spot) (o s : Spot) → ((x : Spot) → In x C → (x ≡ o) ⊎ IsBefore x o) → Within C (at_spot s) → (s ≡ o) ⊎ IsBefore s o
within_below C o s before m = pick (compared s o)
  where
    T : List Spot
    T = s ∷ o ∷ C

    b : Bounded T
    b = bounded T

    k : ℤ
    k = (b.m +ℤ b.m) +ℤ pos 1

    w : Wide k T
    w = wide_of T b

    down : (x : Spot) → In x C → ((x ≡ o) ⊎ IsBefore x o) → height k (pos 1) x ≤ℤ height k (pos 1) o
    down x i (inl e) = subst (λ y. height k (pos 1) y ≤ℤ height k (pos 1) o) (sym e) (same (height k (pos 1) o))
      where
        same : (n : ℤ) → n ≤ℤ n
        same n = omega (arith, ints)
    down x i (inr h) = weak _ _ (higher k x o w.least (w.apart x o (inr (inr i)) (inr (inl refl))) h)
      where
        weak : (m n : ℤ) → m <ℤ n → m ≤ℤ n
        weak m n h = omega (arith, ints)

    most : (k *ℤ s.x +ℤ pos 1 *ℤ s.y) ≤ℤ (height k (pos 1) o *ℤ pos 1)
    most = within_at_most k (pos 1) (height k (pos 1) o) C (at_spot s) (λ x i. down x i (before x i)) m

    not_above : (g h : ℤ) → g ≤ℤ (h *ℤ pos 1) → h <ℤ g → ⊥
    not_above g h p q = omega (arith, ints)

    pick : Compared s o → (s ≡ o) ⊎ IsBefore s o
    pick (inl h) = inr h
    pick (inr (inl e)) = inl e
    pick (inr (inr h)) = absurd (not_above (height k (pos 1) s) (height k (pos 1) o) most (higher k o s w.least (w.apart o s (inr (inl refl)) (inl refl)) h))

-- no member of a list is before the first corner
pub least_of_list : (S : List Spot) (c : Spot) (cs : List Spot) → Hull S (c ∷ cs) → (s : Spot) → In s S → (s ≡ c) ⊎ IsBefore c s
least_of_list S c cs h s i = within_above (c ∷ cs) c s after (h.keeps.within s i)
  where
    after : (x : Spot) → In x (c ∷ cs) → (x ≡ c) ⊎ IsBefore c x
    after x (inl e) = inl e
    after x (inr j) = inr (All-in (IsBefore c) cs x (least_by_list (c ∷ cs) h.corners) j)

pub no_mean : (q : Point) → Within [] q → ⊥
no_mean q m = let some = m.some in absurd (omega (arith, ints))

pub one_corner : (S : List Spot) (a : Spot) → Hull S (a ∷ []) → (s : Spot) → In s S → s ≡ a
one_corner S a h s i = pick (least_of_list S a [] h s i) (within_below (a ∷ []) a s (λ x j. only x j) (h.keeps.within s i))
  where
    only : (x : Spot) → In x (a ∷ []) → (x ≡ a) ⊎ IsBefore x a
    only x (inl e) = inl e
    only x (inr j) = absurd j

    never : IsBefore a s → IsBefore s a → ⊥
    never h k =
        let e : a.x ≡ s.x = omega (arith, ints, h.0, k.0) in
        omega (arith, ints, h.1 e, k.1 (sym e))

    pick : ((s ≡ a) ⊎ IsBefore a s) → ((s ≡ a) ⊎ IsBefore s a) → s ≡ a
    pick (inl e) r = e
    pick (inr h) (inl e) = e
    pick (inr h) (inr k) = absurd (never h k)

pub ends_of_line : (S C : List Spot) → Hull S C → (HasArea S → ⊥) → AreEnds S C
ends_of_line [] [] h flat = refl
ends_of_line (s ∷ S) [] h flat = absurd (no_mean (at_spot s) (h.keeps.within s (inl refl)))
ends_of_line S (a ∷ []) h flat = (Contains-from_in S a (h.keeps.members a (inl refl)), All-from_in (λ s. s ≡ a) S (one_corner S a h))
ends_of_line S (a ∷ b ∷ []) h flat = (
  All-in (IsBefore a) (b ∷ []) b (least_by_list (a ∷ b ∷ []) h.corners) (inl refl),
  Contains-from_in S a (h.keeps.members a (inl refl)),
  Contains-from_in S b (h.keeps.members b (inr (inl refl))),
  All-from_in (IsBetween a b) S (λ s i. record { from = least_of_list S a (b ∷ []) h s i; to = within_below (a ∷ b ∷ []) b s upto (h.keeps.within s i) }),
)
  where
    upto : (x : Spot) → In x (a ∷ b ∷ []) → (x ≡ b) ⊎ IsBefore x b
    upto x (inl e) = inr (subst (λ y. IsBefore y b) (sym e) (All-in (IsBefore a) (b ∷ []) b (least_by_list (a ∷ b ∷ []) h.corners) (inl refl)))
    upto x (inr (inl e)) = inl e
    upto x (inr (inr j)) = absurd j
ends_of_line S (a ∷ b ∷ c ∷ cs) h flat = absurd (flat (area_of_three S a b c cs h))
