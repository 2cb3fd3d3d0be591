-- A list of spots has one outline.
--
--   ends_once                 the ends of a list are one list
--   corner_of_both            a corner of one outline of a list is a corner of another one
--   same_order                corners that are the same are the same list
--   one_outline               two outlines of a list are equal
use Rattle.std.proofs.Common.{◌≡◌, ◌<◌, ◌≤◌, List, [], ◌∷◌, length, Contains, refl, sym, subst, ap, ap₂, ◌∙◌, arith, ℤ, pos, neg_ℤ, ◌+ℤ◌, ◌-ℤ◌, ◌*ℤ◌, ◌≤ℤ◌, ◌<ℤ◌, ◌⊎◌, inl, inr}
use Rattle.std.proofs.lemmas.Int.{ints, by_lt_z}
use Rattle.integer_laws.specs.Members.{In}
use Rattle.integer_laws.specs.Laws.Members.{In-from_contains, All-in}
use Rattle.integer_laws.specs.Laws.Order.{same_from, add_same, mul_same, cancel_same}
use Rattle.integer_laws.specs.Laws.Ring.{expand}
use Rattle.seq_model.specs.declared.printer.Spot.{Spot}
use Rattle.seq_model.specs.Outlines.{Within}
use Rattle.model_laws.specs.Laws.Turning.{left_by_list, by_the_list}
use Rattle.outline_laws.specs.Laws.Area.{three_of_area}
use Rattle.outline_laws.specs.Corners.{turn, IsBefore, IsBetween, AreEnds, StartsLeast, LeftAbout, TurnsLeft, HasArea}
use Rattle.seq_model.specs.Points.{at_spot}
use Rattle.outline_laws.specs.Hulls.{Hull}
use Rattle.outline_laws.specs.Laws.Within.{polygon_turns, polygon_sees, seen_within, area_of_three, ends_of_line}
use Rattle.outline_laws.specs.Laws.Means.{within_at_most}
use Rattle.outline_laws.specs.Laws.Polygons.{last_of, Steps, TurnsAlong, Seen}
use Rattle.outline_laws.specs.Laws.Vectors.{turn_start, turn_end, turn_on, turn_from}
use Rattle.mesh_slices.specs.Objects.{IsOutlineOf}

-- ---- on one line
never_before : (a : Spot) → IsBefore a a → ⊥
never_before a h = let l = h.1 refl in absurd (omega (arith, ints))

not_both : (a b : Spot) → IsBefore a b → IsBefore b a → ⊥
not_both a b h k =
    let e : a.x ≡ b.x = omega (arith, ints, h.0, k.0) in
    absurd (omega (arith, ints, h.1 e, k.1 (sym e)))

-- neither lies before the other
meet : (a b : Spot) → (b ≡ a) ⊎ IsBefore a b → (a ≡ b) ⊎ IsBefore b a → a ≡ b
meet a b (inl e) r = sym e
meet a b (inr h) (inl e) = e
meet a b (inr h) (inr k) = absurd (not_both a b h k)

meet_down : (a b : Spot) → (b ≡ a) ⊎ IsBefore b a → (a ≡ b) ⊎ IsBefore a b → a ≡ b
meet_down a b (inl e) r = sym e
meet_down a b (inr h) (inl e) = e
meet_down a b (inr h) (inr k) = absurd (not_both b a h k)

of_nothing : {X : Type 0} (s : Spot) → Contains [] s → X
of_nothing s c = absurd (In-from_contains [] s c)

ends_once : (S C D : List Spot) → AreEnds S C → AreEnds S D → C ≡ D
ends_once S [] [] c d = refl
ends_once S [] (a ∷ []) c d = of_nothing a (subst (λ l. Contains l a) c d.0)
ends_once S [] (a ∷ b ∷ []) c d = of_nothing a (subst (λ l. Contains l a) c d.1)
ends_once S [] (a ∷ b ∷ e ∷ D) c d = absurd d
ends_once S (a ∷ []) [] c d = of_nothing a (subst (λ l. Contains l a) d c.0)
ends_once S (a ∷ []) (b ∷ []) c d = ap (λ x. x ∷ []) (All-in (λ s. s ≡ b) S a d.1 (In-from_contains S a c.0))
ends_once S (a ∷ []) (b ∷ e ∷ []) c d =
    let x = All-in (λ s. s ≡ a) S b c.1 (In-from_contains S b d.1) in
    let y = All-in (λ s. s ≡ a) S e c.1 (In-from_contains S e d.2) in
    absurd (never_before a (subst (λ s. IsBefore s a) x (subst (λ s. IsBefore b s) y d.0)))
ends_once S (a ∷ []) (b ∷ e ∷ f ∷ D) c d = absurd d
ends_once S (a ∷ b ∷ []) [] c d = of_nothing a (subst (λ l. Contains l a) d c.1)
ends_once S (a ∷ b ∷ []) (e ∷ []) c d =
    let x = All-in (λ s. s ≡ e) S a d.1 (In-from_contains S a c.1) in
    let y = All-in (λ s. s ≡ e) S b d.1 (In-from_contains S b c.2) in
    absurd (never_before e (subst (λ s. IsBefore s e) x (subst (λ s. IsBefore a s) y c.0)))
ends_once S (a ∷ b ∷ []) (e ∷ f ∷ []) c d =
    let first = meet a e (All-in (IsBetween a b) S e c.3 (In-from_contains S e d.1)).from (All-in (IsBetween e f) S a d.3 (In-from_contains S a c.1)).from in
    let last = meet_down f b (All-in (IsBetween e f) S b d.3 (In-from_contains S b c.2)).to (All-in (IsBetween a b) S f c.3 (In-from_contains S f d.2)).to in
    ap₂ (λ x y. x ∷ y ∷ []) first (sym last)
ends_once S (a ∷ b ∷ []) (e ∷ f ∷ g ∷ D) c d = absurd d
ends_once S (a ∷ b ∷ e ∷ C) D c d = absurd c

-- ---- with area
-- a corner, and the ways to it and from it: all members lie to the left of both, and they don't lie on one line
record Pointed (S : List Spot) (c : Spot) : Type 0 where
  from : Spot
  to : Spot
  seen_in : Seen S from c
  seen_out : Seen S c to
  turns : pos 0 <ℤ turn from c to

pointed : (S : List Spot) (c u : Spot) (vs : List Spot) (z : Spot) → Steps (Seen S) u vs → TurnsAlong u vs z → Seen S (last_of u vs) z → In c vs → Pointed S c
pointed S c u [] z s t l i = absurd i
pointed S c u (v ∷ []) z s t l (inl e) = subst (Pointed S) (sym e) (record { from = u; to = z; seen_in = s.0; seen_out = l; turns = t.0 })
pointed S c u (v ∷ []) z s t l (inr i) = absurd i
pointed S c u (v ∷ w ∷ ws) z s t l (inl e) = subst (Pointed S) (sym e) (record { from = u; to = w; seen_in = s.0; seen_out = s.1.0; turns = t.0 })
pointed S c u (v ∷ w ∷ ws) z s t l (inr i) = pointed S c v (w ∷ ws) z s.1 t.1 l i

-- how far a spot lies inside the two ways
abbrev depth : Spot → Spot → Spot → Spot → ℤ
depth p c n s = turn p c s +ℤ turn c n s

-- what is on one line with two vectors that aren't on one line is nothing
nothing_left : (ux uy vx vy wx wy : ℤ) → pos 0 <ℤ (ux *ℤ vy -ℤ uy *ℤ vx) → ux *ℤ wy -ℤ uy *ℤ wx ≡ pos 0 → vx *ℤ wy -ℤ vy *ℤ wx ≡ pos 0 → (wx ≡ pos 0) × (wy ≡ pos 0)
nothing_left ux uy vx vy wx wy h e f = (
  cancel_same (ux *ℤ vy -ℤ uy *ℤ vx) h (same_from (add_same (mul_same vx e) (mul_same (neg_ℤ ux) f)) (simp expand (omega (arith, ints)))),
  cancel_same (ux *ℤ vy -ℤ uy *ℤ vx) h (same_from (add_same (mul_same vy e) (mul_same (neg_ℤ uy) f)) (simp expand (omega (arith, ints)))),
)

abbrev spot : ℤ → ℤ → Spot
spot x y = record { x = x; y = y }

corner_itself : (p c n s : Spot) → pos 0 <ℤ turn p c n → pos 0 ≤ℤ turn p c s → pos 0 ≤ℤ turn c n s → depth p c n s ≤ℤ pos 0 → s ≡ c
corner_itself p c n s h a b d =
    let e : turn p c s ≡ pos 0 = omega (arith, ints) in
    let f : turn c n s ≡ pos 0 = omega (arith, ints) in
    let none = nothing_left (c.x -ℤ p.x) (c.y -ℤ p.y) (n.x -ℤ c.x) (n.y -ℤ c.y) (s.x -ℤ c.x) (s.y -ℤ c.y) (subst (λ t. pos 0 <ℤ t) (turn_on p c n) h) (sym (turn_on p c s) ∙ e) (sym (turn_from c n s) ∙ f) in
    let x = none.0 in
    let y = none.1 in
    ap₂ spot (omega (arith, ints, x)) (omega (arith, ints, y))

-- a way's turn to a spot is a level less the spot's height
abbrev east : Spot → Spot → ℤ
east u v = v.y -ℤ u.y

abbrev north : Spot → Spot → ℤ
north u v = u.x -ℤ v.x

abbrev level : Spot → Spot → ℤ
level u v = east u v *ℤ u.x +ℤ north u v *ℤ u.y

turn_level : (u v s : Spot) → turn u v s ≡ level u v -ℤ (east u v *ℤ s.x +ℤ north u v *ℤ s.y)
turn_level u v s = simp expand (omega (arith, ints))

two_heights : (a b c d x y : ℤ) → (a +ℤ c) *ℤ x +ℤ (b +ℤ d) *ℤ y ≡ (a *ℤ x +ℤ b *ℤ y) +ℤ (c *ℤ x +ℤ d *ℤ y)
two_heights a b c d x y = simp expand (omega (arith, ints))

far_in : (a b c d x y k l t u : ℤ) → t ≡ k -ℤ (a *ℤ x +ℤ b *ℤ y) → u ≡ l -ℤ (c *ℤ x +ℤ d *ℤ y) → pos 1 ≤ℤ (t +ℤ u) → ((a +ℤ c) *ℤ x +ℤ (b +ℤ d) *ℤ y) ≤ℤ ((k +ℤ l) -ℤ pos 1)
far_in a b c d x y k l t u e f h = rw (two_heights a b c d x y) (omega (arith, ints))

not_far : (a b c d x y k l : ℤ) → pos 0 ≡ k -ℤ (a *ℤ x +ℤ b *ℤ y) → pos 0 ≡ l -ℤ (c *ℤ x +ℤ d *ℤ y) → ((a +ℤ c) *ℤ x +ℤ (b +ℤ d) *ℤ y) ≤ℤ (((k +ℤ l) -ℤ pos 1) *ℤ pos 1) → ⊥
not_far a b c d x y k l e f m = never (subst (λ v. v ≤ℤ (((k +ℤ l) -ℤ pos 1) *ℤ pos 1)) (two_heights a b c d x y) m)
  where
    never : ((a *ℤ x +ℤ b *ℤ y) +ℤ (c *ℤ x +ℤ d *ℤ y)) ≤ℤ (((k +ℤ l) -ℤ pos 1) *ℤ pos 1) → ⊥
    never h = absurd (omega (arith, ints))

-- what is a corner isn't within spots that all lie inside its two ways
deep : (p c n : Spot) (D : List Spot) → ((d : Spot) → In d D → pos 1 ≤ℤ depth p c n d) → Within D (at_spot c) → ⊥
deep p c n D h w =
    not_far (east p c) (north p c) (east c n) (north c n) c.x c.y (level p c) (level c n) (sym (turn_end p c) ∙ turn_level p c c) (sym (turn_start c n) ∙ turn_level c n c)
    (within_at_most (east p c +ℤ east c n) (north p c +ℤ north c n) ((level p c +ℤ level c n) -ℤ pos 1) D (at_spot c)
    (λ d i. far_in (east p c) (north p c) (east c n) (north c n) d.x d.y (level p c) (level c n) (turn p c d) (turn c n d) (turn_level p c d) (turn_level c n d) (h d i)) w)

record Shallow (p c n : Spot) (D : List Spot) : Type 0 where
  spot : Spot
  member : In spot D
  low : depth p c n spot ≤ℤ pos 0

look : (p c n : Spot) (D : List Spot) → ((d : Spot) → In d D → pos 1 ≤ℤ depth p c n d) ⊎ Shallow p c n D
look p c n [] = inl (λ d i. absurd i)
look p c n (d ∷ D) = by_lt_z (pos 0) (depth p c n d) (λ h. more h (look p c n D)) (λ h. inr (record { spot = d; member = inl refl; low = h }))
  where
    one : (k : ℤ) → pos 0 <ℤ k → pos 1 ≤ℤ k
    one k h = omega (arith, ints)

    more : pos 0 <ℤ depth p c n d → ((x : Spot) → In x D → pos 1 ≤ℤ depth p c n x) ⊎ Shallow p c n D → ((x : Spot) → In x (d ∷ D) → pos 1 ≤ℤ depth p c n x) ⊎ Shallow p c n (d ∷ D)
    more h (inl f) = inl each
      where
        each : (x : Spot) → In x (d ∷ D) → pos 1 ≤ℤ depth p c n x
        each x (inl e) = subst (λ y. pos 1 ≤ℤ depth p c n y) (sym e) (one (depth p c n d) h)
        each x (inr i) = f x i
    more h (inr s) = inr (record { spot = s.spot; member = inr s.member; low = s.low })

-- a corner of one outline of a list is one of another outline of it
corner_of_both : (S : List Spot) (a b e : Spot) (cs D : List Spot) → Hull S (a ∷ b ∷ e ∷ cs) → Hull S D → (c : Spot) → In c (a ∷ b ∷ e ∷ cs) → In c D
corner_of_both S a b e cs D h k c i = pick (look w.from c w.to D)
  where
    C : List Spot
    C = a ∷ b ∷ e ∷ cs

    sees : Steps (Seen C) (last_of e cs) C
    sees = polygon_sees a b e cs (left_by_list C h.corners)

    w : Pointed C c
    w = pointed C c (last_of e cs) C a sees (polygon_turns a b e cs (left_by_list C h.corners)) sees.0 i

    within : (d : Spot) → In d D → Within C (at_spot d)
    within d j = h.keeps.within d (k.keeps.members d j)

    pick : ((d : Spot) → In d D → pos 1 ≤ℤ depth w.from c w.to d) ⊎ Shallow w.from c w.to D → In c D
    pick (inl f) = absurd (deep w.from c w.to D f (k.keeps.within c (h.keeps.members c i)))
    pick (inr s) = subst (λ x. In x D) (corner_itself w.from c w.to s.spot w.turns (seen_within w.from c C w.seen_in s.spot (within s.spot s.member)) (seen_within c w.to C w.seen_out s.spot (within s.spot s.member)) s.low) s.member

-- ---- the order of corners
other_way : (o b d : Spot) → turn o d b ≡ neg_ℤ (turn o b d)
other_way o b d = simp expand (omega (arith, ints))

not_itself : (o b : Spot) → pos 0 <ℤ turn o b b → ⊥
not_itself o b h = let z = turn_end o b in absurd (omega (arith, ints))

same_about : (o : Spot) (bs ds : List Spot) → LeftAbout o bs → LeftAbout o ds → ((x : Spot) → In x bs → In x ds) → ((x : Spot) → In x ds → In x bs) → bs ≡ ds
same_about o [] [] l m f g = refl
same_about o [] (d ∷ ds) l m f g = absurd (g d (inl refl))
same_about o (b ∷ bs) [] l m f g = absurd (f b (inl refl))
same_about o (b ∷ bs) (d ∷ ds) l m f g = ap₂ (λ x xs. x ∷ xs) first (same_about o bs ds l.1 m.1 (λ x i. there x i (f x (inr i))) (λ x i. back x i (g x (inr i))))
  where
    first : b ≡ d
    first = pick (f b (inl refl)) (g d (inl refl))
      where
        pick : (b ≡ d) ⊎ In b ds → (d ≡ b) ⊎ In d bs → b ≡ d
        pick (inl e) r = e
        pick (inr i) (inl e) = sym e
        pick (inr i) (inr j) =
            let p = All-in (λ c. pos 0 <ℤ turn o d c) ds b m.0 i in
            let q = All-in (λ c. pos 0 <ℤ turn o b c) bs d l.0 j in
            let e = other_way o b d in
            absurd (omega (arith, ints))

    there : (x : Spot) → In x bs → (x ≡ d) ⊎ In x ds → In x ds
    there x i (inl e) = absurd (not_itself o b (subst (λ c. pos 0 <ℤ turn o b c) (e ∙ sym first) (All-in (λ c. pos 0 <ℤ turn o b c) bs x l.0 i)))
    there x i (inr j) = j

    back : (x : Spot) → In x ds → (x ≡ b) ⊎ In x bs → In x bs
    back x i (inl e) = absurd (not_itself o d (subst (λ c. pos 0 <ℤ turn o d c) (e ∙ first) (All-in (λ c. pos 0 <ℤ turn o d c) ds x m.0 i)))
    back x i (inr j) = j

same_order : (C D : List Spot) → StartsLeast C × TurnsLeft C → StartsLeast D × TurnsLeft D → ((x : Spot) → In x C → In x D) → ((x : Spot) → In x D → In x C) → C ≡ D
same_order [] [] c d f g = refl
same_order [] (d ∷ ds) c e f g = absurd (g d (inl refl))
same_order (b ∷ bs) [] c e f g = absurd (f b (inl refl))
same_order (b ∷ bs) (d ∷ ds) c e f g = ap₂ (λ x xs. x ∷ xs) first (same_about b bs ds c.1.0 (subst (λ o. LeftAbout o ds) (sym first) e.1.0) (λ x i. there x i (f x (inr i))) (λ x i. back x i (g x (inr i))))
  where
    first : b ≡ d
    first = pick (f b (inl refl)) (g d (inl refl))
      where
        pick : (b ≡ d) ⊎ In b ds → (d ≡ b) ⊎ In d bs → b ≡ d
        pick (inl q) r = q
        pick (inr i) (inl q) = sym q
        pick (inr i) (inr j) = absurd (not_both b d (All-in (IsBefore b) bs d c.0 j) (All-in (IsBefore d) ds b e.0 i))

    there : (x : Spot) → In x bs → (x ≡ d) ⊎ In x ds → In x ds
    there x i (inl q) = absurd (never_before b (subst (IsBefore b) (q ∙ sym first) (All-in (IsBefore b) bs x c.0 i)))
    there x i (inr j) = j

    back : (x : Spot) → In x ds → (x ≡ b) ⊎ In x bs → In x bs
    back x i (inl q) = absurd (never_before d (subst (IsBefore d) (q ∙ first) (All-in (IsBefore d) ds x e.0 i)))
    back x i (inr j) = j

-- ---- one outline
flat_hull : (S C D : List Spot) → Hull S C → Hull S D → length C < 3 → C ≡ D
flat_hull S C D h k short = ends_once S C D (ends_of_line S C h flat) (ends_of_line S D k flat)
  where
    flat : HasArea S → ⊥
    flat g = let p = three_of_area S C h g in absurd (omega arith)

one_hull : (S C D : List Spot) → Hull S C → Hull S D → C ≡ D
one_hull S (a ∷ b ∷ e ∷ cs) D h k = with_area D (three_of_area S D k (area_of_three S a b e cs h)) k
  where
    with_area : (D : List Spot) → 3 ≤ length D → Hull S D → a ∷ b ∷ e ∷ cs ≡ D
    with_area [] p k = absurd (omega arith)
    with_area (d ∷ []) p k = absurd (omega arith)
    with_area (d ∷ f ∷ []) p k = absurd (omega arith)
    with_area (d ∷ f ∷ g ∷ ds) p k =
        same_order (a ∷ b ∷ e ∷ cs) (d ∷ f ∷ g ∷ ds) ((by_the_list (a ∷ b ∷ e ∷ cs)).0 h.corners) ((by_the_list (d ∷ f ∷ g ∷ ds)).0 k.corners) (corner_of_both S a b e cs (d ∷ f ∷ g ∷ ds) h k) (corner_of_both S d f g ds (a ∷ b ∷ e ∷ cs) k h)
one_hull S [] D h k = flat_hull S [] D h k (omega arith)
one_hull S (a ∷ []) D h k = flat_hull S (a ∷ []) D h k (omega arith)
one_hull S (a ∷ b ∷ []) D h k = flat_hull S (a ∷ b ∷ []) D h k (omega arith)

pub hull_of_outline : (S C : List Spot) → IsOutlineOf S C → Hull S C
hull_of_outline S C o = record {
  corners = o.corners;
  keeps = record {
    members = λ s i. In-from_contains S s (All-in (Contains S) C s o.members i);
    within = λ s i. All-in (λ t. Within C (at_spot t)) S s o.within i;
    to_list = λ q m. (o.inner q).0 m;
    to_corners = λ q m. (o.inner q).1 m;
  };
}

pub one_outline : (S C D : List Spot) → IsOutlineOf S C → IsOutlineOf S D → C ≡ D
one_outline S C D o p = one_hull S C D (hull_of_outline S C o) (hull_of_outline S D p)
