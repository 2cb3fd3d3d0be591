-- Every list of spots has the corners of a convex outline.
--
--   Wide k S            the members' y differ by less than k, so that k * x + y rises with the order of spots
--   rising_hull         the chains of a list in ascending order are its corners
--   hull_of             each list has them
use Rattle.std.proofs.Common.{◌≡◌, ◌≤◌, List, [], ◌∷◌, length, refl, ap₂, sym, subst, ◌∙◌, arith, ℤ, pos, neg_ℤ, ◌+ℤ◌, ◌-ℤ◌, ◌*ℤ◌, ◌≤ℤ◌, ◌<ℤ◌, ◌⊎◌, inl, inr}
use Rattle.std.proofs.lemmas.Int.{ints, by_lt_z}
use Rattle.integer_laws.specs.Laws.Ring.{expand}
use Rattle.integer_laws.specs.Laws.Order.{mul_le}
use Rattle.integer_laws.specs.Members.{In}
use Rattle.integer_laws.specs.Laws.Members.{All-from_in}
use Rattle.seq_model.specs.declared.printer.Spot.{Spot}
use Rattle.model_laws.specs.Laws.Turning.{before_cases, before_from_cases, corners_by_list}
use Rattle.outline_laws.specs.Hulls.{HullOf, Hull}
use Rattle.outline_laws.specs.Corners.{IsBefore}
use Rattle.outline_laws.specs.Chains.{RisesFrom, IsRising, both_chains}
use Rattle.outline_laws.specs.Laws.Vectors.{height}
use Rattle.outline_laws.specs.Laws.ChainLaws.{Ascends}
use Rattle.outline_laws.specs.Laws.Keeping.{keeps_as, short_hull}
use Rattle.outline_laws.specs.Laws.BothChains.{Closed, closed_of}

-- ---- from the order to a direction
pub record Wide (k : ℤ) (S : List Spot) : Type 0 where
  pub least : pos 0 ≤ℤ k
  pub apart : (a b : Spot) → In a S → In b S → (a.y -ℤ b.y) <ℤ k

ahead : (k x1 x2 y1 y2 : ℤ) → pos 0 ≤ℤ k → x1 <ℤ x2 → (y1 -ℤ y2) <ℤ k → (k *ℤ x1 +ℤ pos 1 *ℤ y1) <ℤ (k *ℤ x2 +ℤ pos 1 *ℤ y2)
ahead k x1 x2 y1 y2 w h l =
    let up : (x1 +ℤ pos 1) ≤ℤ x2 = omega (arith, ints) in
    let m = mul_le k w up in
    let e : k *ℤ (x1 +ℤ pos 1) ≡ k *ℤ x1 +ℤ k = simp expand (omega (arith, ints)) in
    omega (arith, ints)

level : (k x1 x2 y1 y2 : ℤ) → x1 ≡ x2 → y1 <ℤ y2 → (k *ℤ x1 +ℤ pos 1 *ℤ y1) <ℤ (k *ℤ x2 +ℤ pos 1 *ℤ y2)
level k x1 x2 y1 y2 e h = rw e (omega (arith, ints))

pub higher : (k : ℤ) (a b : Spot) → pos 0 ≤ℤ k → (a.y -ℤ b.y) <ℤ k → IsBefore a b → height k (pos 1) a <ℤ height k (pos 1) b
higher k a b w n h = pick (before_cases a b h)
  where
    pick : (a.x <ℤ b.x) ⊎ ((a.x ≡ b.x) × (a.y <ℤ b.y)) → height k (pos 1) a <ℤ height k (pos 1) b
    pick (inl l) = ahead k a.x b.x a.y b.y w l n
    pick (inr l) = level k a.x b.x a.y b.y l.0 l.1

ascends : (k : ℤ) (S : List Spot) (s : Spot) (ps : List Spot) → Wide k S → ((x : Spot) → In x (s ∷ ps) → In x S) → RisesFrom s ps → Ascends k (pos 1) s ps
ascends k S s [] w i r = tt
ascends k S s (p ∷ ps) w i r = (higher k s p w.least (w.apart s p (i s (inl refl)) (i p (inr (inl refl)))) r.0, ascends k S p ps w (λ x j. i x (inr j)) r.1)

before_trans : (a b c : Spot) → IsBefore a b → IsBefore b c → IsBefore a c
before_trans a b c h k = (omega (arith, ints, h.0, k.0), λ e. up (h.1 (between a.x b.x c.x h.0 k.0 e)) (k.1 (between_too a.x b.x c.x h.0 k.0 e)))
  where
    between : (x y z : ℤ) → x ≤ℤ y → y ≤ℤ z → x ≡ z → x ≡ y
    between x y z l m e = omega (arith, ints)

    between_too : (x y z : ℤ) → x ≤ℤ y → y ≤ℤ z → x ≡ z → y ≡ z
    between_too x y z l m e = omega (arith, ints)

    up : a.y <ℤ b.y → b.y <ℤ c.y → a.y <ℤ c.y
    up l m = omega (arith, ints)

after_first : (s x : Spot) (ps : List Spot) → RisesFrom s ps → In x (s ∷ ps) → (x ≡ s) ⊎ IsBefore s x
after_first s x ps r (inl e) = inl e
after_first s x [] r (inr i) = absurd i
after_first s x (p ∷ ps) r (inr i) = inr (pick (after_first p x ps r.1 i))
  where
    pick : ((x ≡ p) ⊎ IsBefore p x) → IsBefore s x
    pick (inl e) = subst (IsBefore s) (sym e) r.0
    pick (inr h) = before_trans s p x r.0 h

pub rising_hull : (k : ℤ) (S : List Spot) → Wide k S → IsRising S → 2 ≤ length S → Hull S (both_chains S)
rising_hull k [] w r h = absurd (omega arith)
rising_hull k (s ∷ []) w r h = absurd (omega arith)
rising_hull k (s ∷ p ∷ ps) w r h =
    let c = closed_of k (pos 1) s p ps (ascends k (s ∷ p ∷ ps) s (p ∷ ps) w (λ x i. i) r) in
    subst (Hull (s ∷ p ∷ ps)) (sym c.is) (record { corners = corners_by_list (s ∷ c.rest) (All-from_in (IsBefore s) c.rest (λ x i. later c x i)) c.left; keeps = c.keeps })
  where
    later : (c : Closed k (pos 1) s (s ∷ p ∷ ps) (both_chains (s ∷ p ∷ ps))) (x : Spot) → In x c.rest → IsBefore s x
    later c x i = pick (after_first s x (p ∷ ps) r (c.keeps.members x (inr i)))
      where
        never : height k (pos 1) s <ℤ height k (pos 1) s → ⊥
        never h = omega (arith, ints)

        pick : ((x ≡ s) ⊎ IsBefore s x) → IsBefore s x
        pick (inl e) = absurd (never (subst (λ u. height k (pos 1) s <ℤ height k (pos 1) u) e (c.above x i)))
        pick (inr b) = b

-- ---- each list has members that rise
abbrev spot : ℤ → ℤ → Spot
spot x y = record { x = x; y = y }

abbrev pub Compared : Spot → Spot → Type 0
Compared a b = IsBefore a b ⊎ ((a ≡ b) ⊎ IsBefore b a)

pub compared : (a b : Spot) → Compared a b
compared a b = by_lt_z a.x b.x (λ h. inl (before_from_cases a b (inl h))) (λ h. by_lt_z b.x a.x (λ k. inr (inr (before_from_cases b a (inl k)))) (λ k. level_x (omega (arith, ints))))
  where
    level_x : a.x ≡ b.x → Compared a b
    level_x e = by_lt_z a.y b.y (λ h. inl (before_from_cases a b (inr (e, h)))) (λ h. by_lt_z b.y a.y (λ k. inr (inr (before_from_cases b a (inr (sym e, k))))) (λ k. inr (inl (ap₂ spot e (omega (arith, ints))))))

record Inserted (s : Spot) (ps : List Spot) : Type 0 where
  pub list : List Spot
  pub rising : IsRising list
  pub after : (o : Spot) → IsBefore o s → RisesFrom o ps → RisesFrom o list
  pub into : (x : Spot) → In x (s ∷ ps) → In x list
  pub from : (x : Spot) → In x list → In x (s ∷ ps)

rest_rises : (p : Spot) (ps : List Spot) → RisesFrom p ps → IsRising ps
rest_rises p [] r = tt
rest_rises p (q ∷ qs) r = r.1

insert : (s : Spot) (ps : List Spot) → IsRising ps → Inserted s ps
insert s [] r = record { list = s ∷ []; rising = tt; after = λ o h k. (h, tt); into = λ x i. i; from = λ x i. i }
insert s (p ∷ ps) r = by (compared s p) (insert s ps (rest_rises p ps r))
  where
    by : Compared s p → Inserted s ps → Inserted s (p ∷ ps)
    by (inl h) m = record { list = s ∷ p ∷ ps; rising = (h, r); after = λ o k l. (k, (h, l.1)); into = λ x i. i; from = λ x i. i }
    by (inr (inl e)) m = record { list = p ∷ ps; rising = r; after = λ o k l. l; into = into; from = λ x i. inr i }
      where
        into : (x : Spot) → In x (s ∷ p ∷ ps) → In x (p ∷ ps)
        into x (inl f) = inl (f ∙ e)
        into x (inr i) = i
    by (inr (inr h)) m = record { list = p ∷ m.list; rising = m.after p h r; after = λ o k l. (l.0, m.after p h l.1); into = into; from = from }
      where
        into : (x : Spot) → In x (s ∷ p ∷ ps) → In x (p ∷ m.list)
        into x (inl f) = inr (m.into x (inl f))
        into x (inr (inl f)) = inl f
        into x (inr (inr i)) = inr (m.into x (inr i))

        from : (x : Spot) → In x (p ∷ m.list) → In x (s ∷ p ∷ ps)
        from x (inl f) = inr (inl f)
        from x (inr i) = pick (m.from x i)
          where
            pick : In x (s ∷ ps) → In x (s ∷ p ∷ ps)
            pick (inl f) = inl f
            pick (inr j) = inr (inr j)

record Ordered (S : List Spot) : Type 0 where
  pub list : List Spot
  pub rising : IsRising list
  pub into : (x : Spot) → In x S → In x list
  pub from : (x : Spot) → In x list → In x S

ordered : (S : List Spot) → Ordered S
ordered [] = record { list = []; rising = tt; into = λ x i. i; from = λ x i. i }
ordered (s ∷ S) =
    let o = ordered S in
    let m = insert s o.list o.rising in
    record { list = m.list; rising = m.rising; into = λ x i. m.into x (into o x i); from = λ x i. from o x (m.from x i) }
  where
    into : (o : Ordered S) (x : Spot) → In x (s ∷ S) → In x (s ∷ o.list)
    into o x (inl e) = inl e
    into o x (inr i) = inr (o.into x i)

    from : (o : Ordered S) (x : Spot) → In x (s ∷ o.list) → In x (s ∷ S)
    from o x (inl e) = inl e
    from o x (inr i) = inr (o.from x i)

-- ---- and a width
pub record Bounded (S : List Spot) : Type 0 where
  pub m : ℤ
  pub least : pos 0 ≤ℤ m
  pub most : (s : Spot) → In s S → s.y ≤ℤ m
  pub low : (s : Spot) → In s S → neg_ℤ m ≤ℤ s.y

record SizeOf (y : ℤ) : Type 0 where
  pub n : ℤ
  pub least : pos 0 ≤ℤ n
  pub most : y ≤ℤ n
  pub low : neg_ℤ n ≤ℤ y

size_of : (y : ℤ) → SizeOf y
size_of y = by_lt_z y (pos 0) (λ h. record { n = neg_ℤ y; least = omega (arith, ints); most = omega (arith, ints); low = omega (arith, ints) }) (λ h. record { n = y; least = h; most = omega (arith, ints); low = omega (arith, ints) })

pub bounded : (S : List Spot) → Bounded S
bounded [] = record { m = pos 0; least = omega (arith, ints); most = λ s i. absurd i; low = λ s i. absurd i }
bounded (x ∷ S) = let b = bounded S in let n = size_of x.y in record { m = n.n +ℤ b.m; least = sum _ _ n.least b.least; most = most b n; low = low b n }
  where
    sum : (a b : ℤ) → pos 0 ≤ℤ a → pos 0 ≤ℤ b → pos 0 ≤ℤ (a +ℤ b)
    sum a b h k = omega (arith, ints)

    most : (b : Bounded S) (n : SizeOf x.y) (s : Spot) → In s (x ∷ S) → s.y ≤ℤ (n.n +ℤ b.m)
    most b n s (inl e) = let h = n.most in let k = b.least in subst (λ t. t.y ≤ℤ (n.n +ℤ b.m)) (sym e) (omega (arith, ints))
    most b n s (inr i) = let h = b.most s i in let k = n.least in omega (arith, ints)

    low : (b : Bounded S) (n : SizeOf x.y) (s : Spot) → In s (x ∷ S) → neg_ℤ (n.n +ℤ b.m) ≤ℤ s.y
    low b n s (inl e) = let h = n.low in let k = b.least in subst (λ t. neg_ℤ (n.n +ℤ b.m) ≤ℤ t.y) (sym e) (omega (arith, ints))
    low b n s (inr i) = let h = b.low s i in let k = n.least in omega (arith, ints)

pub wide_of : (S : List Spot) → (b : Bounded S) → Wide ((b.m +ℤ b.m) +ℤ pos 1) S
wide_of S b = record { least = twice b.m b.least; apart = λ x y i j. apart x.y y.y b.m (b.most x i) (b.low y j) }
  where
    twice : (m : ℤ) → pos 0 ≤ℤ m → pos 0 ≤ℤ ((m +ℤ m) +ℤ pos 1)
    twice m h = omega (arith, ints)

    apart : (x y m : ℤ) → x ≤ℤ m → neg_ℤ m ≤ℤ y → (x -ℤ y) <ℤ ((m +ℤ m) +ℤ pos 1)
    apart x y m h k = omega (arith, ints)

-- ---- each list
rising_hull_of : (R : List Spot) → IsRising R → HullOf R
rising_hull_of [] r = record { corners = []; hull = short_hull [] (omega arith) }
rising_hull_of (s ∷ []) r = record { corners = s ∷ []; hull = short_hull (s ∷ []) (omega arith) }
rising_hull_of (s ∷ p ∷ ps) r =
    let S = s ∷ p ∷ ps in
    let b = bounded S in
    record { corners = both_chains S; hull = rising_hull ((b.m +ℤ b.m) +ℤ pos 1) S (wide_of S b) r (omega arith) }

pub hull_of : (S : List Spot) → HullOf S
hull_of S =
    let o = ordered S in
    let h = rising_hull_of o.list o.rising in
    record { corners = h.corners; hull = record { corners = h.hull.corners; keeps = keeps_as o.list S h.corners o.from o.into h.hull.keeps } }
