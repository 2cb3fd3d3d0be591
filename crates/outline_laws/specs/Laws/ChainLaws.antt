-- A chain that is built from points which ascend along a direction: each edge keeps all points so far to its left, and the chain
-- turns left at each corner. A chain stands with its newest corner first, as b and the rest cs.
--
--   StepsUp P b cs      P of each step, from a corner to the next newer
--   StepsRise hx hy b cs    each step goes up along (hx, hy)
--   Bends b cs          it turns left at each corner between; BendsOn p b cs: and at b, on the way to p
--   LeftOf s b cs       s lies to the right of no step
--   bottom b cs         the oldest corner
--   Covers              what is known of each point so far; Covering: while corners are taken off
--   Ascends hx hy t ps  the points go up along (hx, hy), from t on
--   Grown               what a chain is, of all points so far
--   grown_all           the chain of ascending points is so
use Rattle.std.proofs.Common.{◌≡◌, List, [], ◌∷◌, ◌++◌, refl, ap, sym, subst, ◌∙◌, arith, ℤ, pos, ◌≤ℤ◌, ◌<ℤ◌, ◌⊎◌, inl, inr, Bool, true, false, cond}
use Rattle.std.proofs.lemmas.Int.{ints, by_lt_z}
use Rattle.std.proofs.lemmas.List.{append_assoc, append-nil}
use Rattle.std.specs.Prelude.{int_lt}
use Rattle.integer_laws.specs.Members.{In}
use Rattle.integer_laws.specs.Laws.Members.{In-append_cases, In-append_left, In-append_right}
use Rattle.seq_model.specs.declared.printer.Spot.{Spot}
use Rattle.outline_laws.specs.Corners.{turn}
use Rattle.outline_laws.specs.Chains.{fallen, grown}
use Rattle.outline_laws.specs.Laws.Vectors.{less, height, cross_back, turn_on, turn_back, turn_turned, turn_start, turn_end, between, strictly_between, rises, rises_or_same}

-- a chain that bends left at a and at b bends left at a, on the way to p
pub bends_past : (hx hy : ℤ) (z a b p : Spot) → height hx hy z <ℤ height hx hy a → height hx hy a <ℤ height hx hy b → height hx hy b <ℤ height hx hy p
    → pos 0 <ℤ turn z a b → pos 0 <ℤ turn a b p → pos 0 <ℤ turn z a p
bends_past hx hy z a b p r s t h k =
    rw (turn_on z a p)
    (strictly_between hx hy (less a z) (less b a) (less p a) (rises hx hy a b s) (weak _ (rises hx hy z a r)) (rises hx hy a p (omega (arith, ints))) (rw (sym (turn_on z a b)) h) (weak _ k))
  where
    weak : (n : ℤ) → pos 0 <ℤ n → pos 0 ≤ℤ n
    weak n h = omega (arith, ints)

-- a corner c after b that p passes: what stands above b lies left of the edge from b to p
pub over : (hx hy : ℤ) (b c p s : Spot) → height hx hy b <ℤ height hx hy c → height hx hy b <ℤ height hx hy p → height hx hy b ≤ℤ height hx hy s
    → turn b c p ≤ℤ pos 0 → pos 0 ≤ℤ turn b c s → pos 0 ≤ℤ turn b p s
over hx hy b c p s r t q h k =
    between hx hy (less p b) (less c b) (less s b) (rises hx hy b c r) (rises_or_same hx hy b p (omega (arith, ints))) (rises_or_same hx hy b s q) (rw (cross_back (less p b) (less c b)) (omega (arith, ints))) k

-- an edge from a to b at which p bends left: what stands below b lies left of the edge from b to p
pub under : (hx hy : ℤ) (a b p s : Spot) → height hx hy a <ℤ height hx hy b → height hx hy b <ℤ height hx hy p → height hx hy s ≤ℤ height hx hy b
    → pos 0 <ℤ turn a b p → pos 0 ≤ℤ turn a b s → pos 0 ≤ℤ turn b p s
under hx hy a b p s r t q h k =
    rw (turn_turned b p s)
    (between hx hy (less b s) (less b a) (less p b) (rises hx hy a b r) (rises_or_same hx hy s b q) (rises_or_same hx hy b p (omega (arith, ints))) (rw (sym (turn_back a b s)) k) (rw (sym (turn_on a b p)) (omega (arith, ints))))

-- ---- chains
-- each step of a chain, from a corner to the next newer
abbrev pub StepsUp : (Spot → Spot → Type 0) → Spot → List Spot → Type 0
StepsUp P b [] = Unit {0}
StepsUp P b (a ∷ cs) = P a b × StepsUp P a cs

abbrev pub StepsRise : ℤ → ℤ → Spot → List Spot → Type 0
StepsRise hx hy b cs = StepsUp (λ a b. height hx hy a <ℤ height hx hy b) b cs

-- p bends left at the first corner of a chain
abbrev pub BendsOn : Spot → Spot → List Spot → Type 0
BendsOn p b [] = Unit {0}
BendsOn p b (a ∷ cs) = pos 0 <ℤ turn a b p

abbrev pub Bends : Spot → List Spot → Type 0
Bends b [] = Unit {0}
Bends b (a ∷ cs) = BendsOn b a cs × Bends a cs

abbrev pub LeftOf : Spot → Spot → List Spot → Type 0
LeftOf s b cs = StepsUp (λ a b. pos 0 ≤ℤ turn a b s) b cs

abbrev pub bottom : Spot → List Spot → Spot
bottom b [] = b
bottom b (a ∷ cs) = bottom a cs

-- s is no higher than the chain's top, and lies left of each edge; the chain's bottom is the lowest
pub record Covers (hx hy : ℤ) (s b : Spot) (cs : List Spot) : Type 0 where
  pub left : LeftOf s b cs
  pub below : height hx hy s ≤ℤ height hx hy b
  pub lowest : (s ≡ bottom b cs) ⊎ (height hx hy (bottom b cs) <ℤ height hx hy s)

-- while corners are taken off for p: what stands above the first corner lies left of the edge to p
pub record Covering (hx hy : ℤ) (p s b : Spot) (cs : List Spot) : Type 0 where
  pub left : LeftOf s b cs
  pub above : height hx hy b <ℤ height hx hy s → pos 0 ≤ℤ turn b p s
  pub lowest : (s ≡ bottom b cs) ⊎ (height hx hy (bottom b cs) <ℤ height hx hy s)

pub covering : (hx hy : ℤ) (p s b : Spot) (cs : List Spot) → Covers hx hy s b cs → Covering hx hy p s b cs
covering hx hy p s b cs v = let low = v.below in record { left = v.left; above = λ h. absurd (omega (arith, ints)); lowest = v.lowest }

-- one corner c less
pub passed : (hx hy : ℤ) (p s c b : Spot) (cs : List Spot) → height hx hy c <ℤ height hx hy p → StepsRise hx hy c (b ∷ cs) → turn b c p ≤ℤ pos 0 → Covering hx hy p s c (b ∷ cs) → Covering hx hy p s b cs
passed hx hy p s c b cs t r h v =
    let up = r.0 in
    record { left = v.left.1; above = λ k. over hx hy b c p s up (omega (arith, ints)) (omega (arith, ints)) h v.left.0; lowest = v.lowest }

-- p bends left at each corner
pub bends_all : (hx hy : ℤ) (p b : Spot) (cs : List Spot) → height hx hy b <ℤ height hx hy p → StepsRise hx hy b cs → Bends b cs → BendsOn p b cs → StepsUp (λ a b. pos 0 <ℤ turn a b p) b cs
bends_all hx hy p b [] t r h k = tt
bends_all hx hy p b (a ∷ []) t r h k = (k, tt)
bends_all hx hy p b (a ∷ z ∷ cs) t r h k =
    let up = r.0 in
    (k, bends_all hx hy p a (z ∷ cs) (omega (arith, ints)) r.1 h.1 (bends_past hx hy z a b p r.1.0 r.0 t h.0 k))

weaker : (p b : Spot) (cs : List Spot) → StepsUp (λ a b. pos 0 <ℤ turn a b p) b cs → LeftOf p b cs
weaker p b [] h = tt
weaker p b (a ∷ cs) h = let k = h.0 in (omega (arith, ints), weaker p a cs h.1)

same_left : (b p s : Spot) → s ≡ b → pos 0 ≤ℤ turn b p s
same_left b p s e = rw e (let z = turn_start b p in omega (arith, ints))

joins : (hx hy : ℤ) (p s b : Spot) (cs : List Spot) → height hx hy b <ℤ height hx hy p → StepsRise hx hy b cs → BendsOn p b cs → Covering hx hy p s b cs → height hx hy s ≤ℤ height hx hy b → pos 0 ≤ℤ turn b p s
joins hx hy p s b [] t r k v q = either v.lowest
  where
    either : ((s ≡ b) ⊎ (height hx hy b <ℤ height hx hy s)) → pos 0 ≤ℤ turn b p s
    either (inl e) = same_left b p s e
    either (inr h) = absurd (omega (arith, ints))
joins hx hy p s b (a ∷ cs) t r k v q = under hx hy a b p s r.0 t q k v.left.0

-- and p is put on
pub put_on : (hx hy : ℤ) (p s b : Spot) (cs : List Spot) → height hx hy b <ℤ height hx hy p → StepsRise hx hy b cs → BendsOn p b cs → height hx hy s ≤ℤ height hx hy p → Covering hx hy p s b cs → Covers hx hy s p (b ∷ cs)
put_on hx hy p s b cs t r k q v =
    record {
      left = (by_lt_z (height hx hy b) (height hx hy s) v.above (joins hx hy p s b cs t r k v), v.left);
      below = q;
      lowest = v.lowest;
    }

pub bottom_below : (hx hy : ℤ) (b : Spot) (cs : List Spot) → StepsRise hx hy b cs → height hx hy (bottom b cs) ≤ℤ height hx hy b
bottom_below hx hy b [] r = omega (arith, ints)
bottom_below hx hy b (a ∷ cs) r = let h = bottom_below hx hy a cs r.1 in let up = r.0 in omega (arith, ints)

-- p itself
pub new_one : (hx hy : ℤ) (p b : Spot) (cs : List Spot) → height hx hy b <ℤ height hx hy p → StepsRise hx hy b cs → Bends b cs → BendsOn p b cs → Covers hx hy p p (b ∷ cs)
new_one hx hy p b cs t r h k =
    let low = bottom_below hx hy b cs r in
    record { left = (on_edge b p, weaker p b cs (bends_all hx hy p b cs t r h k)); below = omega (arith, ints); lowest = inr (omega (arith, ints)) }
  where
    on_edge : (b p : Spot) → pos 0 ≤ℤ turn b p p
    on_edge b p = let z = turn_end b p in omega (arith, ints)

-- ---- one point more
pub record Fallen (hx hy : ℤ) (p b : Spot) (cs : List Spot) : Type 0 where
  pub top : Spot
  pub rest : List Spot
  pub is : fallen p (b ∷ cs) ≡ top ∷ rest
  pub up : height hx hy top <ℤ height hx hy p
  pub rises : StepsRise hx hy top rest
  pub bends : Bends top rest
  pub bends_on : BendsOn p top rest
  pub covers : (s : Spot) → Covering hx hy p s b cs → Covering hx hy p s top rest
  pub same_bottom : bottom top rest ≡ bottom b cs
  pub members : (s : Spot) → In s (top ∷ rest) → In s (b ∷ cs)

pub fall : (hx hy : ℤ) (p b : Spot) (cs : List Spot) → height hx hy b <ℤ height hx hy p → StepsRise hx hy b cs → Bends b cs → Fallen hx hy p b cs
fall hx hy p b [] t r h = record { top = b; rest = []; is = refl; up = t; rises = tt; bends = tt; bends_on = tt; covers = λ s v. v; same_bottom = refl; members = λ s i. i }
fall hx hy p b (a ∷ cs) t r h =
    let q = r.0 in
    by (fall hx hy p a cs (omega (arith, ints)) r.1 h.1) (int_lt (pos 0) (turn a b p)) refl
  where
    by : Fallen hx hy p a cs → (u : Bool) → int_lt (pos 0) (turn a b p) ≡ u → Fallen hx hy p b (a ∷ cs)
    by f true e = record { top = b; rest = a ∷ cs; is = ap (λ u. cond u (b ∷ a ∷ cs) (fallen p (a ∷ cs))) e; up = t; rises = r; bends = h; bends_on = omega (arith, ints); covers = λ s v. v; same_bottom = refl; members = λ s i. i }
    by f false e =
        record {
          top = f.top;
          rest = f.rest;
          is = ap (λ u. cond u (b ∷ a ∷ cs) (fallen p (a ∷ cs))) e ∙ f.is;
          up = f.up;
          rises = f.rises;
          bends = f.bends;
          bends_on = f.bends_on;
          covers = λ s v. f.covers s (passed hx hy p s b a cs t r (omega (arith, ints)) v);
          same_bottom = f.same_bottom;
          members = λ s i. inr (f.members s i);
        }

-- the chain c of the points S
pub record Grown (hx hy : ℤ) (S : List Spot) (first : Spot) (c : List Spot) : Type 0 where
  pub top : Spot
  pub rest : List Spot
  pub is : c ≡ top ∷ rest
  pub rises : StepsRise hx hy top rest
  pub bends : Bends top rest
  pub covers : (s : Spot) → In s S → Covers hx hy s top rest
  pub from_first : bottom top rest ≡ first
  pub members : (s : Spot) → In s c → In s S

abbrev pub Ascends : ℤ → ℤ → Spot → List Spot → Type 0
Ascends hx hy t [] = Unit {0}
Ascends hx hy t (p ∷ ps) = (height hx hy t <ℤ height hx hy p) × Ascends hx hy p ps

step : (hx hy : ℤ) (S : List Spot) (first p : Spot) (c : List Spot) → (g : Grown hx hy S first c) → height hx hy g.top <ℤ height hx hy p → Grown hx hy (S ++ p ∷ []) first (p ∷ fallen p c)
step hx hy S first p c g t =
    let f = fall hx hy p g.top g.rest t g.rises g.bends in
    let e : fallen p c ≡ f.top ∷ f.rest = ap (fallen p) g.is ∙ f.is in
    record {
      top = p;
      rest = f.top ∷ f.rest;
      is = ap (λ l. p ∷ l) e;
      rises = (f.up, f.rises);
      bends = (f.bends_on, f.bends);
      covers = λ s i. either s f (In-append_cases S (p ∷ []) s i);
      from_first = f.same_bottom ∙ g.from_first;
      members = λ s i. from s f (subst (λ l. In s (p ∷ l)) e i);
    }
  where
    either : (s : Spot) (f : Fallen hx hy p g.top g.rest) → (In s S ⊎ In s (p ∷ [])) → Covers hx hy s p (f.top ∷ f.rest)
    either s f (inl i) =
        let v = g.covers s i in
        let low = v.below in
        put_on hx hy p s f.top f.rest f.up f.rises f.bends_on (omega (arith, ints)) (f.covers s (covering hx hy p s g.top g.rest v))
    either s f (inr (inr i)) = absurd i
    either s f (inr (inl e)) = subst (λ q. Covers hx hy q p (f.top ∷ f.rest)) (sym e) (new_one hx hy p f.top f.rest f.up f.rises f.bends f.bends_on)

    from : (s : Spot) (f : Fallen hx hy p g.top g.rest) → In s (p ∷ f.top ∷ f.rest) → In s (S ++ p ∷ [])
    from s f (inl e) = In-append_right S (p ∷ []) s (inl e)
    from s f (inr i) = In-append_left S (p ∷ []) s (g.members s (subst (λ l. In s l) (sym g.is) (f.members s i)))

pub grow : (hx hy : ℤ) (S : List Spot) (first : Spot) (c ps : List Spot) → (g : Grown hx hy S first c) → Ascends hx hy g.top ps → Grown hx hy (S ++ ps) first (grown c ps)
unfolding step
grow hx hy S first c [] g a = subst (λ T. Grown hx hy T first c) (sym (append-nil S)) g
grow hx hy S first c (p ∷ ps) g a =
    subst (λ T. Grown hx hy T first (grown (p ∷ fallen p c) ps)) (append_assoc S (p ∷ []) ps)
    (grow hx hy (S ++ p ∷ []) first (p ∷ fallen p c) ps (step hx hy S first p c g a.0) a.1)

pub grown_one : (hx hy : ℤ) (s : Spot) → Grown hx hy (s ∷ []) s (s ∷ [])
grown_one hx hy s = record { top = s; rest = []; is = refl; rises = tt; bends = tt; covers = λ p i. alone p i; from_first = refl; members = λ p i. i }
  where
    alone : (p : Spot) → In p (s ∷ []) → Covers hx hy p s []
    alone p (inl e) = subst (λ q. Covers hx hy q s []) (sym e) (record { left = tt; below = omega (arith, ints); lowest = inl refl })
    alone p (inr i) = absurd i

-- the chain of ascending points
pub grown_all : (hx hy : ℤ) (s : Spot) (ps : List Spot) → Ascends hx hy s ps → Grown hx hy (s ∷ ps) s (grown [] (s ∷ ps))
unfolding grown_one
grown_all hx hy s ps a = grow hx hy (s ∷ []) s (s ∷ []) ps (grown_one hx hy s) a
