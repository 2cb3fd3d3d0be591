-- The corners of a hull are those of a part, and what a loop over the listed parts keeps.
use Rattle.std.proofs.Common.{◌≡◌, ℕ, ◌+◌, ◌<◌, ◌≤◌, ℤ, pos, ◌-ℤ◌, ◌*ℤ◌, ◌<ℤ◌, ◌≤ℤ◌, ◌↔◌, List, [], ◌∷◌, ◌++◌, length, take, drop, get_or, All, Contains, Some, Ok, refl, sym, ap, ◌∙◌, subst, arith, inl, inr}
use Rattle.std.proofs.lemmas.Int.{ints}
use Rattle.std.proofs.lemmas.List.{length-append, drop_all}
use Rattle.std.proofs.lemmas.List.Elements.{All-nil, All-cons, All-append}
use Rattle.integer_laws.specs.Members.{In}
use Rattle.integer_laws.specs.Laws.Members.{In-from_contains, Contains-from_in, All-in, All-from_in}
use Rattle.integer_laws.specs.Weights.{total}
use Rattle.model_laws.specs.Turning.{LeftAbout}
use Rattle.model_laws.specs.Laws.Turning.{least_by_list, left_by_list, corners_by_list}
use Rattle.seq_model.specs.Points.{at_spot, Point}
use Rattle.outline_laws.specs.Corners.{IsNarrow}
use Rattle.seq_model.specs.Bounds.{IsNearSpot}
use Rattle.seq_model.specs.Corners.{turn, IsBefore, AreCorners}
use Rattle.seq_model.specs.Outlines.{Inner, Within}
use Rattle.seq_model.specs.Parts.{tip, IsPartName, IsSoundPart}
use Rattle.seq_model.specs.declared.printer.Part.{Part}
use Rattle.seq_model.specs.declared.printer.Spot.{Spot}
use Rattle.toml.specs.Data.{Items, Members, as_table}
use Rattle.toml.specs.View.{view, items_view}
use Rattle.toml.specs.declared.value.Value.{Value}
use Rattle.printer_text.specs.declared.top.Sizes.{Sizes}
use Rattle.printer_text.specs.Outlines.{IsListedPart}
use Rattle.printer_text.specs.Printers.{part_in, parts_behind, IsKept, AreKept, ArePartsOf}
use Rattle.printer_text.specs.Values.{count}
use Rattle.printer_text.proofs.ItemLaws.{items_more}

pub near_enough : (S : List Spot) → All (IsNearSpot 100_000) S → All IsNarrow S
near_enough S all = All-from_in IsNarrow S (λ s i. one s (All-in (IsNearSpot 100_000) S s all i))
  where
    one : (s : Spot) → IsNearSpot 100_000 s → IsNarrow s
    one s h = (let x = h.x in let y = h.y in (omega arith, omega arith))

-- ---- members that differ are no more than those they are among

abbrev Apart : List Spot → Type 0
Apart [] = Unit {0}
Apart (c ∷ cs) = ((d : Spot) → In d cs → d ≡ c → ⊥) × Apart cs

record Without (c : Spot) (S : List Spot) : Type 0 where
  rest : List Spot
  shorter : length S ≡ length rest + 1
  others : (d : Spot) → In d S → (d ≡ c → ⊥) → In d rest

without : (c : Spot) (S : List Spot) → In c S → Without c S
without c [] i = absurd i
without c (s ∷ S) (inl e) = record { rest = S; shorter = omega arith; others = others }
  where
    others : (d : Spot) → In d (s ∷ S) → (d ≡ c → ⊥) → In d S
    others d (inl f) n = absurd (n (f ∙ sym e))
    others d (inr j) n = j
without c (s ∷ S) (inr i) =
    let w = without c S i in
    let shorter = w.shorter in
    record { rest = s ∷ w.rest; shorter = omega (arith, shorter); others = others w }
  where
    others : (w : Without c S) (d : Spot) → In d (s ∷ S) → (d ≡ c → ⊥) → In d (s ∷ w.rest)
    others w d (inl f) n = inl f
    others w d (inr j) n = inr (w.others d j n)

no_more : (C S : List Spot) → Apart C → ((d : Spot) → In d C → In d S) → length C ≤ length S
no_more [] S a h = omega arith
no_more (c ∷ C) S a h =
    let w = without c S (h c (inl refl)) in
    let shorter = w.shorter in
    let rest = no_more C w.rest a.1 (λ d i. w.others d (h d (inr i)) (a.0 d i)) in
    omega (arith, shorter, rest)

no_turn : (p q : ℤ) → pos 0 <ℤ (p *ℤ q -ℤ q *ℤ p) → ⊥
no_turn p q h = omega (arith, ints)

left_apart : (a : Spot) (cs : List Spot) → LeftAbout a cs → Apart cs
left_apart a [] h = tt
left_apart a (b ∷ cs) h = (other, left_apart a cs h.1)
  where
    other : (d : Spot) → In d cs → d ≡ b → ⊥
    other d i e =
        let turns : pos 0 <ℤ turn a b d = All-in (λ c. pos 0 <ℤ turn a b c) cs d h.0 i in
        let P : Spot → Type 0 = λ c. pos 0 <ℤ turn a b c in
        no_turn (b.x -ℤ a.x) (b.y -ℤ a.y) (subst P e turns)

never_before : (c : Spot) → IsBefore c c → ⊥
never_before c h = (let k = h.1 refl in omega (arith, ints))

apart : (C : List Spot) → AreCorners C → Apart C
apart [] h = tt
apart (c ∷ cs) h = (other, left_apart c cs (left_by_list (c ∷ cs) h).0)
  where
    other : (d : Spot) → In d cs → d ≡ c → ⊥
    other d i e = never_before c (subst (IsBefore c) e (All-in (IsBefore c) cs d (least_by_list (c ∷ cs) h) i))

-- ---- a hull of a point has a corner

some_weight : (w : List ℤ) → pos 1 ≤ℤ total {A = Spot} [] w → ⊥
some_weight [] h = omega (arith, ints)
some_weight (k ∷ w) h = omega (arith, ints)

within_some : (C : List Spot) (q : Point) → Within C q → 1 ≤ length C
within_some [] q h = absurd (some_weight h.w h.some)
within_some (c ∷ C) q h = omega arith

hull_some : (S C : List Spot) → 1 ≤ length S → All (λ s. Within C (at_spot s)) S → 1 ≤ length C
hull_some [] C some all = absurd (omega arith)
hull_some (s ∷ S) C some all = within_some C (at_spot s) (All-in (λ t. Within C (at_spot t)) (s ∷ S) s all (inl refl))

-- ---- parts

record IsHull (S C : List Spot) : Type 0 where
  corners : AreCorners C
  members : All (Contains S) C
  within : All (λ s. Within C (at_spot s)) S
  inner : (q : Point) → Inner C q ↔ Inner S q

pub kept_of : (part : Part) (S C K : List Spot) → S ≡ part.corners → K ≡ C → AreCorners C → All (Contains S) C → All (λ s. Within C (at_spot s)) S → ((q : Point) → Inner C q ↔ Inner S q)
    → IsKept part (record { name = part.name; corners = K; lo = part.lo; hi = part.hi })
kept_of part S C K e f corners members within inner =
    let there : IsHull S C = record { corners = corners; members = members; within = within; inner = inner } in
    let h : IsHull part.corners K = subst (IsHull part.corners) (sym f) (subst (λ T. IsHull T C) e there) in
    record { name = refl; lo = refl; hi = refl; corners = h.corners; members = h.members; within = h.within; inner = h.inner }

pub sound_part : (part kept : Part) → IsListedPart part → IsKept part kept → IsSoundPart kept
sound_part part kept l k =
    let member : (d : Spot) → In d kept.corners → In d part.corners = λ d i. In-from_contains part.corners d (All-in (Contains part.corners) kept.corners d k.members i) in
    let shorter = no_more kept.corners part.corners (apart kept.corners k.corners) member in
    let few = l.outline.few in
    record {
      name = subst IsPartName (sym k.name) l.name;
      some = hull_some part.corners kept.corners l.outline.some k.within;
      few = omega (arith, shorter, few);
      near = All-from_in (IsNearSpot 100_000) kept.corners (λ d i. All-in (IsNearSpot 100_000) part.corners d l.outline.near (member d i));
      corners = k.corners;
      low = (let e = k.lo in let h = l.low in omega (arith, e, h));
      high = λ hi e. (let h = l.high hi (sym k.hi ∙ e) in let same = k.lo in let up = h.0 in let most = h.1 in (omega (arith, same, up), most));
    }

pub kept_tip : IsKept tip tip
kept_tip = record {
  name = refl;
  lo = refl;
  hi = refl;
  corners = corners_by_list tip.corners (All-nil _) (tt, tt);
  members = All-from_in (Contains tip.corners) tip.corners (λ s i. Contains-from_in tip.corners s i);
  within = All-from_in (λ s. Within tip.corners (at_spot s)) tip.corners at;
  inner = λ q. (λ h. h, λ h. h);
}
  where
    at : (s : Spot) → In s tip.corners → Within tip.corners (at_spot s)
    at s (inl e) = (let P : Spot → Type 0 = λ t. Within tip.corners (at_spot t) in subst P (sym e) (record { point = record { positive = omega (arith, ints) }; w = pos 1 ∷ []; weights = (omega (arith, ints), tt); some = omega (arith, ints); x = refl; y = refl }))
    at s (inr i) = absurd i

pub sound_tip : IsSoundPart tip
sound_tip = record {
  name = record { some = omega arith; few = omega arith; plain = refl };
  some = omega arith;
  few = omega arith;
  near = All-from_in (IsNearSpot 100_000) tip.corners at;
  corners = kept_tip.corners;
  low = omega arith;
  high = λ hi e. (let same : 0 ≡ hi = cc in (omega (arith, same), omega (arith, same)));
}
  where
    at : (s : Spot) → In s tip.corners → IsNearSpot 100_000 s
    at s (inl e) = subst (IsNearSpot 100_000) (sym e) (record { x = omega arith; y = omega arith })
    at s (inr i) = absurd i

AreKept-snoc : (parts kept : List Part) (p k : Part) → AreKept parts kept → IsKept p k → AreKept (parts ++ p ∷ []) (kept ++ k ∷ [])
AreKept-snoc [] [] p k a h = (h, tt)
AreKept-snoc [] (l ∷ kept) p k a h = absurd a
AreKept-snoc (q ∷ parts) [] p k a h = absurd a
AreKept-snoc (q ∷ parts) (l ∷ kept) p k a h = (a.0, AreKept-snoc parts kept p k a.1 h)

-- what a loop over the listed parts keeps
pub record Behind (sizes : Sizes) (all rest : Items) (n : ℕ) (kept : List Part) : Type 0 where
  pub parts : List Part
  pub reads : parts_behind n sizes parts rest ≡ parts_behind 1 sizes (tip ∷ []) all
  pub keeps : AreKept parts kept
  pub first : take 1 kept ≡ tip ∷ []
  pub number : length kept + count rest ≡ count all + 1
  pub sound : All IsSoundPart kept

pub begins : (sizes : Sizes) (all : Items) → Behind sizes all all 1 (tip ∷ [])
begins sizes all = record {
  parts = tip ∷ [];
  reads = refl;
  keeps = (kept_tip, tt);
  first = refl;
  number = omega arith;
  sound = All-cons IsSoundPart tip [] sound_tip (All-nil IsSoundPart);
}

first_kept : (kept : List Part) (k : Part) → take 1 kept ≡ tip ∷ [] → take 1 (kept ++ k ∷ []) ≡ tip ∷ []
first_kept [] k e = absurd cc
first_kept (p ∷ kept) k e = e

pub goes_on : (sizes : Sizes) (all : Items) (vs : List Value) (i : ℕ) (d : Value) (kept : List Part) (t : Members) (part k : Part) → i < length vs → Behind sizes all (items_view (drop i vs)) (i + 1) kept
    → as_table (view (get_or vs i d)) ≡ Some t → part_in (i + 1) sizes t ≡ Ok part → IsKept part k → IsSoundPart k → Behind sizes all (items_view (drop (i + 1) vs)) (i + 1 + 1) (kept ++ k ∷ [])
goes_on sizes all vs i d kept t part k h b is read keep sound =
    let more = items_more vs i d h in
    let long = length-append kept (k ∷ []) in
    let number = b.number in
    let step : count (items_view (drop i vs)) ≡ count (items_view (drop (i + 1) vs)) + 1 = ap count more in
    record {
      parts = b.parts ++ part ∷ [];
      reads = (let e : parts_behind (i + 1) sizes b.parts (items_view (drop i vs)) ≡ parts_behind (i + 1 + 1) sizes (b.parts ++ part ∷ []) (items_view (drop (i + 1) vs)) = rw (more, is, read) refl in sym e ∙ b.reads);
      keeps = AreKept-snoc b.parts kept part k b.keeps keep;
      first = first_kept kept k b.first;
      number = omega (arith, long, number, step);
      sound = All-append IsSoundPart kept (k ∷ []) b.sound (All-cons IsSoundPart k [] sound (All-nil IsSoundPart));
    }

pub ends : (sizes : Sizes) (all : Items) (vs : List Value) (i : ℕ) (kept : List Part) → length vs ≤ i → count all ≤ 12 → Behind sizes all (items_view (drop i vs)) (i + 1) kept → ArePartsOf sizes all kept
ends sizes all vs i kept h few b =
    let none = drop_all i vs h in
    let number = b.number in
    let left : count (items_view (drop i vs)) ≡ 0 = ap (λ l. count (items_view l)) none in
    record {
      parts = b.parts;
      read = (let last : parts_behind (i + 1) sizes b.parts (items_view (drop i vs)) ≡ Ok b.parts = rw none refl in sym b.reads ∙ last);
      keeps = b.keeps;
      sound = record { tip_first = b.first; few = omega (arith, number, left, few); sound = b.sound };
    }
