-- What hulls of spots are to them.
use Rattle.std.proofs.Common.{◌≡◌, ℕ, ℤ, suc, ◌+◌, ◌<◌, arith, ◌*ℤ◌, refl, length, get_or, drop, drop-cons, List, [], ◌∷◌, ◌++◌, All, Contains, subst, sym, ap, ◌∙◌, append_assoc, flat_map}
use Rattle.std.proofs.lemmas.Grind.{flat_map-append}
use Rattle.std.proofs.lemmas.Int.{ints}
use Rattle.std.proofs.lemmas.List.Elements.{All-nil, All-append}
use Rattle.seq_model.specs.Bounds.{IsPrinter, IsNearFacet}
use Rattle.mesh_slices.proofs.Nearness.{near_enough, facet_near}
use Rattle.integer_laws.specs.Laws.Members.{In-from_contains, Contains-from_in, All-in, All-from_in}
use Rattle.seq_model.specs.declared.printer.Spot.{Spot}
use Rattle.seq_model.specs.Points.{Point, at_spot}
use Rattle.seq_model.specs.declared.mesh.Facet.{Facet}
use Rattle.seq_model.specs.Bands.{facet_corners}
use Rattle.seq_model.specs.Outlines.{below, above, four_spots, spots, Within}
use Rattle.outline_laws.specs.Corners.{AreCorners, IsNarrow}
use Rattle.mesh_slices.specs.Folding.{StandsFor}
use Rattle.mesh_slices.specs.Laws.Folding.{stands_itself, stands_trans, stands_joined, inner_stands, inner_back}
use Rattle.mesh_slices.specs.Objects.{IsOutlineOf}

pub hull_stands : (S C : List Spot) → All (Contains S) C → All (λ s. Within C (at_spot s)) S → StandsFor S C
hull_stands S C members within = record {
  members = λ s i. In-from_contains S s (All-in (Contains S) C s members i);
  within = λ s i. All-in (λ t. Within C (at_spot t)) S s within i;
}

pub near_members : (P : Spot → Type 0) (S C : List Spot) → All P S → All (Contains S) C → All P C
near_members P S C all members = All-from_in P C (λ s i. All-in P S s all (In-from_contains S s (All-in (Contains S) C s members i)))

-- a list that was emptied and then filled with the corners of its hull
refilled : (C N E L : List Spot) → N ≡ E ++ L → E ≡ [] → L ≡ C → C ≡ N
refilled C N E L n e l = sym (n ∙ ap (λ x. x ++ L) e ∙ l)

pub folded : (S T C N E L : List Spot) → T ≡ S → All (Contains T) C → All (λ s. Within C (at_spot s)) T → N ≡ E ++ L → E ≡ [] → L ≡ C → StandsFor S N
folded S T C N E L t members within n e l = subst (λ X. StandsFor X N) t (subst (StandsFor T) (refilled C N E L n e l) (hull_stands T C members within))

pub folded_near : (S T C N E L : List Spot) → T ≡ S → All IsNarrow S → All (Contains T) C → N ≡ E ++ L → E ≡ [] → L ≡ C → All IsNarrow N
folded_near S T C N E L t near members n e l = subst (All IsNarrow) (refilled C N E L n e l) (near_members IsNarrow T C (subst (All IsNarrow) (sym t) near) members)

-- ---- facet by facet
abbrev pub left : ℤ → ℤ → ℤ → ℤ → List Facet → List Spot
left grain margin low high facets = spots grain margin (flat_map (facet_corners low high) facets)

pub left_next : (grain margin low high : ℤ) (f : Facet) (fs : List Facet) → left grain margin low high (f ∷ fs) ≡ spots grain margin (facet_corners low high f) ++ left grain margin low high fs
left_next grain margin low high f fs = flat_map-append (four_spots grain margin) (facet_corners low high f) (flat_map (facet_corners low high) fs)

pub start : (S B : List Spot) → B ≡ [] → StandsFor S (B ++ S)
start S B e = subst (λ X. StandsFor S (X ++ S)) (sym e) (stands_itself S)

pub near_start : (B : List Spot) → B ≡ [] → All IsNarrow B
near_start B e = subst (All IsNarrow) (sym e) (All-nil IsNarrow)

pub near_added : (grain width depth step margin low high : ℤ) (grid : ℕ) (f : Facet) (B T : List Spot) → IsPrinter grain width depth step margin grid → IsNearFacet f → T ≡ B ++ spots grain margin (facet_corners low high f) → All IsNarrow B → All IsNarrow T
near_added grain width depth step margin low high grid f B T p n t near =
    let m = p.margin_low in
    subst (All IsNarrow) (sym t) (All-append IsNarrow B (spots grain margin (facet_corners low high f)) near (near_enough (spots grain margin (facet_corners low high f)) (facet_near grain margin low high f p.grain_low (omega (arith, ints)) p.margin_high n)))

-- one more facet is added, and what is found may be folded
pub one_more : (grain margin low high : ℤ) (f : Facet) (fs : List Facet) (S B T N : List Spot) → T ≡ B ++ spots grain margin (facet_corners low high f) → StandsFor T N
    → StandsFor S (B ++ left grain margin low high (f ∷ fs)) → StandsFor S (N ++ left grain margin low high fs)
one_more grain margin low high f fs S B T N t n s =
    let R = left grain margin low high fs in
    let e : B ++ left grain margin low high (f ∷ fs) ≡ T ++ R = ap (λ X. B ++ X) (left_next grain margin low high f fs) ∙ sym (append_assoc B (spots grain margin (facet_corners low high f)) R) ∙ ap (λ X. X ++ R) (sym t) in
    stands_trans S (T ++ R) (N ++ R) (subst (StandsFor S) e s) (stands_joined T N R n)

drop_next : {A : Type 0} (l : List A) (i : ℕ) (d : A) → i < length l → drop i l ≡ get_or l i d ∷ drop (i + 1) l
drop_next l i d h = let e : suc i ≡ i + 1 = omega arith in subst (λ k. drop i l ≡ get_or l i d ∷ drop k l) e (drop-cons l i d h)

pub next_facet : (grain margin low high : ℤ) (facets : List Facet) (i : ℕ) (d : Facet) (S B T N : List Spot) → i < length facets → T ≡ B ++ spots grain margin (facet_corners low high (get_or facets i d)) → StandsFor T N
    → StandsFor S (B ++ left grain margin low high (drop i facets)) → StandsFor S (N ++ left grain margin low high (drop (i + 1) facets))
next_facet grain margin low high facets i d S B T N h t n s =
    one_more grain margin low high (get_or facets i d) (drop (i + 1) facets) S B T N t n (subst (λ fs. StandsFor S (B ++ left grain margin low high fs)) (drop_next facets i d h) s)

-- the four spots round a corner point
pub four_is : (grain margin : ℤ) (p : Point) (west east south north : ℤ) → west ≡ below margin p.x (p.d *ℤ grain) → east ≡ above margin p.x (p.d *ℤ grain)
    → south ≡ below margin p.y (p.d *ℤ grain) → north ≡ above margin p.y (p.d *ℤ grain)
    → record { x = west; y = south } ∷ record { x = east; y = south } ∷ record { x = west; y = north } ∷ record { x = east; y = north } ∷ [] ≡ four_spots grain margin p
four_is grain margin p west east south north w e s n = rw (w, e, s, n) refl

-- the hull of what stands for some spots is their outline
pub outline_is : (S B C : List Spot) → StandsFor S B → AreCorners C → All (Contains B) C → All (λ s. Within C (at_spot s)) B → IsOutlineOf S C
outline_is S B C b corners members within =
    let c = stands_trans S B C b (hull_stands B C members within) in
    record {
      corners = corners;
      members = All-from_in (Contains S) C (λ s i. Contains-from_in S s (c.members s i));
      within = All-from_in (λ s. Within C (at_spot s)) S c.within;
      inner = λ q. (inner_back S C q c, inner_stands S C q c);
    }
