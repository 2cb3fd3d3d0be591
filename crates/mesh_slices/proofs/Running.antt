-- What the loop over the facets keeps: the extremes so far, with those of the facets to come, are those of all.
use Rattle.std.proofs.Common.{◌≡◌, ℕ, ◌<◌, ◌≤◌, ℤ, pos, ◌≤ℤ◌, List, [], ◌∷◌, length, drop, map, fold, refl, sym, subst, arith, All, unsigned_abs, inl, inr, ⊎_elim}
use Rattle.std.proofs.lemmas.Int.{fold-int_min_bounds, fold-int_min_reached, fold-int_max_bounds, fold-int_max_reached}
use Rattle.std.proofs.lemmas.List.{drop_all}
use Rattle.std.proofs.lemmas.List.Elements.{All-nil, All-cons}
use Rattle.std.specs.Int.{int_min, int_max}
use Rattle.seq_model.specs.declared.mesh.Point3.{Point3}
use Rattle.seq_model.specs.declared.mesh.Facet.{Facet}
use Rattle.seq_model.specs.Bands.{vertices}
use Rattle.seq_model.specs.Bounds.{IsNear, IsNearFacet}
use Rattle.integer_laws.specs.Extremes.{least, greatest}
use Rattle.integer_laws.specs.Members.{In}
use Rattle.integer_laws.specs.Laws.Members.{In-from_contains, In-map_cases, All-in}
use Rattle.mesh_slices.proofs.Members.{all_flat}

-- the coordinates of the vertices
abbrev pub at : (Point3 → ℤ) → List Facet → List ℤ
at coordinate facets = map coordinate (vertices facets)

pub record Runs (coordinate : Point3 → ℤ) (facets rest : List Facet) (low high : Point3) : Type 0 where
  pub low_so_far : fold int_min (coordinate low) (at coordinate rest) ≡ least (at coordinate facets)
  pub high_so_far : fold int_max (coordinate high) (at coordinate rest) ≡ greatest (at coordinate facets)

pub record Running (facets rest : List Facet) (low high : Point3) : Type 0 where
  pub x : Runs (λ p. p.x) facets rest low high
  pub y : Runs (λ p. p.y) facets rest low high
  pub z : Runs (λ p. p.z) facets rest low high

least_around : (a : ℤ) (ns : List ℤ) → All (λ n. least (a ∷ ns) ≤ℤ n) (a ∷ ns)
least_around a ns =
    let b = fold-int_min_bounds a ns (least (a ∷ ns)) refl in
    All-cons (λ n. least (a ∷ ns) ≤ℤ n) a ns b.0 b.1

greatest_around : (a : ℤ) (ns : List ℤ) → All (λ n. n ≤ℤ greatest (a ∷ ns)) (a ∷ ns)
greatest_around a ns =
    let b = fold-int_max_bounds a ns (greatest (a ∷ ns)) refl in
    All-cons (λ n. n ≤ℤ greatest (a ∷ ns)) a ns b.0 b.1

-- no number is below the least
pub least_below : (ns : List ℤ) → All (λ n. least ns ≤ℤ n) ns
least_below [] = All-nil (λ n. pos 0 ≤ℤ n)
least_below (a ∷ ns) = least_around a ns

pub greatest_above : (ns : List ℤ) → All (λ n. n ≤ℤ greatest ns) ns
greatest_above [] = All-nil (λ n. n ≤ℤ pos 0)
greatest_above (a ∷ ns) = greatest_around a ns

-- the least is a member, where there is one
pub least_reached : (ns : List ℤ) → 0 < length ns → In (least ns) ns
least_reached [] h = absurd (omega (arith, h))
least_reached (a ∷ ns) h = ⊎_elim (λ e. inl e) (λ c. inr (In-from_contains ns _ c)) (fold-int_min_reached a ns (least (a ∷ ns)) refl)

pub greatest_reached : (ns : List ℤ) → 0 < length ns → In (greatest ns) ns
greatest_reached [] h = absurd (omega (arith, h))
greatest_reached (a ∷ ns) h = ⊎_elim (λ e. inl e) (λ c. inr (In-from_contains ns _ c)) (fold-int_max_reached a ns (greatest (a ∷ ns)) refl)

-- a mesh with a facet has a vertex
pub some_vertex : (coordinate : Point3 → ℤ) (facets : List Facet) → 0 < length facets → 0 < length (at coordinate facets)
some_vertex coordinate [] h = absurd (omega (arith, h))
some_vertex coordinate (f ∷ fs) h = omega arith

vertices_near : (f : Facet) → IsNearFacet f → All IsNear (f.a ∷ f.b ∷ f.c ∷ [])
vertices_near f n = All-cons IsNear f.a (f.b ∷ f.c ∷ []) n.a (All-cons IsNear f.b (f.c ∷ []) n.b (All-cons IsNear f.c [] n.c (All-nil IsNear)))

-- each vertex of near facets is near
pub all_near : (facets : List Facet) → All IsNearFacet facets → All IsNear (vertices facets)
all_near facets near = all_flat IsNearFacet IsNear (λ f. f.a ∷ f.b ∷ f.c ∷ []) vertices_near facets near

-- a vertex with the least coordinate, and one with the greatest
pub record Reaches (coordinate : Point3 → ℤ) (facets : List Facet) (n : ℤ) : Type 0 where
  pub vertex : Point3
  pub member : In vertex (vertices facets)
  pub is : coordinate vertex ≡ n

pub reaches_least : (coordinate : Point3 → ℤ) (facets : List Facet) → 0 < length facets → Reaches coordinate facets (least (at coordinate facets))
reaches_least coordinate facets some =
    let m = In-map_cases coordinate (vertices facets) (least (at coordinate facets)) (least_reached (at coordinate facets) (some_vertex coordinate facets some)) in
    record { vertex = m.0; member = m.1; is = sym m.2 }

pub reaches_greatest : (coordinate : Point3 → ℤ) (facets : List Facet) → 0 < length facets → Reaches coordinate facets (greatest (at coordinate facets))
reaches_greatest coordinate facets some =
    let m = In-map_cases coordinate (vertices facets) (greatest (at coordinate facets)) (greatest_reached (at coordinate facets) (some_vertex coordinate facets some)) in
    record { vertex = m.0; member = m.1; is = sym m.2 }

-- a coordinate that is reached is near
pub reached_near : (coordinate : Point3 → ℤ) (facets : List Facet) (n : ℤ) → ((p : Point3) → IsNear p → unsigned_abs (coordinate p) ≤ 10_000_000) → All IsNearFacet facets → Reaches coordinate facets n → unsigned_abs n ≤ 10_000_000
reached_near coordinate facets n says near r =
    subst (λ t. unsigned_abs t ≤ 10_000_000) r.is (says r.vertex (All-in IsNear (vertices facets) r.vertex (all_near facets near) r.member))

-- after the last facet nothing is to come
pub ended : (facets : List Facet) (i : ℕ) (low high : Point3) → length facets ≤ i → Running facets (drop i facets) low high → Running facets [] low high
ended facets i low high past kept = subst (λ rest. Running facets rest low high) (drop_all i facets past) kept

pub near_low : (facets : List Facet) (low high : Point3) → 0 < length facets → All IsNearFacet facets → Running facets [] low high → IsNear low
near_low facets low high some near kept = record {
  x = rw (kept.x.low_so_far) (reached_near (λ p. p.x) facets _ (λ p n. n.x) near (reaches_least (λ p. p.x) facets some));
  y = rw (kept.y.low_so_far) (reached_near (λ p. p.y) facets _ (λ p n. n.y) near (reaches_least (λ p. p.y) facets some));
  z = rw (kept.z.low_so_far) (reached_near (λ p. p.z) facets _ (λ p n. n.z) near (reaches_least (λ p. p.z) facets some));
}

pub near_high : (facets : List Facet) (low high : Point3) → 0 < length facets → All IsNearFacet facets → Running facets [] low high → IsNear high
near_high facets low high some near kept = record {
  x = rw (kept.x.high_so_far) (reached_near (λ p. p.x) facets _ (λ p n. n.x) near (reaches_greatest (λ p. p.x) facets some));
  y = rw (kept.y.high_so_far) (reached_near (λ p. p.y) facets _ (λ p n. n.y) near (reaches_greatest (λ p. p.y) facets some));
  z = rw (kept.z.high_so_far) (reached_near (λ p. p.z) facets _ (λ p n. n.z) near (reaches_greatest (λ p. p.z) facets some));
}
