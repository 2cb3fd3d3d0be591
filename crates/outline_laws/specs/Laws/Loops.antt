-- What the loops over corners compute.
--
--   IsShort d, IsShortOption d      components below 2^22 in size
--   back dir                        the opposite direction
--   edge_if t u v, edges_if t C     the directions of edges, turned round where t is true
--   edges_plain, edges_turned
--   first-append                    the first after a direction, of a joined list
use Rattle.std.proofs.Common.{◌≡◌, ◌+◌, ℕ, zero, suc, length, get_or, arith, List, [], ◌∷◌, ◌++◌, map, refl, ap, true, false, Option}
use Rattle.seq_model.specs.declared.printer.Spot.{Spot}
use Rattle.seq_model.specs.declared.tree.Dir.{Dir}
use Rattle.outline_laws.specs.Laws.Polygons.{last_of}
pub use Rattle.outline_laws.specs.Edges.{last_in_list, back, edge_if, edges_along, edges_if, raw, raws, edges_of}
pub use Rattle.outline_laws.specs.Directions.{IsShort, IsShortOption, crossed, better, first_after}

pub last_at : (C : List Spot) (m : ℕ) (d : Spot) → m + 1 ≡ length C → get_or C m d ≡ last_in_list C
last_at [] m d h = absurd (omega (arith, h))
last_at (c ∷ []) zero d h = refl
last_at (c ∷ []) (suc m) d h = absurd (omega (arith, h))
last_at (c ∷ e ∷ es) zero d h = absurd (omega (arith, h))
last_at (c ∷ e ∷ es) (suc m) d h = last_at (e ∷ es) m d (omega (arith, h))

plain_along : (u : Spot) (vs : List Spot) → edges_along false u vs ≡ raws u vs
plain_along u [] = refl
plain_along u (v ∷ vs) = ap (λ ds. raw u v ∷ ds) (plain_along v vs)

turned_along : (u : Spot) (vs : List Spot) → edges_along true u vs ≡ map back (raws u vs)
turned_along u [] = refl
turned_along u (v ∷ vs) = ap (λ ds. back (raw u v) ∷ ds) (turned_along v vs)

pub edges_plain : (C : List Spot) → edges_if false C ≡ edges_of C
edges_plain [] = refl
edges_plain (c ∷ cs) = plain_along (last_of c cs) (c ∷ cs)

pub edges_turned : (C : List Spot) → edges_if true C ≡ map back (edges_of C)
edges_turned [] = refl
edges_turned (c ∷ cs) = turned_along (last_of c cs) (c ∷ cs)

pub first-append : (after best : Option Dir) (ds es : List Dir) → first_after after best (ds ++ es) ≡ first_after after (first_after after best ds) es
first-append after best [] es = refl
first-append after best (d ∷ ds) es = first-append after (better after best d) ds es
