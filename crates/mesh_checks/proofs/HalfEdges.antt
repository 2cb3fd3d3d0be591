-- The half-edges along edges have the excess of the edges, in whatever order they stand.
use Rattle.std.proofs.Common.{◌≡◌, ◌*◌, ◌≤◌, List, [], ◌∷◌, ◌++◌, length, map, refl, ap, sym, subst, ◌∙◌, arith, true, false, cond, Ordering, Less, Equal, Greater, inl, inr}
use Rattle.std.specs.List.Sorted.{IsPermutation}
use Rattle.std.specs.Ordering.{match_ordering, ordering_reverse}
use Rattle.std.proofs.lemmas.List.Sums.{sum_by-cons}
use Rattle.std.proofs.lemmas.List.Sorted.{All-permutation, IsPermutation-map, sum_by-IsPermutation, length_permutation}
use Rattle.integer_laws.specs.Members.{In}
use Rattle.integer_laws.specs.Laws.Members.{In-append_cases, All-in, All-from_in}
use Rattle.seq_model.specs.declared.mesh.Facet.{Facet}
use Rattle.mesh_checks.specs.declared.half_edges.HalfEdge.{HalfEdge}
use Rattle.mesh_checks.specs.Edges.{Edge, edges, turned, same_edge, times, excess, open_in}
use Rattle.mesh_checks.specs.Runs.{point_cmp, edge_of, half_edge, half_edge_of, half_edges, all_runs, IsUpright, IsAscending}
use Rattle.mesh_checks.proofs.Same.{edges_same, edge_cases}
use Rattle.mesh_checks.proofs.Counts.{times_other, open_same}
use Rattle.mesh_checks.proofs.Ends.{point_total, one_point}
use Rattle.mesh_checks.proofs.Ascents.{all_runs_are_open}

-- ---- half-edges are upright
upright_half_edges : (es : List Edge) (w : HalfEdge) → In w (half_edges es) → IsUpright w
upright_half_edges [] w i = absurd i
upright_half_edges (e ∷ es) w i = elim (In-append_cases (half_edge_of e) (half_edges es) w i) [ inl j ↦ first (point_cmp e.from e.to) refl j | inr j ↦ upright_half_edges es w j ]
  where
    first : (o : Ordering) → point_cmp e.from e.to ≡ o → In w (match_ordering o (half_edge e.from e.to true ∷ []) [] (half_edge e.to e.from false ∷ [])) → IsUpright w
    first Less q (inl p) = subst IsUpright (sym p) q
    first Less q (inr j) = absurd j
    first Equal q j = absurd j
    first Greater q (inl p) = subst IsUpright (sym p) (point_total.antisymm e.to e.from ∙ ap ordering_reverse q)
    first Greater q (inr j) = absurd j

-- ---- an edge between two points stands as often among them
times_half_edges : (es : List Edge) (e : Edge) → (e.from ≡ e.to → ⊥) → times (map edge_of (half_edges es)) e ≡ times es e
times_half_edges [] e line = refl
times_half_edges (d ∷ es) e line = by (point_cmp d.from d.to) refl (times_half_edges es e line)
  where
    by : (o : Ordering) → point_cmp d.from d.to ≡ o → times (map edge_of (half_edges es)) e ≡ times es e
        → times (map edge_of (match_ordering o (half_edge d.from d.to true ∷ []) [] (half_edge d.to d.from false ∷ []) ++ half_edges es)) e ≡ times (d ∷ es) e
    by Less q rest =
        let a = sum_by-cons (λ x. cond (same_edge e x) 1 0) d (map edge_of (half_edges es)) in
        let b = sum_by-cons (λ x. cond (same_edge e x) 1 0) d es in
        omega arith
    by Equal q rest = rest ∙ sym (times_other d e es (λ p. line (ap (λ (x : Edge). x.from) p ∙ one_point d.from d.to q ∙ sym (ap (λ (x : Edge). x.to) p))))
    by Greater q rest =
        let a = sum_by-cons (λ x. cond (same_edge e x) 1 0) d (map edge_of (half_edges es)) in
        let b = sum_by-cons (λ x. cond (same_edge e x) 1 0) d es in
        omega arith

-- an edge from a point to itself has no excess in either list
excess_half_edges : (es : List Edge) (e : Edge) → excess (map edge_of (half_edges es)) e ≡ excess es e
excess_half_edges es e =
    edge_cases e (turned e)
    (λ q. let a = ap (times (map edge_of (half_edges es))) q in let b = ap (times es) q in omega arith)
    (λ line.
    let a = times_half_edges es e (λ q. line (edges_same e (turned e) q (sym q))) in
    let b = times_half_edges es (turned e) (λ q. line (edges_same e (turned e) (sym q) q)) in
    omega arith)

times_permutation : (vs ws : List HalfEdge) (e : Edge) → IsPermutation vs ws → times (map edge_of ws) e ≡ times (map edge_of vs) e
times_permutation vs ws e p = sum_by-IsPermutation (λ d. cond (same_edge e d) 1 0) (map edge_of vs) (map edge_of ws) (IsPermutation-map edge_of vs ws p)

pub runs_count_open : (es : List Edge) (ws : List HalfEdge) → IsPermutation (half_edges es) ws → IsAscending ws → all_runs ws ≡ open_in es
runs_count_open es ws p up =
    all_runs_are_open ws up (λ x i. All-in IsUpright ws x (All-permutation IsUpright (half_edges es) ws p (All-from_in IsUpright (half_edges es) (upright_half_edges es))) i)
    ∙ open_same (map edge_of ws) es (λ e.
    let a = times_permutation (half_edges es) ws e p in
    let b = times_permutation (half_edges es) ws (turned e) p in
    let c = excess_half_edges es e in
    omega arith)

-- ---- there are at most three for each facet
length-half_edges : (es : List Edge) → length (half_edges es) ≤ length es
length-half_edges [] = omega arith
length-half_edges (e ∷ es) = by (point_cmp e.from e.to) (length-half_edges es)
  where
    by : (o : Ordering) → length (half_edges es) ≤ length es → length (match_ordering o (half_edge e.from e.to true ∷ []) [] (half_edge e.to e.from false ∷ []) ++ half_edges es) ≤ length (e ∷ es)
    by Less rest = omega arith
    by Equal rest = omega arith
    by Greater rest = omega arith

length-edges : (facets : List Facet) → length (edges facets) ≡ 3 * length facets
length-edges [] = refl
length-edges (f ∷ facets) = let r = length-edges facets in omega arith

pub few_half_edges : (facets : List Facet) (ws : List HalfEdge) → length facets ≤ 200_000 → IsPermutation (half_edges (edges facets)) ws → length ws ≤ 600_000
few_half_edges facets ws few p =
    let a = length_permutation (half_edges (edges facets)) ws p in
    let b = length-half_edges (edges facets) in
    let c = length-edges facets in
    omega arith
