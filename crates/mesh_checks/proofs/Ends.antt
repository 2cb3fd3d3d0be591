-- The order of points and of the ends of half-edges.
use Rattle.std.proofs.Common.{◌≡◌, ℕ, suc, ◌+◌, List, [], ◌∷◌, get_or, refl, ap, subst, ◌∙◌, arith, ℤ, Bool, false, Ordering, Less, Equal, Greater}
use Rattle.std.specs.Cmp.{IsTotalOrder, IsStrictWeakOrder}
use Rattle.std.specs.List.Sorted.{IsSortedBy}
use Rattle.std.specs.Ordering.{int_cmp, is_gt, is_lt, ordering_then, ordering_reverse}
use Rattle.std.proofs.lemmas.Int.{ints}
use Rattle.std.proofs.lemmas.Bool.Decides.{nat_tests}
use Rattle.std.proofs.lemmas.Cmp.{int_cmp_total, on_total, then_total, tied_itself}
use Rattle.std.proofs.lemmas.List.Sorted.{ranks_by}
use Rattle.seq_model.specs.declared.mesh.Point3.{Point3}
use Rattle.mesh_checks.specs.declared.half_edges.HalfEdge.{HalfEdge}
use Rattle.mesh_checks.specs.Runs.{point_cmp, ends_cmp, AscendsFrom, IsAscending}
use Rattle.mesh_checks.proofs.Same.{points_same}

pub point_total : IsTotalOrder point_cmp
point_total = then_total (on_total (λ (p : Point3). p.x) int_cmp_total) (then_total (on_total (λ (p : Point3). p.y) int_cmp_total) (on_total (λ (p : Point3). p.z) int_cmp_total))

pub ends_total : IsTotalOrder ends_cmp
ends_total = then_total (on_total (λ (w : HalfEdge). w.low) point_total) (on_total (λ (w : HalfEdge). w.high) point_total)

abbrev pub is_lower : HalfEdge → HalfEdge → Bool
is_lower v w = is_lt (ends_cmp v w)

pub lower_order : IsStrictWeakOrder is_lower
lower_order = ranks_by ends_total (λ (w : HalfEdge). w)

both_equal : (a b : Ordering) → ordering_then a b ≡ Equal → (a ≡ Equal) × (b ≡ Equal)
both_equal Less b e = cc
both_equal Equal b e = (refl, e)
both_equal Greater b e = cc

same_number : (x y : ℤ) → int_cmp x y ≡ Equal → x ≡ y
same_number x y e = grind (arith, ints, nat_tests)

pub one_point : (p q : Point3) → point_cmp p q ≡ Equal → p ≡ q
one_point p q e =
    let x = both_equal _ _ e in
    let y = both_equal _ _ x.1 in
    points_same p q (same_number p.x q.x x.0) (same_number p.y q.y y.0) (same_number p.z q.z y.1)

pub same_ends : (v w : HalfEdge) → ends_cmp v w ≡ Equal → (v.low ≡ w.low) × (v.high ≡ w.high)
same_ends v w e = let both = both_equal _ _ e in (one_point v.low w.low both.0, one_point v.high w.high both.1)

-- ---- what an upright half-edge isn't
pub two_points : (low high : Point3) → point_cmp low high ≡ Less → low ≡ high → ⊥
two_points low high less q = cc (ap (point_cmp low) q, tied_itself point_total low)

pub turned_down : (low high : Point3) → point_cmp low high ≡ Less → point_cmp high low ≡ Greater
turned_down low high less = point_total.antisymm high low ∙ ap ordering_reverse less

-- ---- chains
pub less_after : (x u w : HalfEdge) → is_gt (ends_cmp x u) ≡ false → ends_cmp u w ≡ Less → ends_cmp x w ≡ Less
less_after x u w up less = by (ends_cmp x u) refl up
  where
    by : (o : Ordering) → ends_cmp x u ≡ o → is_gt o ≡ false → ends_cmp x w ≡ Less
    by Less e h = ends_total.trans x u w e less
    by Equal e h = ends_total.congr x u w e ∙ less
    by Greater e h = cc

-- ---- from a sorted list
ascends_from : (u : HalfEdge) (ws : List HalfEdge) → IsSortedBy is_lower (u ∷ ws) → AscendsFrom u ws
ascends_from u [] h = tt
ascends_from u (w ∷ ws) h = (h 0 u (omega arith) (omega arith), ascends_from w ws (λ k d low high. moved k d (h (suc k) d (omega arith) (omega arith))))
  where
    moved : (k : ℕ) (d : HalfEdge) → is_lower (get_or (u ∷ w ∷ ws) (suc k + 1) d) (get_or (w ∷ ws) k d) ≡ false → is_lower (get_or (w ∷ ws) (k + 1) d) (get_or (w ∷ ws) k d) ≡ false
    moved k d g = let e : suc k + 1 ≡ suc (k + 1) = omega arith in subst (λ n. is_lower (get_or (u ∷ w ∷ ws) n d) (get_or (w ∷ ws) k d) ≡ false) e g

pub ascending_from_sorted : (ws : List HalfEdge) → IsSortedBy is_lower ws → IsAscending ws
ascending_from_sorted [] h = tt
ascending_from_sorted (w ∷ ws) h = ascends_from w ws h
