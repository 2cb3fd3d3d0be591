-- One more half-edge of a walk over runs.
use Rattle.std.proofs.Common.{◌≡◌, ℕ, ◌+◌, ◌<◌, List, ◌∷◌, length, get_or, drop, drop-cons, add-one, refl, ap, arith, ℤ, pos, ◌+ℤ◌, unsigned_abs, true, false}
use Rattle.std.specs.Ordering.{is_eq}
use Rattle.std.proofs.lemmas.Bool.{cond-true, cond-false}
use Rattle.mesh_checks.specs.declared.half_edges.HalfEdge.{HalfEdge}
use Rattle.mesh_checks.specs.Runs.{ends_cmp, sign_of, runs}

first_left : (ws : List HalfEdge) (i : ℕ) (d : HalfEdge) → i < length ws → drop i ws ≡ get_or ws i d ∷ drop (i + 1) ws
first_left ws i d h = rw (add-one, drop-cons ws i d h) refl

-- j and m are what the walk has after the half-edge, in the same run or in the next one
pub goes_on : (u d : HalfEdge) (k j : ℤ) (ws : List HalfEdge) (i n m t : ℕ) → i < length ws → is_eq (ends_cmp u (get_or ws i d)) ≡ true → n + runs u k (drop i ws) ≡ t → j ≡ k +ℤ sign_of (get_or ws i d) → m ≡ n → m + runs (get_or ws i d) j (drop (i + 1) ws) ≡ t
goes_on u d k j ws i n m t h same left balance sum =
    let e = ap (runs u k) (first_left ws i d h) in
    let f = cond-true (is_eq (ends_cmp u (get_or ws i d))) (runs (get_or ws i d) (k +ℤ sign_of (get_or ws i d)) (drop (i + 1) ws)) (unsigned_abs k + runs (get_or ws i d) (pos 0 +ℤ sign_of (get_or ws i d)) (drop (i + 1) ws)) same in
    let g : runs (get_or ws i d) j (drop (i + 1) ws) ≡ runs (get_or ws i d) (k +ℤ sign_of (get_or ws i d)) (drop (i + 1) ws) = ap (λ x. runs (get_or ws i d) x (drop (i + 1) ws)) balance in
    omega arith

pub begins : (u d : HalfEdge) (k j : ℤ) (ws : List HalfEdge) (i n m t : ℕ) → i < length ws → is_eq (ends_cmp u (get_or ws i d)) ≡ false → n + runs u k (drop i ws) ≡ t → j ≡ pos 0 +ℤ sign_of (get_or ws i d) → m ≡ n + unsigned_abs k → m + runs (get_or ws i d) j (drop (i + 1) ws) ≡ t
begins u d k j ws i n m t h other left balance sum =
    let e = ap (runs u k) (first_left ws i d h) in
    let f = cond-false (is_eq (ends_cmp u (get_or ws i d))) (runs (get_or ws i d) (k +ℤ sign_of (get_or ws i d)) (drop (i + 1) ws)) (unsigned_abs k + runs (get_or ws i d) (pos 0 +ℤ sign_of (get_or ws i d)) (drop (i + 1) ws)) other in
    let g : runs (get_or ws i d) j (drop (i + 1) ws) ≡ runs (get_or ws i d) (pos 0 +ℤ sign_of (get_or ws i d)) (drop (i + 1) ws) = ap (λ x. runs (get_or ws i d) x (drop (i + 1) ws)) balance in
    omega arith
