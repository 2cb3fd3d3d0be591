-- A walk over half-edges in ascending order counts the open edges.
use Rattle.std.proofs.Common.{◌≡◌, ℕ, ◌+◌, List, [], ◌∷◌, map, zero-add, refl, ap, ap₂, sym, subst, ◌∙◌, arith, ℤ, pos, ◌+ℤ◌, ◌-ℤ◌, unsigned_abs, Bool, true, false, cond, Ordering, Less, Equal, Greater, inl, inr}
use Rattle.std.specs.Ordering.{is_eq, is_gt, is_lt, ordering_then, ordering_reverse}
use Rattle.std.proofs.lemmas.Bool.{cond_both}
use Rattle.std.proofs.lemmas.List.Sums.{sum_by-cons}
use Rattle.std.proofs.lemmas.Cmp.{tied_itself, upto}
use Rattle.std.proofs.lemmas.Int.{ints}
use Rattle.integer_laws.specs.Members.{In}
use Rattle.seq_model.specs.declared.mesh.Point3.{Point3}
use Rattle.mesh_checks.specs.declared.half_edges.HalfEdge.{HalfEdge}
use Rattle.mesh_checks.specs.Edges.{Edge, edge, turned, same_edge, times, open_in}
use Rattle.mesh_checks.specs.Runs.{point_cmp, ends_cmp, edge_of, half_edge, sign_of, runs, all_runs, IsUpright, AscendsFrom, IsAscending}
use Rattle.mesh_checks.proofs.Counts.{times_same, times_other, open_same}
use Rattle.mesh_checks.proofs.Steps.{step}
use Rattle.mesh_checks.proofs.Ends.{ends_total, two_points, turned_down, same_ends, less_after}

-- after the edges es, a walk has counted t in the runs before that of low and high, which has the balance k
pub record Counted (es : List Edge) (low high : Point3) (k : ℤ) (t : ℕ) : Type 0 where
  pub count : t + unsigned_abs k ≡ open_in es
  pub balance : k ≡ pos (times es (edge low high)) -ℤ pos (times es (edge high low))

abbrev from : Edge → Point3
from e = e.from

abbrev to : Edge → Point3
to e = e.to

one_more : (low high : Point3) (forward : Bool) (es : List Edge) (k : ℤ) (t : ℕ) → point_cmp low high ≡ Less → Counted es low high k t → Counted (edge_of (half_edge low high forward) ∷ es) low high (k +ℤ sign_of (half_edge low high forward)) t
one_more low high true es k t up counted =
    let line : edge low high ≡ edge high low → ⊥ = λ q. two_points low high up (ap from q) in
    let s = step (edge low high) es line in
    let a = times_same (edge low high) es in
    let b = times_other (edge low high) (edge high low) es (λ q. line (sym q)) in
    let c = counted.count in
    let d = counted.balance in
    record { count = omega (arith, ints, s.before, s.after); balance = omega (arith, ints) }
one_more low high false es k t up counted =
    let line : edge high low ≡ edge low high → ⊥ = λ q. two_points low high up (ap to q) in
    let s = step (edge high low) es line in
    let a = times_same (edge high low) es in
    let b = times_other (edge high low) (edge low high) es (λ q. line (sym q)) in
    let c = counted.count in
    let d = counted.balance in
    record { count = omega (arith, ints, s.before, s.after); balance = omega (arith, ints) }

-- a half-edge that stands before another in order doesn't go along its edge, in neither direction
not_same : (v w : HalfEdge) → ends_cmp v w ≡ Less → w.low ≡ v.low → w.high ≡ v.high → ⊥
not_same v w less p q = cc (ap₂ (λ a b. ordering_then (point_cmp a w.low) (point_cmp b w.high)) p q, tied_itself ends_total w)

not_crossed : (v w : HalfEdge) → IsUpright v → IsUpright w → w.high ≡ v.low → w.low ≡ v.high → ⊥
not_crossed v w up right p q = cc (turned_down w.low w.high right, ap₂ point_cmp p q)

apart : (low high : Point3) (forward : Bool) (w : HalfEdge) → point_cmp low high ≡ Less → IsUpright w → ends_cmp (half_edge low high forward) w ≡ Less → (edge w.low w.high ≡ edge_of (half_edge low high forward) → ⊥) × (edge w.high w.low ≡ edge_of (half_edge low high forward) → ⊥)
apart low high true w up right less = ((λ q. not_same (half_edge low high true) w less (ap from q) (ap to q)), (λ q. not_crossed (half_edge low high true) w up right (ap from q) (ap to q)))
apart low high false w up right less = ((λ q. not_crossed (half_edge low high false) w up right (ap to q) (ap from q)), (λ q. not_same (half_edge low high false) w less (ap to q) (ap from q)))

fresh : (u w : HalfEdge) (done : List HalfEdge) → IsUpright w → ends_cmp u w ≡ Less → ((x : HalfEdge) → In x done → IsUpright x × (is_gt (ends_cmp x u) ≡ false)) → (times (map edge_of done) (edge w.low w.high) ≡ 0) × (times (map edge_of done) (edge w.high w.low) ≡ 0)
fresh u w [] right less before = (refl, refl)
fresh u w (x ∷ done) right less before =
    let it = before x (inl refl) in
    let no = apart x.low x.high x.forward w it.0 right (less_after x u w it.1 less) in
    let rest = fresh u w done right less (λ y i. before y (inr i)) in
    (times_other (edge_of x) (edge w.low w.high) (map edge_of done) no.0 ∙ rest.0, times_other (edge_of x) (edge w.high w.low) (map edge_of done) no.1 ∙ rest.1)

-- ---- the walk
pub reversed_onto : List HalfEdge → List HalfEdge → List HalfEdge
reversed_onto [] done = done
reversed_onto (w ∷ ws) done = reversed_onto ws (w ∷ done)

equal_from : (o : Ordering) → is_eq o ≡ true → o ≡ Equal
equal_from Less e = cc
equal_from Equal e = refl
equal_from Greater e = cc

-- u isn't above w
up_from : (u w : HalfEdge) → is_lt (ends_cmp w u) ≡ false → is_gt (ends_cmp u w) ≡ false
up_from u w low = by (ends_cmp w u) refl low
  where
    by : (o : Ordering) → ends_cmp w u ≡ o → is_lt o ≡ false → is_gt (ends_cmp u w) ≡ false
    by Less e h = cc
    by Equal e h = ap is_gt (ends_total.antisymm u w ∙ ap ordering_reverse e)
    by Greater e h = ap is_gt (ends_total.antisymm u w ∙ ap ordering_reverse e)

less_from : (o : Ordering) → is_gt o ≡ false → is_eq o ≡ false → o ≡ Less
less_from Less h e = refl
less_from Equal h e = cc
less_from Greater h e = cc

-- what stands before a half-edge: upright half-edges that aren't above it
abbrev pub Before : HalfEdge → List HalfEdge → Type 0
Before u done = (x : HalfEdge) → In x done → IsUpright x × (is_gt (ends_cmp x u) ≡ false)

before_next : (u w : HalfEdge) (done : List HalfEdge) → IsUpright w → is_gt (ends_cmp u w) ≡ false → Before u done → Before w (w ∷ done)
before_next u w done right up before x (inl q) = (subst IsUpright (sym q) right, ap is_gt (ap (λ v. ends_cmp v w) q ∙ tied_itself ends_total w))
before_next u w done right up before x (inr i) = let it = before x i in (it.0, upto ends_total x u w it.1 up)

same_run : (u w : HalfEdge) (es : List Edge) (k : ℤ) (t : ℕ) → ends_cmp u w ≡ Equal → Counted es u.low u.high k t → Counted es w.low w.high k t
same_run u w es k t same counted = let e = same_ends u w same in subst (λ p. Counted es w.low p k t) e.1 (subst (λ p. Counted es p u.high k t) e.0 counted)

next_run : (u w : HalfEdge) (done : List HalfEdge) (k : ℤ) (t : ℕ) → IsUpright w → ends_cmp u w ≡ Less → Before u done → Counted (map edge_of done) u.low u.high k t → Counted (map edge_of done) w.low w.high (pos 0) (t + unsigned_abs k)
next_run u w done k t right less before counted =
    let none = fresh u w done right less before in
    let a = none.0 in
    let b = none.1 in
    let c = counted.count in
    record { count = omega (arith, ints); balance = omega (arith, ints) }

pub walk : (u : HalfEdge) (k : ℤ) (ws done : List HalfEdge) (t : ℕ) → Counted (map edge_of done) u.low u.high k t → AscendsFrom u ws → ((x : HalfEdge) → In x ws → IsUpright x) → Before u done → t + runs u k ws ≡ open_in (map edge_of (reversed_onto ws done))
unfolding reversed_onto
walk u k [] done t counted up right before = counted.count
walk u k (w ∷ ws) done t counted up right before =
    let above = up_from u w up.0 in
    let later = λ (x : HalfEdge) (i : In x ws). right x (inr i) in
    let first = right w (inl refl) in
    let behind = before_next u w done first above before in
    cond_both (is_eq (ends_cmp u w)) (runs w (k +ℤ sign_of w) ws) (unsigned_abs k + runs w (pos 0 +ℤ sign_of w) ws) (λ n. t + n ≡ open_in (map edge_of (reversed_onto ws (w ∷ done))))
    (λ same.
    let here = same_run u w (map edge_of done) k t (equal_from (ends_cmp u w) same) counted in
    walk w (k +ℤ sign_of w) ws (w ∷ done) t (one_more w.low w.high w.forward (map edge_of done) k t first here) up.1 later behind)
    (λ other.
    let here = next_run u w done k t first (less_from (ends_cmp u w) above other) before counted in
    let rest = walk w (pos 0 +ℤ sign_of w) ws (w ∷ done) (t + unsigned_abs k) (one_more w.low w.high w.forward (map edge_of done) (pos 0) (t + unsigned_abs k) first here) up.1 later behind in
    omega arith)

-- the order in which the walk leaves them behind doesn't matter
times-reversed : (ws done : List HalfEdge) (e : Edge) → times (map edge_of (reversed_onto ws done)) e ≡ times (map edge_of ws) e + times (map edge_of done) e
unfolding reversed_onto
times-reversed [] done e = sym (zero-add (times (map edge_of done) e))
times-reversed (w ∷ ws) done e =
    let r = times-reversed ws (w ∷ done) e in
    let a = sum_by-cons (λ d. cond (same_edge e d) 1 0) (edge_of w) (map edge_of done) in
    let b = sum_by-cons (λ d. cond (same_edge e d) 1 0) (edge_of w) (map edge_of ws) in
    omega arith

pub all_runs_are_open : (ws : List HalfEdge) → IsAscending ws → ((x : HalfEdge) → In x ws → IsUpright x) → all_runs ws ≡ open_in (map edge_of ws)
all_runs_are_open [] up right = refl
all_runs_are_open (w ∷ ws) up right =
    let itself : is_lt (ends_cmp w w) ≡ false = ap is_lt (tied_itself ends_total w) in
    let start : Counted [] w.low w.high (pos 0) 0 = record { count = refl; balance = refl } in
    let whole = walk w (pos 0) (w ∷ ws) [] 0 start (itself, up) right (λ x i. absurd i) in
    let same = open_same (map edge_of (reversed_onto (w ∷ ws) [])) (map edge_of (w ∷ ws)) (λ e. let a = times-reversed (w ∷ ws) [] e in let b = times-reversed (w ∷ ws) [] (turned e) in omega arith) in
    omega arith
