-- How often edges stand in lists, and what sums of their excess depend on.
use Rattle.std.proofs.Common.{◌≡◌, ◌+◌, ◌<◌, List, [], ◌∷◌, ap, sym, subst, ◌∙◌, arith, inl, inr, Bool, true, false, cond, sum_by}
use Rattle.std.specs.List.{list_any}
use Rattle.std.proofs.lemmas.Bool.{or_cases, or_left, or_right, cond_both}
use Rattle.std.proofs.lemmas.List.Sums.{sum_by-cons}
use Rattle.integer_laws.specs.Members.{In}
use Rattle.mesh_checks.specs.Edges.{Edge, turned, same_edge, times, excess, each_once, open_in}
use Rattle.mesh_checks.proofs.Same.{edges_same, same_edge_is, edge_itself, other_edge, edge_cases}
use Rattle.mesh_checks.proofs.Sums.{Once, one_sum, sum_alike}

pub times_same : (e : Edge) (es : List Edge) → times (e ∷ es) e ≡ 1 + times es e
times_same e es = sum_by-cons _ e es ∙ ap (λ b. cond b 1 0 + times es e) (edge_itself e)

pub times_other : (d e : Edge) (es : List Edge) → (e ≡ d → ⊥) → times (d ∷ es) e ≡ times es e
times_other d e es other =
    let c = sum_by-cons (λ x. cond (same_edge e x) 1 0) d es in
    let n = ap (λ b. cond b 1 0 + times es e) (other_edge e d other) in
    omega arith

pub in_from_times : (e : Edge) (es : List Edge) → 0 < times es e → In e es
in_from_times e [] h = absurd (omega arith)
in_from_times e (d ∷ es) h = edge_cases e d inl (λ other. let t = times_other d e es other in inr (in_from_times e es (omega arith)))

-- ---- the different edges
in_from_any : (e : Edge) (es : List Edge) → list_any (same_edge e) es ≡ true → In e es
in_from_any e [] h = absurd (true_false h)
  where
    true_false : false ≡ true → ⊥
    true_false q = cc
in_from_any e (d ∷ es) h =
    elim (or_cases (same_edge e d) (list_any (same_edge e) es) h) [
      | inl s ↦ inl (same_edge_is e d s)
      | inr a ↦ inr (in_from_any e es a)
    ]

any_from_in : (e : Edge) (es : List Edge) → In e es → list_any (same_edge e) es ≡ true
any_from_in e [] i = absurd i
any_from_in e (d ∷ es) (inl q) = or_left (same_edge e d) _ (ap (same_edge e) (sym q) ∙ edge_itself e)
any_from_in e (d ∷ es) (inr i) = or_right (same_edge e d) _ (any_from_in e es i)

pub in_each_once : (e : Edge) (es : List Edge) → In e es → In e (each_once es)
in_each_once e [] i = i
in_each_once e (d ∷ es) (inl q) =
    cond_both (list_any (same_edge d) es) (each_once es) (d ∷ each_once es) (In e)
    (λ again. in_each_once e es (subst (λ t. In t es) (sym q) (in_from_any d es again)))
    (λ new. inl q)
in_each_once e (d ∷ es) (inr i) =
    cond_both (list_any (same_edge d) es) (each_once es) (d ∷ each_once es) (In e)
    (λ again. in_each_once e es i)
    (λ new. inr (in_each_once e es i))

pub in_from_each_once : (e : Edge) (es : List Edge) → In e (each_once es) → In e es
in_from_each_once e [] = λ i. i
in_from_each_once e (d ∷ es) =
    cond_both (list_any (same_edge d) es) (each_once es) (d ∷ each_once es) (λ l. In e l → In e (d ∷ es))
    (λ again i. inr (in_from_each_once e es i))
    (λ new i. elim i [ inl q ↦ inl q | inr j ↦ inr (in_from_each_once e es j) ])

pub once_each : (es : List Edge) → Once (each_once es)
once_each [] = tt
once_each (e ∷ es) =
    cond_both (list_any (same_edge e) es) (each_once es) (e ∷ each_once es) Once
    (λ again. once_each es)
    (λ new. (λ i. true_false (any_from_in e es (in_from_each_once e es i)) new, once_each es))
  where
    true_false : {b : Bool} → b ≡ true → b ≡ false → ⊥
    true_false p q = cc

-- ---- the sum
pub has_excess : (es : List Edge) (e : Edge) → 0 < excess es e → In e (each_once es)
has_excess es e h = in_each_once e es (in_from_times e es (omega arith))

pub two_ends : (es : List Edge) (e : Edge) → 0 < excess es e → e.from ≡ e.to → ⊥
two_ends es e h q = let same = ap (times es) (edges_same e (turned e) q (sym q)) in omega arith

pub open_over : (es pairs : List Edge) → Once pairs → ((e : Edge) → 0 < excess es e → In e pairs) → sum_by (excess es) pairs ≡ open_in es
open_over es pairs once has = one_sum (excess es) pairs (each_once es) once (once_each es) has (has_excess es)

-- it depends on the excess of each edge alone
pub open_same : (ds es : List Edge) → ((e : Edge) → excess ds e ≡ excess es e) → open_in ds ≡ open_in es
open_same ds es h =
    sym (open_over ds (each_once es) (once_each es) (λ e p. let q = h e in has_excess es e (omega arith)))
    ∙ sum_alike (excess ds) (excess es) (each_once es) (λ e i. h e)
