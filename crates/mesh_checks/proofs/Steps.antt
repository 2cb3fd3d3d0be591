-- What one more edge does to the number of open ones.
use Rattle.std.proofs.Common.{◌≡◌, ℕ, ◌+◌, ◌-◌, List, [], ◌∷◌, refl, ap, sym, ◌∙◌, arith, inl, inr, false, cond, sum_by}
use Rattle.std.specs.Prelude.{◌||◌}
use Rattle.std.proofs.lemmas.List.Sums.{sum_by-cons}
use Rattle.std.proofs.lemmas.Bool.{or_cases, or_parts, cond_both}
use Rattle.integer_laws.specs.Members.{In}
use Rattle.mesh_checks.specs.Edges.{Edge, turned, same_edge, times, excess, each_once, open_in}
use Rattle.mesh_checks.proofs.Same.{same_edge_is, differ, edge_cases}
use Rattle.mesh_checks.proofs.Sums.{Once, sum_alike}
use Rattle.mesh_checks.proofs.Counts.{times_same, times_other, in_from_times, in_each_once, once_each, has_excess, open_over}

-- the members that are neither e nor e turned
abbrev others : Edge → List Edge → List Edge
others e [] = []
others e (d ∷ ds) = cond (same_edge d e || same_edge d (turned e)) (others e ds) (d ∷ others e ds)

-- a member of these is a member, and neither of the two
record IsOther (e d : Edge) (ds : List Edge) : Type 0 where
  member : In d ds
  not_e : d ≡ e → ⊥
  not_turned : d ≡ turned e → ⊥

is_other : (e d : Edge) (ds : List Edge) → In d (others e ds) → IsOther e d ds
is_other e d [] = λ i. absurd i
is_other e d (c ∷ ds) =
    cond_both (same_edge c e || same_edge c (turned e)) (others e ds) (c ∷ others e ds) (λ l. In d l → IsOther e d (c ∷ ds))
    (λ left_out i. more (is_other e d ds i))
    (λ kept i. elim i [ inl q ↦ here kept q | inr j ↦ more (is_other e d ds j) ])
  where
    more : IsOther e d ds → IsOther e d (c ∷ ds)
    more o = record { member = inr o.member; not_e = o.not_e; not_turned = o.not_turned }

    here : (same_edge c e || same_edge c (turned e)) ≡ false → d ≡ c → IsOther e d (c ∷ ds)
    here kept q =
        let apart = or_parts (same_edge c e) (same_edge c (turned e)) kept in
        record { member = inl q; not_e = λ p. differ c e apart.0 (sym q ∙ p); not_turned = λ p. differ c (turned e) apart.1 (sym q ∙ p) }

in_others : (e d : Edge) (ds : List Edge) → In d ds → (d ≡ e → ⊥) → (d ≡ turned e → ⊥) → In d (others e ds)
in_others e d [] i not_e not_turned = i
in_others e d (c ∷ ds) (inl q) not_e not_turned =
    cond_both (same_edge c e || same_edge c (turned e)) (others e ds) (c ∷ others e ds) (In d)
    (λ left_out. elim (or_cases (same_edge c e) (same_edge c (turned e)) left_out) [
      | inl s ↦ absurd (not_e (q ∙ same_edge_is c e s))
      | inr s ↦ absurd (not_turned (q ∙ same_edge_is c (turned e) s))
    ])
    (λ kept. inl q)
in_others e d (c ∷ ds) (inr i) not_e not_turned =
    cond_both (same_edge c e || same_edge c (turned e)) (others e ds) (c ∷ others e ds) (In d)
    (λ left_out. in_others e d ds i not_e not_turned)
    (λ kept. inr (in_others e d ds i not_e not_turned))

once_others : (e : Edge) (ds : List Edge) → Once ds → Once (others e ds)
once_others e [] once = once
once_others e (c ∷ ds) once =
    cond_both (same_edge c e || same_edge c (turned e)) (others e ds) (c ∷ others e ds) Once
    (λ left_out. once_others e ds once.1)
    (λ kept. (λ i. once.0 (is_other e c ds i).member, once_others e ds once.1))

-- e, e turned, and the others of es
abbrev both_first : Edge → List Edge → List Edge
both_first e es = e ∷ turned e ∷ others e (each_once es)

once_both : (e : Edge) (es : List Edge) → (e ≡ turned e → ⊥) → Once (both_first e es)
once_both e es line = (
  (λ i. elim i [ inl q ↦ line q | inr j ↦ (is_other e e (each_once es) j).not_e refl ]),
  ((λ j. (is_other e (turned e) (each_once es) j).not_turned refl), once_others e (each_once es) (once_each es)),
)

in_both : (e d : Edge) (es : List Edge) → In d (each_once es) → In d (both_first e es)
in_both e d es i = edge_cases d e inl (λ not_e. edge_cases d (turned e) (λ q. inr (inl q)) (λ not_turned. inr (inr (in_others e d (each_once es) i not_e not_turned))))

in_both_more : (e d : Edge) (es : List Edge) → In d (e ∷ es) → In d (both_first e es)
in_both_more e d es (inl q) = inl q
in_both_more e d es (inr i) = in_both e d es (in_each_once d es i)

sum_both : (f : Edge → ℕ) (e : Edge) (es : List Edge) → sum_by f (both_first e es) ≡ f e + f (turned e) + sum_by f (others e (each_once es))
sum_both f e es =
    let a = sum_by-cons f e (turned e ∷ others e (each_once es)) in
    let b = sum_by-cons f (turned e) (others e (each_once es)) in
    omega arith

-- one more edge e: the excess changes at e and at e turned alone
pub record Step (e : Edge) (es : List Edge) : Type 0 where
  pub rest : ℕ
  pub before : open_in es ≡ (times es e - times es (turned e)) + (times es (turned e) - times es e) + rest
  pub after : open_in (e ∷ es) ≡ ((1 + times es e) - times es (turned e)) + (times es (turned e) - (1 + times es e)) + rest

pub step : (e : Edge) (es : List Edge) → (e ≡ turned e → ⊥) → Step e es
step e es line = record { rest = sum_by (excess es) (others e (each_once es)); before = sym before ∙ sum_both (excess es) e es; after = sym after ∙ sum_both (excess (e ∷ es)) e es ∙ changed }
  where
    before : sum_by (excess es) (both_first e es) ≡ open_in es
    before = open_over es (both_first e es) (once_both e es line) (λ d h. in_both e d es (has_excess es d h))

    after : sum_by (excess (e ∷ es)) (both_first e es) ≡ open_in (e ∷ es)
    after = open_over (e ∷ es) (both_first e es) (once_both e es line) (λ d h. in_both_more e d es (in_from_times d (e ∷ es) (omega arith)))

    alike : (d : Edge) → In d (others e (each_once es)) → excess (e ∷ es) d ≡ excess es d
    alike d i =
        let o = is_other e d (each_once es) i in
        let n = times_other e d es o.not_e in
        let m = times_other e (turned d) es (λ q. o.not_turned (ap turned q)) in
        omega arith

    changed : excess (e ∷ es) e + excess (e ∷ es) (turned e) + sum_by (excess (e ∷ es)) (others e (each_once es)) ≡ ((1 + times es e) - times es (turned e)) + (times es (turned e) - (1 + times es e)) + sum_by (excess es) (others e (each_once es))
    changed =
        let n = times_same e es in
        let m = times_other e (turned e) es (λ q. line (sym q)) in
        let r = sum_alike (excess (e ∷ es)) (excess es) (others e (each_once es)) alike in
        omega arith
