-- A start has at most one walk.
--
--   one_walk     two walks from a start are the same
--   one_wide     so a walk ends before one wide basis at most, and one row of it is the least
use Rattle.std.proofs.Common.{◌≡◌, ℕ, List, [], ◌∷◌, ◌++◌, drop, get_or, length, arith, refl, ap, sym, subst, ◌∙◌, Some, None, inl, inr}
use Rattle.std.proofs.lemmas.Option.{same_Some, none-some}
use Rattle.row_laws.specs.Laws.Pivots.{same_result}
use Rattle.seq_model.specs.Dictionaries.{WideAt}
use Rattle.seq_model.specs.declared.row.Row.{Row}
use Rattle.seq_model.specs.Walks.{Pivots, IsWide, Ends, Follow, Walk, EndsWide}

one_next : (vars : ℕ) (rows : List Row) (basis a b : List ℕ) → Pivots vars rows basis a → Pivots vars rows basis b → a ≡ b
one_next vars rows basis a b p q = same_Some a b (same_result vars rows basis (Some a) (Some b) p q)

-- no walk goes on from where one ends
ends : (vars : ℕ) (rows : List Row) (b c : List ℕ) → Ends vars rows b → Pivots vars rows b c → (IsWide vars rows c → ⊥) → ⊥
ends vars rows b c (inl stops) p w = none-some c (same_result vars rows b None (Some c) stops p)
ends vars rows b c (inr k) p w = w (subst (IsWide vars rows) (one_next vars rows b k.0 c k.1 p) k.2)

-- bases that follow, and an end at the last one
abbrev Steps : ℕ → List Row → List (List ℕ) → Type 0
Steps vars rows [] = ⊥
Steps vars rows (basis ∷ []) = Ends vars rows basis
Steps vars rows (basis ∷ next ∷ bases) = Pivots vars rows basis next × (IsWide vars rows next → ⊥) × Steps vars rows (next ∷ bases)

steps : (vars : ℕ) (rows : List Row) (before : List (List ℕ)) (last : List ℕ) → Follow vars rows (before ++ last ∷ []) → Ends vars rows last → Steps vars rows (before ++ last ∷ [])
steps vars rows [] last f e = e
steps vars rows (b ∷ []) last f e = (f.0, f.1, e)
steps vars rows (b ∷ c ∷ before) last f e = (f.0, f.1, steps vars rows (c ∷ before) last f.2 e)

steps_of : (vars : ℕ) (rows : List Row) (start : List ℕ) (bases : List (List ℕ)) → Walk vars rows start bases → Steps vars rows bases
steps_of vars rows start bases w = subst (Steps vars rows) (sym w.bases_are) (steps vars rows w.before w.last (subst (Follow vars rows) w.bases_are w.follow) w.ends)

one_way : (vars : ℕ) (rows : List Row) (b : List ℕ) (bs cs : List (List ℕ)) → Steps vars rows (b ∷ bs) → Steps vars rows (b ∷ cs) → bs ≡ cs
one_way vars rows b [] [] v w = refl
one_way vars rows b [] (c ∷ cs) v w = absurd (ends vars rows b c v w.0 w.1)
one_way vars rows b (c ∷ bs) [] v w = absurd (ends vars rows b c w v.0 v.1)
one_way vars rows b (c ∷ bs) (d ∷ cs) v w =
    let e = one_next vars rows b c d v.0 w.0 in
    let r = one_way vars rows d bs cs (subst (λ t. Steps vars rows (t ∷ bs)) e v.2) w.2 in
    ap (λ t. t ∷ bs) e ∙ ap (λ t. d ∷ t) r

pub one_walk : (vars : ℕ) (rows : List Row) (start : List ℕ) (bs cs : List (List ℕ)) → Walk vars rows start bs → Walk vars rows start cs → bs ≡ cs
one_walk vars rows start [] cs v w = absurd (steps_of vars rows start [] v)
one_walk vars rows start (b ∷ bs) [] v w = absurd (steps_of vars rows start [] w)
one_walk vars rows start (b ∷ bs) (c ∷ cs) v w =
    let p = same_Some b start v.begins in
    let q = same_Some c start w.begins in
    let r = one_way vars rows start bs cs (subst (λ t. Steps vars rows (t ∷ bs)) p (steps_of vars rows start (b ∷ bs) v)) (subst (λ t. Steps vars rows (t ∷ cs)) q (steps_of vars rows start (c ∷ cs) w)) in
    ap (λ t. t ∷ bs) p ∙ ap (λ t. start ∷ t) r ∙ ap (λ t. t ∷ cs) (sym q)

pub last_same : (a b : List (List ℕ)) (x y : List ℕ) → a ++ x ∷ [] ≡ b ++ y ∷ [] → x ≡ y
last_same [] [] x y e = ap (λ l. get_or l 0 x) e
last_same [] (c ∷ []) x y e = absurd (omega (arith, ap length e))
last_same [] (c ∷ d ∷ b) x y e = absurd (omega (arith, ap length e))
last_same (c ∷ []) [] x y e = absurd (omega (arith, ap length e))
last_same (c ∷ d ∷ a) [] x y e = absurd (omega (arith, ap length e))
last_same (c ∷ a) (d ∷ b) x y e = last_same a b x y (ap (drop 1) e)

pub one_wide : (vars : ℕ) (rows : List Row) (start b c : List ℕ) (i j : ℕ) → EndsWide vars rows start b i → EndsWide vars rows start c j → (b ≡ c) × (i ≡ j)
one_wide vars rows start b c i j v w =
    let up = v.least j (subst (λ t. WideAt vars rows t j) (sym same) w.wide) in
    let down = w.least i (subst (λ t. WideAt vars rows t i) same v.wide) in
    (same, omega (arith, up, down))
  where
    bases : v.bases ≡ w.bases
    bases = one_walk vars rows start v.bases w.bases v.walk w.walk

    last : v.walk.last ≡ w.walk.last
    last = last_same v.walk.before w.walk.before v.walk.last w.walk.last (sym v.walk.bases_are ∙ bases ∙ w.walk.bases_are)

    same : b ≡ c
    same = one_next vars rows w.walk.last b c (subst (λ t. Pivots vars rows t b) last v.next) w.next
