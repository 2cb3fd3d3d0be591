-- Circles, one step after the other, and as the definition has them.
use Rattle.std.proofs.Common.{◌≡◌, ℕ, ◌+◌, ◌≤◌, ◌<◌, List, [], ◌∷◌, ◌++◌, length, get_or, drop, sym, ap, subst, ◌∙◌}
use Rattle.std.proofs.lemmas.List.{drop_more, drop_all}
use Rattle.std.specs.List.{AllZip}
use Rattle.seq_model.specs.Trees.{IsCycle}
use Rattle.cert_checker.specs.Circles.{RunsOn}

pub zip_of_runs : (R : ℕ → ℕ → Type 0) (from : ℕ) (objects : List ℕ) (first : ℕ) → RunsOn R from objects first → AllZip R (from ∷ objects) (objects ++ first ∷ [])
zip_of_runs R from [] first r = (r, tt)
zip_of_runs R from (o ∷ objects) first r = (r.0, zip_of_runs R o objects first r.1)

pub runs_of_zip : (R : ℕ → ℕ → Type 0) (from : ℕ) (objects : List ℕ) (first : ℕ) → AllZip R (from ∷ objects) (objects ++ first ∷ []) → RunsOn R from objects first
runs_of_zip R from [] first r = r.0
runs_of_zip R from (o ∷ objects) first r = (r.0, runs_of_zip R o objects first r.1)

pub cycle_of_runs : (R : ℕ → ℕ → Type 0) (first : ℕ) (rest all : List ℕ) → all ≡ first ∷ rest → 2 ≤ length all → RunsOn R first rest first → IsCycle R all
cycle_of_runs R first rest all e many r = subst (IsCycle R) (sym e) (subst (λ l. 2 ≤ length l) e many, zip_of_runs R first rest first r)

pub runs_of_cycle : (R : ℕ → ℕ → Type 0) (first : ℕ) (rest all : List ℕ) → all ≡ first ∷ rest → IsCycle R all → RunsOn R first rest first
runs_of_cycle R first rest all e c = runs_of_zip R first rest first (subst (IsCycle R) e c).1

-- what is left of a circle decides all of it
pub record Decides (R : ℕ → ℕ → Type 0) (from : ℕ) (left : List ℕ) (first : ℕ) (rest : List ℕ) : Type 0 where
  pub there : RunsOn R from left first → RunsOn R first rest first
  pub back : RunsOn R first rest first → RunsOn R from left first

pub decides_all : (R : ℕ → ℕ → Type 0) (first : ℕ) (rest : List ℕ) → Decides R first rest first rest
decides_all R first rest = record { there = λ r. r; back = λ r. r }

pub decides_more : (R : ℕ → ℕ → Type 0) (from : ℕ) (first : ℕ) (rest : List ℕ) (i : ℕ) (d to : ℕ) → i < length rest → Decides R from (drop i rest) first rest → to ≡ get_or rest i d → R from to → Decides R to (drop (i + 1) rest) first rest
decides_more R from first rest i d to within s is r =
    let e = drop_more rest i d within ∙ ap (λ o. o ∷ drop (i + 1) rest) (sym is) in
    record { there = λ m. s.there (subst (λ l. RunsOn R from l first) (sym e) (r, m)); back = λ m. (subst (λ l. RunsOn R from l first) e (s.back m)).1 }

pub decides_no : (R : ℕ → ℕ → Type 0) (from : ℕ) (first : ℕ) (rest : List ℕ) (i : ℕ) (d to : ℕ) → i < length rest → Decides R from (drop i rest) first rest → to ≡ get_or rest i d → (R from to → ⊥) → RunsOn R first rest first → ⊥
decides_no R from first rest i d to within s is no_step r =
    let e = drop_more rest i d within ∙ ap (λ o. o ∷ drop (i + 1) rest) (sym is) in
    no_step (subst (λ l. RunsOn R from l first) e (s.back r)).0

pub decides_end : (R : ℕ → ℕ → Type 0) (from : ℕ) (first : ℕ) (rest : List ℕ) (i : ℕ) → length rest ≤ i → Decides R from (drop i rest) first rest → Decides R from [] first rest
decides_end R from first rest i over s = subst (λ l. Decides R from l first rest) (drop_all i rest over) s
