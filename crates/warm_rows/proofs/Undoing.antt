-- The last step, undone.
use Rattle.std.proofs.Common.{◌≡◌, ℕ, suc, ◌+◌, ◌-◌, List, [], ◌∷◌, ◌++◌, length, refl, ap, ap₂, sym, subst, ◌∙◌, arith, inl, Contains}
use Rattle.std.specs.List.{swap_remove}
use Rattle.integer_laws.specs.Laws.Members.{Contains-from_in, In-append_right}
use Rattle.row_pivots.specs.Laws.Grown.{at_end, length-more}
use Rattle.row_pivots.specs.Laws.Shrunk.{remove_last}
use Rattle.row_pivots.specs.Tables.{Fresh, place_of}
use Rattle.row_dictionary.specs.Laws.Found.{place_unique}
use Rattle.row_dictionary.specs.Seen.{Seen, Standing, IsOf, swapped}
use Rattle.row_dictionary.specs.Shrinking.{CameFrom, last_slack}
use Rattle.seq_model.specs.declared.row.Row.{Row}
use Rattle.warm_rows.specs.Keeping.{WasHeld}
use Rattle.warm_rows.specs.Warming.{rows_of, standing, Gives}
use Rattle.warm_rows.specs.declared.step.Step.{Step}
use Rattle.warm_rows.specs.declared.step.Step.TheVariants as Steps
use Rattle.warm_rows.proofs.Steps.{standing-more, rows_of-pivot, rows_of-row}

-- ---- a row
basic_is : (vars : ℕ) (steps : List Step) (row : Row) (u : Seen) → Gives vars (steps ++ Steps.Row row ∷ []) u → u.basic ≡ (standing vars steps).basic ++ (vars + length (standing vars steps).basic) ∷ []
basic_is vars steps row u g = g.basic ∙ ap (λ (s : Standing). s.basic) (standing-more vars steps (Steps.Row row))

last_is : (vars : ℕ) (steps : List Step) (row : Row) (u : Seen) → Gives vars (steps ++ Steps.Row row ∷ []) u → last_slack u ≡ vars + length (standing vars steps).basic
last_is vars steps row u g = ap₂ (λ v n. v + n - 1) g.vars_are (ap length (basic_is vars steps row u g) ∙ length-more (standing vars steps).basic _) ∙ less vars (length (standing vars steps).basic)
  where
    less : (v n : ℕ) → v + suc n - 1 ≡ v + n
    less v n = omega arith

pub last_basic : (vars : ℕ) (steps : List Step) (row : Row) (u : Seen) → Gives vars (steps ++ Steps.Row row ∷ []) u → Contains u.basic (last_slack u)
last_basic vars steps row u g =
    subst (λ z. Contains u.basic z) (sym (last_is vars steps row u g))
    (subst (λ (b : List ℕ). Contains b (vars + length (standing vars steps).basic)) (sym (basic_is vars steps row u g))
    (Contains-from_in ((standing vars steps).basic ++ (vars + length (standing vars steps).basic) ∷ []) (vars + length (standing vars steps).basic) (In-append_right (standing vars steps).basic ((vars + length (standing vars steps).basic) ∷ []) (vars + length (standing vars steps).basic) (inl refl))))

pub gives_without : (vars : ℕ) (steps : List Step) (row : Row) (u new : Seen) → Gives vars (steps ++ Steps.Row row ∷ []) u → new.vars ≡ u.vars → new.basic ≡ swap_remove u.basic (place_of (last_slack u) u.basic) 0 → new.free ≡ u.free
    → ((rows : List Row) (row : Row) → IsOf (rows ++ row ∷ []) u → IsOf rows new) → Gives vars steps new
gives_without vars steps row u new g v b f h = record {
  vars_are = v ∙ g.vars_are;
  basic = b ∙ ap₂ (λ (l : List ℕ) (z : ℕ). swap_remove l (place_of z l) 0) (basic_is vars steps row u g) (last_is vars steps row u g) ∙ ap (λ p. swap_remove (B ++ z ∷ []) p 0) place ∙ remove_last B z 0;
  free = f ∙ g.free ∙ ap (λ (s : Standing). s.free) (standing-more vars steps (Steps.Row row));
  is_of = h (rows_of steps) row (subst (λ (r : List Row). IsOf r u) (rows_of-row steps row) g.is_of);
}
  where
    B : List ℕ
    B = (standing vars steps).basic

    z : ℕ
    z = vars + length (standing vars steps).basic

    fresh : Fresh ((standing vars steps).basic ++ (vars + length (standing vars steps).basic) ∷ [])
    fresh = subst Fresh (basic_is vars steps row u g) g.is_of.fresh_basic

    place : place_of (vars + length (standing vars steps).basic) ((standing vars steps).basic ++ (vars + length (standing vars steps).basic) ∷ []) ≡ length (standing vars steps).basic
    place = place_unique z (B ++ z ∷ []) (length B) fresh (let l = length-more (standing vars steps).basic (vars + length (standing vars steps).basic) in omega (arith, l)) (at_end B z 0)

-- ---- a pivot
pub came_from : (vars : ℕ) (steps : List Step) (out into : ℕ) (u : Seen) → Gives vars (steps ++ Steps.Pivot out into ∷ []) u → (w : WasHeld vars steps (Steps.Pivot out into)) → CameFrom (rows_of steps) w.table u out into
came_from vars steps out into u g w = record {
  was = w.gives.is_of;
  fits = w.fits;
  is = subst (λ (r : List Row). IsOf r u) (rows_of-pivot steps out into) g.is_of;
  out_of = w.goes.0;
  into_of = w.goes.1;
  vars = g.vars_are ∙ sym w.gives.vars_are;
  basic = g.basic ∙ ap (λ (s : Standing). s.basic) (standing-more vars steps (Steps.Pivot out into)) ∙ sym (ap (λ (l : List ℕ). swapped l out into) w.gives.basic);
  free = g.free ∙ ap (λ (s : Standing). s.free) (standing-more vars steps (Steps.Pivot out into)) ∙ sym (ap (λ (l : List ℕ). swapped l into out) w.gives.free);
}
