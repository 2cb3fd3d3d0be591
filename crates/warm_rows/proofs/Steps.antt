-- One step more: where variables stand, the rows, and what is kept.
use Rattle.std.proofs.Common.{◌≡◌, ℕ, suc, ◌+◌, ◌<◌, ◌^◌, List, [], ◌∷◌, ◌++◌, length, drop, get_or, refl, ap, ap₂, sym, subst, ◌∙◌, arith, ◌⊎◌, inl, inr}
use Rattle.std.specs.List.{range_with_len}
use Rattle.row_pivots.specs.Laws.Grown.{grown, length-more}
use Rattle.row_pivots.specs.Laws.OneTable.{one_held}
use Rattle.row_pivots.specs.Tables.{Holds}
use Rattle.row_dictionary.specs.Pushing.{with_row, line_of}
use Rattle.row_dictionary.specs.Seen.{Seen, Standing, IsOf, swapped}
use Rattle.row_dictionary.specs.Shrinking.{Fits}
use Rattle.seq_model.specs.declared.row.Row.{Row}
use Rattle.warm_rows.specs.Keeping.{Goes, WasHeld, Kept}
use Rattle.warm_rows.specs.Warming.{Warmth, row_of, rows_of, after_step, after_steps, standing, Gives}
use Rattle.warm_rows.specs.declared.step.Step.{Step}
use Rattle.warm_rows.specs.declared.step.Step.TheVariants as Steps

pub after_steps-more : (vars : ℕ) (s : Standing) (steps : List Step) (step : Step) → after_steps vars s (steps ++ step ∷ []) ≡ after_step vars (after_steps vars s steps) step
after_steps-more vars s [] step = refl
after_steps-more vars s (x ∷ steps) step = after_steps-more vars (after_step vars s x) steps step

pub standing-more : (vars : ℕ) (steps : List Step) (step : Step) → standing vars (steps ++ step ∷ []) ≡ after_step vars (standing vars steps) step
standing-more vars steps step = after_steps-more vars (record { basic = []; free = range_with_len 0 vars }) steps step

pub joined_none : {A : Type 0} (xs : List A) → xs ++ [] ≡ xs
joined_none [] = refl
joined_none (x ∷ xs) = ap (λ t. x ∷ t) (joined_none xs)

joined_twice : {A : Type 0} (xs ys zs : List A) → xs ++ (ys ++ zs) ≡ (xs ++ ys) ++ zs
joined_twice [] ys zs = refl
joined_twice (x ∷ xs) ys zs = ap (λ t. x ∷ t) (joined_twice xs ys zs)

pub rows_of-append : (steps more : List Step) → rows_of (steps ++ more) ≡ rows_of steps ++ rows_of more
rows_of-append [] more = refl
rows_of-append (x ∷ steps) more = ap (λ t. row_of x ++ t) (rows_of-append steps more) ∙ joined_twice (row_of x) (rows_of steps) (rows_of more)

pub rows_of-pivot : (steps : List Step) (out into : ℕ) → rows_of (steps ++ Steps.Pivot out into ∷ []) ≡ rows_of steps
rows_of-pivot steps out into = rows_of-append steps (Steps.Pivot out into ∷ []) ∙ joined_none (rows_of steps)

pub rows_of-row : (steps : List Step) (row : Row) → rows_of (steps ++ Steps.Row row ∷ []) ≡ rows_of steps ++ row ∷ []
rows_of-row steps row = rows_of-append steps (Steps.Row row ∷ [])

-- ---- one table
pub gives_holds : (vars : ℕ) (steps : List Step) (t : Seen) → Gives vars steps t → Holds vars (rows_of steps) t.d (standing vars steps).basic (standing vars steps).free t.lines
gives_holds vars steps t g =
    subst (λ v. Holds v (rows_of steps) t.d (standing vars steps).basic (standing vars steps).free t.lines) g.vars_are
    (subst (λ (b : List ℕ). Holds t.vars (rows_of steps) t.d b (standing vars steps).free t.lines) g.basic
    (subst (λ (f : List ℕ). Holds t.vars (rows_of steps) t.d t.basic f t.lines) g.free g.is_of))

same_seen : (t u : Seen) → t.vars ≡ u.vars → t.basic ≡ u.basic → t.free ≡ u.free → t.d ≡ u.d → t.lines ≡ u.lines → t ≡ u
same_seen t u v b f d l = λ i. record { vars = v i; d = d i; basic = b i; free = f i; lines = l i }

pub one_given : (vars : ℕ) (steps : List Step) (t u : Seen) → Gives vars steps t → Gives vars steps u → t ≡ u
one_given vars steps t u g h =
    let one = one_held vars (rows_of steps) t.d u.d (standing vars steps).basic (standing vars steps).free t.lines u.lines (gives_holds vars steps t g) (gives_holds vars steps u h) in
    same_seen t u (g.vars_are ∙ sym h.vars_are) (g.basic ∙ sym h.basic) (g.free ∙ sym h.free) one.0 one.1

-- ---- what one step gives
pub gives_row : (vars : ℕ) (steps : List Step) (t : Seen) (row : Row) → Gives vars steps t → length row.a ≡ vars → Gives vars (steps ++ Steps.Row row ∷ []) (with_row t row)
gives_row vars steps t row g long = record {
  vars_are = g.vars_are;
  basic = ap₂ (λ (b : List ℕ) (n : ℕ). b ++ n ∷ []) g.basic (ap₂ (λ a b. a + b) g.vars_are (ap length g.basic)) ∙ sym (ap (λ (s : Standing). s.basic) (standing-more vars steps (Steps.Row row)));
  free = g.free ∙ sym (ap (λ (s : Standing). s.free) (standing-more vars steps (Steps.Row row)));
  is_of = subst (λ (r : List Row). IsOf r (with_row t row)) (sym (rows_of-row steps row)) (subst (λ n. Holds t.vars (rows_of steps ++ row ∷ []) t.d (t.basic ++ (t.vars + n) ∷ []) t.free (t.lines ++ line_of t row ∷ [])) (sym g.is_of.many)
      (grown t.vars (rows_of steps) t.d t.basic t.free t.lines g.is_of row (long ∙ sym g.vars_are)));
}

pub gives_pivot : (vars : ℕ) (steps : List Step) (t u : Seen) (out into : ℕ) → Gives vars steps t → u.vars ≡ t.vars → u.basic ≡ swapped t.basic out into → u.free ≡ swapped t.free into out → IsOf (rows_of steps) u → Gives vars (steps ++ Steps.Pivot out into ∷ []) u
gives_pivot vars steps t u out into g v b f h = record {
  vars_are = v ∙ g.vars_are;
  basic = b ∙ ap (λ (l : List ℕ). swapped l out into) g.basic ∙ sym (ap (λ (s : Standing). s.basic) (standing-more vars steps (Steps.Pivot out into)));
  free = f ∙ ap (λ (l : List ℕ). swapped l into out) g.free ∙ sym (ap (λ (s : Standing). s.free) (standing-more vars steps (Steps.Pivot out into)));
  is_of = subst (λ (r : List Row). IsOf r u) (sym (rows_of-pivot steps out into)) h;
}

-- ---- what is kept
long_joined : {A : Type 0} (xs ys : List A) → length (xs ++ ys) ≡ length xs + length ys
long_joined [] ys = omega arith
long_joined (x ∷ xs) ys = let r = long_joined xs ys in omega (arith, r)

nowhere : (front back : List Step) (step : Step) → [] ≡ front ++ step ∷ back → ⊥
nowhere front back step e = let l = ap length e ∙ long_joined front (step ∷ back) in absurd (omega (arith, l))

head_is : (x y : Step) (xs ys : List Step) → x ∷ xs ≡ y ∷ ys → x ≡ y
head_is x y xs ys e = ap (λ (l : List Step). get_or l 0 x) e

rest_is : (x y : Step) (xs ys : List Step) → x ∷ xs ≡ y ∷ ys → xs ≡ ys
rest_is x y xs ys e = ap (drop 1) e

-- where a step stands that has one more behind all
split_more : (steps : List Step) (x : Step) (front : List Step) (step : Step) (back : List Step) → steps ++ x ∷ [] ≡ front ++ step ∷ back → ((front ≡ steps) × (step ≡ x)) ⊎ ((rest : List Step) × (steps ≡ front ++ step ∷ rest))
split_more [] x [] step back e = inl (refl, sym (head_is x step [] back e))
split_more [] x (f ∷ front) step back e = absurd (nowhere front back step (rest_is x f [] (front ++ step ∷ back) e))
split_more (y ∷ steps) x [] step back e = inr (steps, ap (λ t. t ∷ steps) (head_is y step (steps ++ x ∷ []) back e))
split_more (y ∷ steps) x (f ∷ front) step back e = by (split_more steps x front step back (rest_is y f (steps ++ x ∷ []) (front ++ step ∷ back) e))
  where
    same : y ≡ f
    same = head_is y f (steps ++ x ∷ []) (front ++ step ∷ back) e

    by : ((front ≡ steps) × (step ≡ x)) ⊎ ((rest : List Step) × (steps ≡ front ++ step ∷ rest)) → (((f ∷ front) ≡ (y ∷ steps)) × (step ≡ x)) ⊎ ((rest : List Step) × ((y ∷ steps) ≡ (f ∷ (front ++ step ∷ rest))))
    by (inl k) = inl (ap₂ (λ (a : Step) (b : List Step). a ∷ b) (sym same) k.0, k.1)
    by (inr k) = inr (k.0, ap₂ (λ (a : Step) (b : List Step). a ∷ b) same k.1)

pub kept_more : (vars : ℕ) (steps : List Step) (t u : Seen) (x : Step) → Kept vars steps t → Fits t → Goes t x → Gives vars (steps ++ x ∷ []) u → vars + length (rows_of (steps ++ x ∷ [])) < 2 ^ 32 → Kept vars (steps ++ x ∷ []) u
kept_more vars steps t u x k fits goes gives count = record { gives = gives; held = λ front step back e. by front step (split_more steps x front step back e); count = count }
  where
    here : WasHeld vars steps x
    here = record { table = t; gives = k.gives; fits = fits; goes = goes }

    by : (front : List Step) (step : Step) → ((front ≡ steps) × (step ≡ x)) ⊎ ((rest : List Step) × (steps ≡ front ++ step ∷ rest)) → WasHeld vars front step
    by front step (inl s) = subst (λ (l : List Step). WasHeld vars l step) (sym s.0) (subst (WasHeld vars steps) (sym s.1) here)
    by front step (inr s) = k.held front step s.0 s.1

-- a row more, whose line is that over the table
pub kept_row : (vars : ℕ) (steps more : List Step) (t u : Seen) (row : Row) → Kept vars steps t → Fits t → length row.a ≡ vars → vars + length (rows_of steps) + 1 < 2 ^ 32 → more ≡ steps ++ Steps.Row row ∷ [] → u ≡ with_row t row → Kept vars more u
kept_row vars steps more t u row k fits long few steps_are table_is =
    let longer : length (rows_of (steps ++ Steps.Row row ∷ [])) ≡ suc (length (rows_of steps)) = ap length (rows_of-row steps row) ∙ length-more (rows_of steps) row in
    let kept = kept_more vars steps t (with_row t row) (Steps.Row row) k fits tt (gives_row vars steps t row k.gives long) (omega (arith, few, longer)) in
    subst (λ (l : List Step). Kept vars l u) (sym steps_are) (subst (λ (s : Seen). Kept vars (steps ++ Steps.Row row ∷ []) s) (sym table_is) kept)

pub kept_less : (vars : ℕ) (steps : List Step) (t u : Seen) (x : Step) → Kept vars (steps ++ x ∷ []) u → Gives vars steps t → Kept vars steps t
kept_less vars steps t u x k g = record {
  gives = g;
  held = λ front step back e. k.held front step (back ++ x ∷ []) (ap (λ (l : List Step). l ++ x ∷ []) e ∙ sym (joined_twice front (step ∷ back) (x ∷ [])));
  count = let c = k.count in let l = ap length (rows_of-append steps (x ∷ [])) ∙ long_joined (rows_of steps) (rows_of (x ∷ [])) in omega (arith, c, l);
}

pub same_warmth : (w v : Warmth) → w.vars ≡ v.vars → w.steps ≡ v.steps → w.table ≡ v.table → w ≡ v
same_warmth w v e f g = λ i. record { vars = e i; steps = f i; table = g i }
