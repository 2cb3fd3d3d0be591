-- A test whether an order is on a path.
--
--   before_is, is_on      it is so exactly where it is a member
--   or_cases               what two tests say together
--   never                 no test says both
--   same_pair             a pair is itself
use Rattle.std.proofs.Common.{◌≡◌, ℕ, Bool, true, false, cond, eqb, ◌&&◌, ◌||◌, List, [], ◌∷◌, refl, sym, ap, subst, ◌∙◌, inl, inr, ◌⊎◌}
use Rattle.std.proofs.lemmas.Bool.{eqb-true, eq-eqb, and_parts}
use Rattle.integer_laws.specs.Members.{In}
use Rattle.seq_model.specs.declared.tree.Choice.{Choice}
use Rattle.seq_model.specs.declared.tree.Choice.TheVariants as Choices
use Rattle.plan_laws.specs.Looking.{is_before}

pub or_cases : (a b : Bool) → (a || b) ≡ true → (a ≡ true) ⊎ (b ≡ true)
or_cases true b h = inl refl
or_cases false b h = inr h

pub never : (b : Bool) → b ≡ true → b ≡ false → ⊥
never b t f = subst (λ (x : Bool). cond x (Unit {0}) ⊥) (sym t ∙ f) tt

or_right : (a : Bool) → (a || true) ≡ true
or_right true = refl
or_right false = refl

pub before_is : (path : List Choice) (i j : ℕ) → is_before path i j ≡ true → In (Choices.Before i j) path
before_is [] i j h = absurd (never false h refl)
before_is (Choices.Side d dir ∷ path) i j h = inr (before_is path i j h)
before_is (Choices.Before a b ∷ path) i j h = by (or_cases (eqb a i && eqb b j) (is_before path i j) h) (λ r. before_is path i j r)
  where
    by : (((eqb a i && eqb b j) ≡ true) ⊎ (is_before path i j ≡ true)) → (is_before path i j ≡ true → In (Choices.Before i j) path) → In (Choices.Before i j) (Choices.Before a b ∷ path)
    by (inl e) rest =
        let t = and_parts (eqb a i) (eqb b j) e in
        inl (sym (ap (λ x. Choices.Before x b) (eqb-true a i t.0) ∙ ap (λ y. Choices.Before i y) (eqb-true b j t.1)))
    by (inr r) rest = inr (rest r)

pub same_pair : (i j : ℕ) → (eqb i i && eqb j j) ≡ true
same_pair i j = ap (λ b. b && eqb j j) (eq-eqb i i refl) ∙ eq-eqb j j refl

pub is_on : (path : List Choice) (i j : ℕ) → In (Choices.Before i j) path → is_before path i j ≡ true
is_on [] i j h = absurd h
is_on (Choices.Side d dir ∷ path) i j (inl e) = absurd (side_not e)
  where
    side_not : Choices.Before i j ≡ Choices.Side d dir → ⊥
    side_not e = cc
is_on (Choices.Side d dir ∷ path) i j (inr h) = is_on path i j h
is_on (Choices.Before a b ∷ path) i j (inl e) =
    ap (λ b. b || is_before path i j) (subst (λ (c : Choice). first_is c ≡ true) e (same_pair i j))
  where
    first_is : Choice → Bool
    first_is (Choices.Before x y) = eqb x i && eqb y j
    first_is (Choices.Side x y) = false
is_on (Choices.Before a b ∷ path) i j (inr h) = ap (λ t. (eqb a i && eqb b j) || t) (is_on path i j h) ∙ or_right (eqb a i && eqb b j)
