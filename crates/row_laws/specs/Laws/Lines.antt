-- Variables of a rising list and what stands at their places.
--
--   at_least       a variable that has something is at least the lower end
--   has_same       it has one thing at most
--   member         a variable that has something is of the list
--   line_of_has    the line that a basic variable has is the one that is computed
--   has_line_of    and the one that is computed it has
use Rattle.std.proofs.Common.{◌≡◌, ℕ, ◌+◌, ◌≤◌, List, [], ◌∷◌, refl, ap, sym, ◌∙◌, arith, ℤ, inl, inr, Bool, true, false, Some}
use Rattle.std.proofs.lemmas.Bool.Decides.{nat_tests}
use Rattle.std.proofs.lemmas.Option.{same_Some, none-some}
use Rattle.std.specs.Prelude.{nat_eq, if◌then◌else◌}
use Rattle.integer_laws.specs.Members.{In}
use Rattle.row_laws.specs.Computed.{line_of}
use Rattle.row_laws.specs.Laws.Independence.{is_equal, equal_is, Climbs}
use Rattle.seq_model.specs.Dictionaries.{Has}

pub at_least : {X : Type 0} (low end : ℕ) (zs : List ℕ) (xs : List X) (y : ℕ) (x : X) → Climbs low end zs → Has zs xs y x → low ≤ y
at_least low end [] xs y x c h = absurd h
at_least low end (z ∷ zs) [] y x c h = absurd h
at_least low end (z ∷ zs) (w ∷ xs) y x c (inl s) = omega (arith, c.0, s.0)
at_least low end (z ∷ zs) (w ∷ xs) y x c (inr h) = let r = at_least (z + 1) end zs xs y x c.2 h in omega (arith, r, c.0)

pub has_same : {X : Type 0} (low end : ℕ) (zs : List ℕ) (xs : List X) (z : ℕ) (x y : X) → Climbs low end zs → Has zs xs z x → Has zs xs z y → x ≡ y
has_same low end [] xs z x y c h k = absurd h
has_same low end (a ∷ zs) [] z x y c h k = absurd h
has_same low end (a ∷ zs) (w ∷ xs) z x y c (inl s) (inl t) = s.1 ∙ sym t.1
has_same low end (a ∷ zs) (w ∷ xs) z x y c (inl s) (inr k) = let l = at_least (a + 1) end zs xs z y c.2 k in absurd (omega (arith, l, s.0))
has_same low end (a ∷ zs) (w ∷ xs) z x y c (inr h) (inl t) = let l = at_least (a + 1) end zs xs z x c.2 h in absurd (omega (arith, l, t.0))
has_same low end (a ∷ zs) (w ∷ xs) z x y c (inr h) (inr k) = has_same (a + 1) end zs xs z x y c.2 h k

pub member : {X : Type 0} (zs : List ℕ) (xs : List X) (z : ℕ) (x : X) → Has zs xs z x → In z zs
member [] xs z x h = absurd h
member (y ∷ zs) [] z x h = absurd h
member (y ∷ zs) (w ∷ xs) z x (inl s) = inl s.0
member (y ∷ zs) (w ∷ xs) z x (inr h) = inr (member zs xs z x h)

pub line_of_has : (low end : ℕ) (basis : List ℕ) (lines : List (List ℤ)) (z : ℕ) (line : List ℤ) → Climbs low end basis → Has basis lines z line → line_of z basis lines ≡ Some line
line_of_has low end [] lines z line c h = absurd h
line_of_has low end (y ∷ basis) [] z line c h = absurd h
line_of_has low end (y ∷ basis) (l ∷ lines) z line c (inl s) = ap (λ b. if b then Some l else line_of z basis lines) (is_equal z y s.0) ∙ ap Some (sym s.1)
line_of_has low end (y ∷ basis) (l ∷ lines) z line c (inr h) =
    ap (λ b. if b then Some l else line_of z basis lines) (other z y (at_least (y + 1) end basis lines z line c.2 h)) ∙ line_of_has (y + 1) end basis lines z line c.2 h
  where
    other : (z y : ℕ) → y + 1 ≤ z → nat_eq z y ≡ false
    other z y e = grind (arith, nat_tests)

pub has_line_of : (basis : List ℕ) (lines : List (List ℤ)) (z : ℕ) (line : List ℤ) → line_of z basis lines ≡ Some line → Has basis lines z line
has_line_of [] lines z line e = absurd (none-some line e)
has_line_of (y ∷ basis) [] z line e = absurd (none-some line e)
has_line_of (y ∷ basis) (l ∷ lines) z line e = by (nat_eq z y) refl e (has_line_of basis lines z line)
  where
    by : (b : Bool) → nat_eq z y ≡ b → (if b then Some l else line_of z basis lines) ≡ Some line → (line_of z basis lines ≡ Some line → Has basis lines z line) → Has (y ∷ basis) (l ∷ lines) z line
    by true q e later = inl (equal_is z y q, sym (same_Some l line e))
    by false q e later = inr (later e)
