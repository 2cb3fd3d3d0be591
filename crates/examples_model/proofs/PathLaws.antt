-- Paths of two cubes, and lists of choices that are none.
use Rattle.std.proofs.Common.{[], ◌∷◌, ap, subst, sym, arith, lit<, refl, inl, inr}
use Rattle.std.proofs.lemmas.Int.{ints}
use lib.Dec.{T}
use Rattle.integer_laws.specs.Members.{In}
use Rattle.integer_laws.specs.Laws.Members.{In-from_contains}
use Rattle.examples_model.specs.Certificates.{before, beyond, low_under_the_gantry, four_sides}
use Rattle.examples_model.specs.Cubes.{first_contact, east, northeast}
use Rattle.examples_model.specs.Jobs.{two_cubes, tall_and_low}
use Rattle.examples_model.proofs.SideLaws.{cube_sides}
use Rattle.examples_model.proofs.TreeLaws.{is_first}
use Rattle.model_laws.specs.Laws.Reading.{no_choice, path_also}
use Rattle.seq_model.specs.Contacts.{points_of}
use Rattle.seq_model.specs.Sides.{Side}
use Rattle.seq_model.specs.Trees.{IsPath}
use Rattle.seq_model.specs.declared.tree.Choice.TheVariants as Choices
use Rattle.seq_model.specs.declared.tree.Dir.{Dir}

east_is_one : Side (points_of two_cubes first_contact) east
east_is_one = (cube_sides.each east).0 (0, lit< tt, refl)

pub follows : IsPath two_cubes (before 0 1 ∷ beyond east ∷ [])
follows = path_also two_cubes (before 0 1 ∷ []) (beyond east) (path_also two_cubes [] (before 0 1) (no_choice two_cubes) tt) (is_first, east_is_one, (0, lit< tt, refl))

pub alone : IsPath two_cubes (beyond east ∷ []) → ⊥
alone path = let order = path [] [] first_contact east refl in In-from_contains [] (before 0 1) order.2

pub too_soon : IsPath two_cubes (beyond east ∷ before 0 1 ∷ []) → ⊥
too_soon path = let order = path [] (before 0 1 ∷ []) first_contact east refl in In-from_contains [] (before 0 1) order.2

pub no_side : IsPath two_cubes (before 0 1 ∷ beyond northeast ∷ []) → ⊥
no_side path = among (In-from_contains four_sides northeast ((cube_sides.each northeast).1 (path (before 0 1 ∷ []) [] first_contact northeast refl).1))
  where
    among : In northeast four_sides → ⊥
    among (inl e) = absurd (omega (arith, ints, ap (λ (d : Dir). d.y) e))
    among (inr (inl e)) = absurd (omega (arith, ints, ap (λ (d : Dir). d.x) e))
    among (inr (inr (inl e))) = absurd (omega (arith, ints, ap (λ (d : Dir). d.x) e))
    among (inr (inr (inr (inl e)))) = absurd (omega (arith, ints, ap (λ (d : Dir). d.x) e))
    among (inr (inr (inr (inr none)))) = none

pub no_contact : IsPath tall_and_low (before 1 0 ∷ Choices.Side low_under_the_gantry east ∷ []) → ⊥
no_contact p = (let h = (p (before 1 0 ∷ []) [] low_under_the_gantry east refl).0.meet in absurd (subst T (sym h) tt))
