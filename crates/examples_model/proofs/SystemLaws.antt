-- A point of a system, and the number of nodes of one cube.
use Rattle.std.proofs.Common.{◌≡◌, ℕ, ◌<◌, ◌≤ℤ◌, [], ◌∷◌, refl, ap, sym, subst, ◌∙◌, ◌↔◌, ◌⊎◌, arith, inl, inr, pos, lit≤}
use lib.Signed.{le_z_yes}
use Rattle.seq_model.specs.Budgets.{HasSides, IsMostSides, Full, full_of}
use Rattle.seq_model.specs.Contacts.{IsContact}
use Rattle.seq_model.specs.declared.row.Row.{Row}
use Rattle.seq_model.specs.Systems.{MeetsRows, system, row_value}
use Rattle.seq_model.specs.declared.tree.Contact.{Contact}
use Rattle.examples_model.specs.Deciding.{all_of}
use Rattle.examples_model.specs.Jobs.{two_cubes, cube_on_a_narrow_plate}
use Rattle.examples_model.specs.Rows.{path_to_the_east}

pub tight : MeetsRows (system two_cubes 46 path_to_the_east) (pos 2) (pos 0 ∷ pos 0 ∷ pos 48 ∷ pos 0 ∷ [])
tight = record {
  positive = le_z_yes tt;
  coordinates = all_of (λ x. pos 0 ≤ℤ x) (pos 0 ∷ pos 0 ∷ pos 48 ∷ pos 0 ∷ []) (le_z_yes tt, (le_z_yes tt, (le_z_yes tt, (le_z_yes tt, tt))));
  each = all_of (λ (row : Row). pos 0 ≤ℤ row_value (pos 2) (pos 0 ∷ pos 0 ∷ pos 48 ∷ pos 0 ∷ []) row) (system two_cubes 46 path_to_the_east) (le_z_yes tt, (le_z_yes tt, (le_z_yes tt, (le_z_yes tt, (le_z_yes tt, tt)))));
}

-- ---- one object has no contact
no_contact : (c : Contact) → IsContact cube_on_a_narrow_plate c → ⊥
no_contact c is = is.apart (only c.i c.j is.i_in is.j_in)
  where
    only : (i j : ℕ) → i < 1 → j < 1 → i ≡ j
    only i j h k = omega (arith, h, k)

three_sides : IsMostSides cube_on_a_narrow_plate 3
three_sides = record { at_least = lit≤ tt; most = λ c n h. absurd (no_contact c h.is); reached = inl refl }

is_three : (s : ℕ) → IsMostSides cube_on_a_narrow_plate s → s ≡ 3
is_three s m = by m.reached
  where
    by : (s ≡ 3) ⊎ ((contact : Contact) × HasSides cube_on_a_narrow_plate contact s) → s ≡ 3
    by (inl e) = e
    by (inr h) = absurd (no_contact h.0 h.1.is)

pub most_sides_of_one : (s : ℕ) → IsMostSides cube_on_a_narrow_plate s ↔ (s ≡ 3)
most_sides_of_one s = (is_three s, λ e. subst (IsMostSides cube_on_a_narrow_plate) (sym e) three_sides)

pub full_of_one : (n : ℕ) → Full cube_on_a_narrow_plate n ↔ (n ≡ 2)
full_of_one n = (λ f. f.is ∙ ap (full_of cube_on_a_narrow_plate) (is_three f.s f.sides), λ e. record { s = 3; sides = three_sides; is = e })
