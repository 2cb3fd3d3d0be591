-- The root of a search of two cubes, which is spent with one node, and how many nodes a spent tree has.
use Rattle.std.proofs.Common.{◌≡◌, List, [], ◌∷◌, length, refl, arith, pos, ◌≤◌, ◌≤ℤ◌, lit<, lit≤, inl}
use lib.Signed.{le_z_yes}
use Rattle.examples_model.specs.Certificates.{four_sides, tree_of}
use Rattle.examples_model.specs.Cubes.{at, cube, nozzle, first_contact}
use Rattle.examples_model.specs.Deciding.{all_of}
use Rattle.examples_model.specs.Jobs.{two_cubes, nozzle_part}
use Rattle.examples_model.proofs.FullLaws.{four_are_most, most_is_four}
use Rattle.examples_model.proofs.SideLaws.{cube_sides}
use Rattle.examples_model.proofs.TreeLaws.{is_first}
use Rattle.seq_model.specs.Outlines.{Inner}
use Rattle.seq_model.specs.Scenes.{Overlap}
use Rattle.seq_model.specs.Splits.{Values, IsOn, CollidesAt, ContactCollidesAt, Earned, SpentTree}
use Rattle.seq_model.specs.declared.row.Row.{Row}
use Rattle.seq_model.specs.Systems.{system, row_value}
use Rattle.seq_model.specs.declared.tree.Choice.{Choice}
use Rattle.seq_model.specs.declared.tree.Choice.TheVariants as Choices
use Rattle.seq_model.specs.declared.tree.Node.{Node}
use Rattle.seq_model.specs.declared.tree.Node.TheVariants as Nodes

abbrev at_zero : Values
at_zero = record { d = pos 1; u = pos 0 ∷ pos 0 ∷ pos 0 ∷ pos 0 ∷ [] }

-- a point that is inner to both, where both stand in one place
in_middle : Inner cube (at (pos 10) (pos 10))
in_middle = record { point = record { positive = le_z_yes tt }; w = pos 1 ∷ pos 1 ∷ pos 1 ∷ pos 1 ∷ []; weights = (le_z_yes tt, (le_z_yes tt, (le_z_yes tt, (le_z_yes tt, tt)))); some = le_z_yes tt; x = refl; y = refl }

at_tip : Inner nozzle (at (pos 0) (pos 0))
at_tip = record { point = record { positive = le_z_yes tt }; w = pos 1 ∷ pos 1 ∷ pos 1 ∷ pos 1 ∷ []; weights = (le_z_yes tt, (le_z_yes tt, (le_z_yes tt, (le_z_yes tt, tt)))); some = le_z_yes tt; x = refl; y = refl }

together : Overlap cube cube nozzle (at (pos 1) (pos 1)) (at (pos 1) (pos 1))
together = record { point = at (pos 11) (pos 11); is_point = record { positive = le_z_yes tt }; is_place = record { positive = le_z_yes tt }; of_later = at (pos 10) (pos 10); of_part = at (pos 0) (pos 0); earlier = in_middle; later = in_middle; moving = at_tip; sum = record { x = refl; y = refl } }

one_way : CollidesAt two_cubes 100 at_zero 0 1
one_way = record { b = 0; c = 0; part = nozzle_part; band_of_later = lit< tt; band_of_earlier = lit< tt; part_of_scene = (1, lit< tt, refl); meets = record { from_low = lit≤ tt; to_high = tt }; overlap = together }

other_way : CollidesAt two_cubes 100 at_zero 1 0
other_way = record { b = 0; c = 0; part = nozzle_part; band_of_later = lit< tt; band_of_earlier = lit< tt; part_of_scene = (1, lit< tt, refl); meets = record { from_low = lit≤ tt; to_high = tt }; overlap = together }

on_path : IsOn two_cubes 100 [] at_zero
on_path = record {
  meets = record {
    positive = le_z_yes tt;
    coordinates = all_of (λ x. pos 0 ≤ℤ x) (pos 0 ∷ pos 0 ∷ pos 0 ∷ pos 0 ∷ []) (le_z_yes tt, (le_z_yes tt, (le_z_yes tt, (le_z_yes tt, tt))));
    each = all_of (λ (row : Row). pos 0 ≤ℤ row_value (pos 1) (pos 0 ∷ pos 0 ∷ pos 0 ∷ pos 0 ∷ []) row) (system two_cubes 100 []) (le_z_yes tt, (le_z_yes tt, (le_z_yes tt, (le_z_yes tt, tt))));
  };
  many = refl;
}

pub root_is_earned : Earned two_cubes 100 [] (Nodes.Order 0 1)
root_is_earned = (
  (λ c. absurd (omega (arith, c.1)), λ c. absurd (omega (arith, c.1))),
  record { at = at_zero; on = on_path; here = inl (one_way, other_way) },
)

pub spent : SpentTree two_cubes 100 1 (tree_of (Nodes.Pending ∷ []))
spent = record {
  s = 4;
  most = four_are_most;
  unfinished = record { each = ((tt, tt), [], refl, refl); pending = (0, lit< tt, refl) };
  spent = lit≤ tt;
  just = lit< tt;
  leaf = 0;
  leaf_is = refl;
  path = [];
  path_is = ([], refl);
  more = record { node = Nodes.Order 0 1; sound = (lit< tt, lit< tt); first = _; others = _; children = refl; earned = root_is_earned };
}

-- ---- the order and its two children, with nothing of a budget left
abbrev first_ordered : List Choice
first_ordered = Choices.Before 0 1 ∷ []

on_ordered : IsOn two_cubes 100 first_ordered at_zero
on_ordered = record { meets = record { positive = on_path.meets.positive; coordinates = on_path.meets.coordinates; each = on_path.meets.each }; many = refl }

contact_collides : ContactCollidesAt two_cubes 100 at_zero first_contact
contact_collides = record { is = is_first; overlap = together }

pub three_over : SpentTree two_cubes 100 0 (tree_of (Nodes.Order 0 1 ∷ Nodes.Pending ∷ Nodes.Pending ∷ []))
three_over = record {
  s = 4;
  most = four_are_most;
  unfinished = record { each = (((lit< tt, lit< tt), root_is_earned), _, refl, ((tt, tt), [], refl, ((tt, tt), [], refl, refl))); pending = (1, lit< tt, refl) };
  spent = lit≤ tt;
  just = lit< tt;
  leaf = 1;
  leaf_is = refl;
  path = first_ordered;
  path_is = ((Choices.Before 1 0 ∷ []) ∷ [], (tt, _, refl, refl));
  more = record { node = Nodes.Side first_contact 4; sound = (is_first, (0, lit< tt, refl)); first = _; others = _; children = (four_sides, cube_sides, refl, refl); earned = record { at = at_zero; on = on_ordered; here = contact_collides } };
}

pub four_over : (nodes : List Node) → length nodes ≡ 4 → SpentTree two_cubes 100 0 (tree_of nodes) → ⊥
four_over nodes many t = let four = most_is_four t.s t.most in let few = t.just in absurd (omega (arith, four, few, many))

pub one_under : SpentTree two_cubes 100 2 (tree_of (Nodes.Pending ∷ [])) → ⊥
one_under t = let some : 2 ≤ 1 = t.spent in absurd (omega (arith, some))
