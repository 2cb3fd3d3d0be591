-- A tree that refutes extent 45 for two cubes, and one that doesn't.
--
--   four_sides       the sides of two cubes with the nozzle, by angle; six_sides those of two wedges, and five_sides all of these
--                    but (-1, -1)
--   bound r m s n    the leaf that takes row r m times and row s n times
--   before i j       the choice that object i is printed before object j
--   low_under_the_gantry   no contact: object 1, the low cube, before object 0, the tall one, by the gantry
--   beyond d         the choice that the second of two cubes stands beyond the side d of their first contact
--   tree_of nodes    the tree of these nodes
--   tree first       the tree whose first bound is this leaf: an order of the two cubes, and for each order a leaf on each side
use Rattle.std.specs.Prelude.{ℕ, List, [], ◌∷◌}
use Rattle.examples_model.specs.Cubes.{first_contact, second_contact, east, northeast, north, west, southwest, south}
use Rattle.examples_model.specs.Rows.{times}
use Rattle.seq_model.specs.declared.tree.Choice.{Choice}
use Rattle.seq_model.specs.declared.tree.Choice.TheVariants as Choices
use Rattle.seq_model.specs.declared.tree.Contact.{Contact}
use Rattle.seq_model.specs.declared.tree.Dir.{Dir}
use Rattle.seq_model.specs.declared.tree.Node.{Node}
use Rattle.seq_model.specs.declared.tree.Node.TheVariants as Nodes
use Rattle.seq_model.specs.declared.tree.Tree.{Tree}

abbrev pub four_sides : List Dir
four_sides = east ∷ north ∷ west ∷ south ∷ []

abbrev pub five_sides : List Dir
five_sides = east ∷ northeast ∷ north ∷ west ∷ south ∷ []

abbrev pub six_sides : List Dir
six_sides = east ∷ northeast ∷ north ∷ west ∷ southwest ∷ south ∷ []

abbrev pub before : ℕ → ℕ → Choice
before i j = Choices.Before i j

abbrev pub low_under_the_gantry : Contact
low_under_the_gantry = record { i = 1; zi = 0; part = 2; zj = 0; j = 0 }

abbrev pub beyond : Dir → Choice
beyond d = Choices.Side first_contact d

abbrev pub bound : ℕ → ℕ → ℕ → ℕ → Node
bound r m s n = Nodes.Bound (times r m s n)

abbrev pub tree_of : List Node → Tree
tree_of nodes = record { nodes = nodes }

abbrev pub tree : Node → Tree
tree first = tree_of (
    Nodes.Order 0 1
    ∷ Nodes.Side first_contact 4 ∷ first ∷ bound 3 1 4 1 ∷ bound 0 1 4 1 ∷ bound 1 1 4 1
    ∷ Nodes.Side second_contact 4 ∷ bound 0 1 4 1 ∷ bound 1 1 4 1 ∷ bound 2 1 4 1 ∷ bound 3 1 4 1
    ∷ [])
