-- Cycles of paths that are written out, and lists that are none.
use Rattle.std.proofs.Common.{ℕ, [], ◌∷◌, refl, ap, arith, ◌≤◌, lit<, lit≤, inl, inr, Contains}
use Rattle.integer_laws.specs.Members.{In}
use Rattle.integer_laws.specs.Laws.Members.{In-from_contains}
use Rattle.examples_model.specs.Certificates.{before}
use Rattle.examples_model.specs.Jobs.{two_cubes, three_cubes}
use Rattle.seq_model.specs.Trees.{Refutes}
use Rattle.seq_model.specs.declared.tree.Choice.{Choice}
use Rattle.seq_model.specs.declared.tree.Choice.TheVariants as Choices
use Rattle.seq_model.specs.declared.tree.Node.TheVariants as Nodes

abbrev earlier : Choice → ℕ
earlier (Choices.Before i j) = i
earlier (Choices.Side c d) = 0

abbrev later : Choice → ℕ
later (Choices.Before i j) = j
later (Choices.Side c d) = 0

pub two_cubes_refuted : Refutes two_cubes 100 (before 0 1 ∷ before 1 0 ∷ []) (Nodes.Cycle (0 ∷ 1 ∷ []) ∷ [])
two_cubes_refuted = (((lit≤ tt, ((0, lit< tt, refl), ((1, lit< tt, refl), tt))), tt), [], refl, refl)

pub three_cubes_refuted : Refutes three_cubes 100 (before 0 1 ∷ before 1 2 ∷ before 2 0 ∷ []) (Nodes.Cycle (0 ∷ 1 ∷ 2 ∷ []) ∷ [])
three_cubes_refuted = (((lit≤ tt, ((0, lit< tt, refl), ((1, lit< tt, refl), ((2, lit< tt, refl), tt)))), tt), [], refl, refl)

-- 1 before 0 isn't on the path of 0 before 1
not_back : Contains (before 0 1 ∷ []) (before 1 0) → ⊥
not_back c = by_place (In-from_contains (before 0 1 ∷ []) (before 1 0) c)
  where
    by_place : In (before 1 0) (before 0 1 ∷ []) → ⊥
    by_place (inl e) = absurd (omega (arith, ap earlier e))
    by_place (inr i) = absurd i

pub one_way : Refutes two_cubes 100 (before 0 1 ∷ []) (Nodes.Cycle (0 ∷ 1 ∷ []) ∷ []) → ⊥
one_way r = not_back r.0.0.1.1.0

pub other_way : Refutes two_cubes 100 (before 0 1 ∷ []) (Nodes.Cycle (1 ∷ 0 ∷ []) ∷ []) → ⊥
other_way r = not_back r.0.0.1.0

-- nor is 0 before 2 on the ring's
not_across : Contains (before 0 1 ∷ before 1 2 ∷ before 2 0 ∷ []) (before 0 2) → ⊥
not_across c = by_place (In-from_contains (before 0 1 ∷ before 1 2 ∷ before 2 0 ∷ []) (before 0 2) c)
  where
    by_place : In (before 0 2) (before 0 1 ∷ before 1 2 ∷ before 2 0 ∷ []) → ⊥
    by_place (inl e) = absurd (omega (arith, ap later e))
    by_place (inr (inl e)) = absurd (omega (arith, ap earlier e))
    by_place (inr (inr (inl e))) = absurd (omega (arith, ap earlier e))
    by_place (inr (inr (inr i))) = absurd i

pub backwards : Refutes three_cubes 100 (before 0 1 ∷ before 1 2 ∷ before 2 0 ∷ []) (Nodes.Cycle (0 ∷ 2 ∷ 1 ∷ []) ∷ []) → ⊥
backwards r = not_across r.0.0.1.0

pub one_object : Refutes two_cubes 100 (before 0 0 ∷ []) (Nodes.Cycle (0 ∷ []) ∷ []) → ⊥
one_object r = let two_of : 2 ≤ 1 = r.0.0.0 in absurd (omega (arith, two_of))

pub no_object : Refutes two_cubes 100 (before 0 0 ∷ []) (Nodes.Cycle [] ∷ []) → ⊥
no_object r = let two_of : 2 ≤ 0 = r.0.0.0 in absurd (omega (arith, two_of))
