use Rattle.std.proofs.Common.{ℕ, [], ◌∷◌, refl, ap, arith, inl, inr}
use Rattle.integer_laws.specs.Members.{In}
use Rattle.integer_laws.specs.Laws.Members.{In-from_contains}
use Rattle.examples_model.specs.Certificates.{before, beyond}
use Rattle.examples_model.specs.Cubes.{first_contact, east}
use Rattle.examples_model.specs.Jobs.{two_cubes}
use Rattle.seq_model.specs.Trees.{IsPath}
use Rattle.seq_model.specs.declared.tree.Choice.{Choice}
use Rattle.seq_model.specs.declared.tree.Choice.TheVariants as Choices

abbrev earlier : Choice → ℕ
earlier (Choices.Before i j) = i
earlier (Choices.Side c d) = 0

pub other_order : IsPath two_cubes (before 1 0 ∷ beyond east ∷ []) → ⊥
other_order p = by_place (In-from_contains (before 1 0 ∷ []) (before 0 1) (p (before 1 0 ∷ []) [] first_contact east refl).2)
  where
    by_place : In (before 0 1) (before 1 0 ∷ []) → ⊥
    by_place (inl e) = absurd (omega (arith, ap earlier e))
    by_place (inr i) = absurd i
