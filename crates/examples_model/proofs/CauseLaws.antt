-- Causes of splits, and splits that have none.
use Rattle.std.proofs.Common.{◌≡◌, ℕ, ◌<◌, List, [], ◌∷◌, length, refl, ap, arith, lit<, lit≤, inl, inr, zero, suc, ◌⊎◌}
use Rattle.integer_laws.specs.Laws.Members.{In-from_contains}
use Rattle.model_laws.specs.Laws.Farkas.{no_point}
use Rattle.examples_model.specs.Certificates.{before, tree_of}
use Rattle.examples_model.specs.Cubes.{first_contact}
use Rattle.examples_model.specs.Deciding.{contradiction_is}
use Rattle.examples_model.specs.Jobs.{two_cubes, tall_and_low, cube_on_a_narrow_plate}
use Rattle.examples_model.specs.Plans.{tall_to_the_east}
use Rattle.examples_model.specs.Rows.{path_to_the_east, times}
use Rattle.examples_model.proofs.OrderLaws.{run_into, apart}
use Rattle.seq_model.specs.Splits.{Values, IsOn, Somewhere, CollidesAt, IsForced, Precedes, AreNeighbours, Earned, Grounded, CouldSplit, OpenTree}
use Rattle.seq_model.specs.Systems.{system}
use Rattle.seq_model.specs.Trees.{IsCycle, AreChildren, IsSoundNode}
use Rattle.seq_model.specs.declared.tree.Choice.{Choice}
use Rattle.seq_model.specs.declared.tree.Node.{Node}
use Rattle.seq_model.specs.declared.tree.Node.TheVariants as Nodes

pub forced : IsForced tall_and_low 100 tall_to_the_east 1 0
forced = (run_into, apart)

pub neighbours : AreNeighbours tall_and_low 100 (before 0 1 ∷ []) tall_to_the_east 1 0
neighbours = ([], (lit≤ tt, (inr forced, (inl (0, lit< tt, refl), tt))))

-- ---- and none
pub ordered : Grounded two_cubes 100 (before 0 1 ∷ []) (Nodes.Order 0 1) → ⊥
ordered g = g.0.0 (0, lit< tt, refl)

pub no_point_to_the_east : (at : Values) → IsOn two_cubes 45 path_to_the_east at → ⊥
no_point_to_the_east at on = no_point (system two_cubes 45 path_to_the_east) (times 2 1 4 1) (contradiction_is (system two_cubes 45 path_to_the_east) (times 2 1 4 1) refl) at.d at.u on.meets

pub nowhere : Grounded two_cubes 45 path_to_the_east (Nodes.Side first_contact 4) → ⊥
nowhere g = no_point_to_the_east g.at g.on

pub no_room : (at : Values) → IsOn two_cubes 21 [] at → ⊥
no_room at on = no_point (system two_cubes 21 []) (times 0 1 1 0) (contradiction_is (system two_cubes 21 []) (times 0 1 1 0) refl) at.d at.u on.meets

pub some_child : (p : List Choice) (ps : List (List Choice)) → (p ∷ ps) ≡ [] → ⊥
some_child p ps e = absurd (omega (arith, ap length e))

pub unearned : CouldSplit two_cubes 21 [] → ⊥
unearned c = by c.node c.children c.sound c.earned
  where
    by : (node : Node) → AreChildren two_cubes [] node (c.first ∷ c.others) → IsSoundNode two_cubes 21 [] node → Earned two_cubes 21 [] node → ⊥
    by (Nodes.Order i j) k s e = no_room e.1.at e.1.on
    by (Nodes.Side contact children) k s e = no_room e.at e.on
    by (Nodes.Bound mults) k s e = some_child c.first c.others k
    by (Nodes.Cycle objects) k s e = some_child c.first c.others k
    by Nodes.Pending k s e = some_child c.first c.others k

pub not_open : OpenTree two_cubes 21 (tree_of (Nodes.Order 0 1 ∷ Nodes.Pending ∷ Nodes.Pending ∷ [])) → ⊥
not_open t = let root = t.each.0.1.1 in no_room root.at root.on

pub alone : CouldSplit cube_on_a_narrow_plate 100 [] → ⊥
alone c = by c.node c.children c.sound
  where
    by : (node : Node) → AreChildren cube_on_a_narrow_plate [] node (c.first ∷ c.others) → IsSoundNode cube_on_a_narrow_plate 100 [] node → ⊥
    by (Nodes.Order i j) k s = (let l = s.0 in let h : j < 1 = s.1 in absurd (omega (arith, l, h)))
    by (Nodes.Side contact children) k s = (let h = s.1.1 in absurd (omega (arith, h)))
    by (Nodes.Bound mults) k s = some_child c.first c.others k
    by (Nodes.Cycle objects) k s = some_child c.first c.others k
    by Nodes.Pending k s = some_child c.first c.others k

-- ---- two cubes alone
-- only 0 and 1 are cubes, and none is forced before itself
forced_on : (e : ℕ) (at : Values) (a k : ℕ) → Precedes two_cubes e [] at a k → IsForced two_cubes e at a k
forced_on e at a k (inl on) = absurd (In-from_contains [] (before a k) on)
forced_on e at a k (inr f) = f

not_round : (e : ℕ) (at : Values) → CollidesAt two_cubes e at 1 0 × (CollidesAt two_cubes e at 0 1 → ⊥) → (k : ℕ) → IsForced two_cubes e at 1 k → ⊥
not_round e at first zero next = first.1 next.0
not_round e at first (suc zero) next = next.1 next.0
not_round e at first (suc (suc k)) next = let band : next.0.c < 0 = next.0.band_of_earlier in absurd (omega (arith, band))

not_back : (e : ℕ) (at : Values) → CollidesAt two_cubes e at 0 1 × (CollidesAt two_cubes e at 1 0 → ⊥) → (k : ℕ) → IsForced two_cubes e at 0 k → ⊥
not_back e at first zero next = next.1 next.0
not_back e at first (suc zero) next = first.1 next.0
not_back e at first (suc (suc k)) next = let band : next.0.c < 0 = next.0.band_of_earlier in absurd (omega (arith, band))

no_ring : (e : ℕ) (at : Values) → AreNeighbours two_cubes e [] at 0 1 → ⊥
no_ring e at t = by t.0 t.1
  where
    by : (others : List ℕ) → IsCycle (Precedes two_cubes e [] at) (0 ∷ 1 ∷ others) → ⊥
    by [] c = not_round e at (forced_on e at 0 1 c.1.0) 0 (forced_on e at 1 0 c.1.1.0)
    by (k ∷ more) c = not_round e at (forced_on e at 0 1 c.1.0) k (forced_on e at 1 k c.1.1.0)

no_ring_back : (e : ℕ) (at : Values) → AreNeighbours two_cubes e [] at 1 0 → ⊥
no_ring_back e at t = by t.0 t.1
  where
    by : (others : List ℕ) → IsCycle (Precedes two_cubes e [] at) (1 ∷ 0 ∷ others) → ⊥
    by [] c = not_back e at (forced_on e at 1 0 c.1.0) 1 (forced_on e at 0 1 c.1.1.0)
    by (k ∷ more) c = not_back e at (forced_on e at 1 0 c.1.0) k (forced_on e at 0 k c.1.1.0)

pub both_ways : (e : ℕ) → Earned two_cubes e [] (Nodes.Order 0 1) → Somewhere two_cubes e [] (λ at. CollidesAt two_cubes e at 0 1 × CollidesAt two_cubes e at 1 0)
both_ways e earned = record { at = earned.1.at; on = earned.1.on; here = by earned.1.here }
  where
    by : (CollidesAt two_cubes e earned.1.at 0 1 × CollidesAt two_cubes e earned.1.at 1 0) ⊎ (AreNeighbours two_cubes e [] earned.1.at 0 1 ⊎ AreNeighbours two_cubes e [] earned.1.at 1 0)
        → CollidesAt two_cubes e earned.1.at 0 1 × CollidesAt two_cubes e earned.1.at 1 0
    by (inl both) = both
    by (inr (inl t)) = absurd (no_ring e earned.1.at t)
    by (inr (inr t)) = absurd (no_ring_back e earned.1.at t)
