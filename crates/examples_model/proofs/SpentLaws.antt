-- A tree whose one pending leaf stands where no point is, so that it isn't spent.
use Rattle.std.proofs.Common.{◌≡◌, ℕ, zero, suc, List, [], ◌∷◌, ◌++◌, Option, Some, None, get_or, map, refl, sym, ap, subst}
use Rattle.std.specs.Prelude.{slice_get}
use Rattle.examples_model.specs.Certificates.{before, four_sides, tree}
use Rattle.examples_model.specs.Cubes.{first_contact}
use Rattle.examples_model.specs.Jobs.{two_cubes}
use Rattle.examples_model.specs.Rows.{path_to_the_east}
use Rattle.examples_model.proofs.CauseLaws.{no_point_to_the_east, some_child}
use Rattle.model_laws.specs.Laws.OneList.{one_list_of_sides}
use Rattle.examples_model.proofs.SideLaws.{cube_sides}
use Rattle.seq_model.specs.Contacts.{points_of}
use Rattle.seq_model.specs.Splits.{Earned, CouldSplit, StandsAt, SpentTree}
use Rattle.seq_model.specs.Trees.{also, AreChildren, Reads}
use Rattle.seq_model.specs.declared.tree.Choice.{Choice}
use Rattle.seq_model.specs.declared.tree.Choice.TheVariants as Choices
use Rattle.seq_model.specs.declared.tree.Mult.{Mult}
use Rattle.seq_model.specs.declared.tree.Node.{Node}
use Rattle.seq_model.specs.declared.tree.Node.TheVariants as Nodes

-- ---- the path to the east has no point at extent 45
no_split : CouldSplit two_cubes 45 path_to_the_east → ⊥
no_split c = by c.node c.children c.earned
  where
    by : (node : Node) → AreChildren two_cubes path_to_the_east node (c.first ∷ c.others) → Earned two_cubes 45 path_to_the_east node → ⊥
    by (Nodes.Order i j) k e = no_point_to_the_east e.1.at e.1.on
    by (Nodes.Side contact children) k e = no_point_to_the_east e.at e.on
    by (Nodes.Bound mults) k e = some_child c.first c.others k
    by (Nodes.Cycle objects) k e = some_child c.first c.others k
    by Nodes.Pending k e = some_child c.first c.others k

-- ---- node 2 stands at that path
abbrev Anything : List Choice → Node → Type 0
Anything path node = Unit {0}

abbrev first_child : List Choice
first_child = before 0 1 ∷ []

abbrev second_child : List Choice
second_child = before 1 0 ∷ []

behind_the_order : (paths : List (List Choice)) (left : List (List Choice)) → paths ≡ first_child ∷ second_child ∷ [] → Reads two_cubes Anything (paths ++ []) (Nodes.Side first_contact 4 ∷ []) left
    → Reads two_cubes Anything (first_child ∷ second_child ∷ []) (Nodes.Side first_contact 4 ∷ []) left
behind_the_order paths left e r = subst (λ t. Reads two_cubes Anything (t ++ []) (Nodes.Side first_contact 4 ∷ []) left) e r

children_of_the_side : (paths : List (List Choice)) → AreChildren two_cubes first_child (Nodes.Side first_contact 4) paths → paths ≡ map (λ dir. also first_child (Choices.Side first_contact dir)) four_sides
children_of_the_side paths k = subst (λ dirs. paths ≡ map (λ dir. also first_child (Choices.Side first_contact dir)) dirs) (one_list_of_sides (points_of two_cubes first_contact) k.0 four_sides k.1 cube_sides) k.3

at_two : (path : List Choice) → StandsAt two_cubes (tree Nodes.Pending).nodes 2 path → path ≡ path_to_the_east
at_two path s =
    let side = behind_the_order s.1.1 (path ∷ s.0) s.1.2 s.1.3 in
    let paths = children_of_the_side side.1 side.2 in
    sym (ap (λ l. get_or l 0 path) (subst (λ t. (t ++ second_child ∷ []) ≡ path ∷ s.0) paths side.3))

-- ---- and no other leaf is pending
abbrev IsPending : Option Node → Type 0
IsPending None = ⊥
IsPending (Some Nodes.Pending) = Unit {0}
IsPending (Some (Nodes.Order i j)) = ⊥
IsPending (Some (Nodes.Side contact children)) = ⊥
IsPending (Some (Nodes.Bound mults)) = ⊥
IsPending (Some (Nodes.Cycle objects)) = ⊥

pub bound_not_pending : (mults : List Mult) → Some (Nodes.Bound mults) ≡ Some Nodes.Pending → ⊥
bound_not_pending mults e = subst IsPending (sym e) tt

pending : (k : ℕ) → slice_get (tree Nodes.Pending).nodes k ≡ Some Nodes.Pending → IsPending (slice_get (tree Nodes.Pending).nodes k)
pending k e = subst IsPending (sym e) tt

only_two : (k : ℕ) → IsPending (slice_get (tree Nodes.Pending).nodes k) → k ≡ 2
only_two zero p = absurd p
only_two (suc zero) p = absurd p
only_two (suc (suc zero)) p = refl
only_two (suc (suc (suc zero))) p = absurd p
only_two (suc (suc (suc (suc zero)))) p = absurd p
only_two (suc (suc (suc (suc (suc zero))))) p = absurd p
only_two (suc (suc (suc (suc (suc (suc zero)))))) p = absurd p
only_two (suc (suc (suc (suc (suc (suc (suc zero))))))) p = absurd p
only_two (suc (suc (suc (suc (suc (suc (suc (suc zero)))))))) p = absurd p
only_two (suc (suc (suc (suc (suc (suc (suc (suc (suc zero))))))))) p = absurd p
only_two (suc (suc (suc (suc (suc (suc (suc (suc (suc (suc zero)))))))))) p = absurd p
only_two (suc (suc (suc (suc (suc (suc (suc (suc (suc (suc (suc k))))))))))) p = absurd p

pub not_spent : SpentTree two_cubes 45 11 (tree Nodes.Pending) → ⊥
not_spent t =
    let here = subst (λ k. StandsAt two_cubes (tree Nodes.Pending).nodes k t.path) (only_two t.leaf (pending t.leaf t.leaf_is)) t.path_is in
    no_split (subst (CouldSplit two_cubes 45) (at_two t.path here) t.more)
