-- The tree that refutes extent 45 for two cubes, and the one that doesn't.
use Rattle.std.proofs.Common.{◌≡◌, ℕ, ◌<◌, List, [], ◌∷◌, ◌++◌, length, refl, subst, arith, ℤ, pos, negsuc, ◌≤ℤ◌, lit<, inl, inr, map, drop, get_or, All}
use Rattle.std.proofs.lemmas.Int.{ints}
use Rattle.std.proofs.lemmas.List.Elements.{All-get_or}
use lib.Signed.{le_z_yes}
use Rattle.integer_laws.specs.Members.{In}
use Rattle.integer_laws.specs.Laws.Members.{In-from_contains, Contains-from_in}
use Rattle.examples_model.specs.Certificates.{four_sides, bound, tree, before}
use Rattle.examples_model.specs.Cubes.{first_contact, second_contact}
use Rattle.examples_model.specs.Deciding.{contradiction_is}
use Rattle.examples_model.specs.Jobs.{two_cubes}
use Rattle.examples_model.specs.Rows.{times}
use Rattle.examples_model.proofs.SideLaws.{cube_sides, cube_points}
use Rattle.seq_model.specs.Contacts.{IsContact}
use Rattle.seq_model.specs.Sides.{AreSides}
use Rattle.seq_model.specs.Systems.{system, Contradiction}
use Rattle.seq_model.specs.Trees.{IsSoundNode, IsClosed, Reads, Refutes, TreeRefutes}
use Rattle.seq_model.specs.declared.tree.Node.TheVariants as Nodes
use Rattle.seq_model.specs.declared.tree.Choice.{Choice}
use Rattle.seq_model.specs.declared.tree.Choice.TheVariants as Choices
use Rattle.seq_model.specs.declared.tree.Dir.{Dir}
use Rattle.seq_model.specs.declared.tree.Node.{Node}

pub is_first : IsContact two_cubes first_contact
is_first = record { i_in = lit< tt; j_in = lit< tt; apart = λ e. absurd (omega (arith, e)); zi_in = lit< tt; zj_in = lit< tt; part_in = lit< tt; meet = refl }

is_second : IsContact two_cubes second_contact
is_second = record { i_in = lit< tt; j_in = lit< tt; apart = λ e. absurd (omega (arith, e)); zi_in = lit< tt; zj_in = lit< tt; part_in = lit< tt; meet = refl }

pub tree_refutes : TreeRefutes two_cubes 45 (tree (bound 2 1 4 1))
tree_refutes = (
  ((lit< tt, lit< tt), tt),
  _,
  refl,
  (
    ((is_first, (0, lit< tt, refl)), tt),
    _,
    (four_sides, cube_sides, refl, refl),
    (
      (contradiction_is _ _ refl, tt),
      [],
      refl,
      (
        (contradiction_is _ _ refl, tt),
        [],
        refl,
        (
          (contradiction_is _ _ refl, tt),
          [],
          refl,
          (
            (contradiction_is _ _ refl, tt),
            [],
            refl,
            (
              ((is_second, (0, lit< tt, refl)), tt),
              _,
              (four_sides, cube_sides, refl, refl),
              (
                (contradiction_is _ _ refl, tt),
                [],
                refl,
                (
                  (contradiction_is _ _ refl, tt),
                  [],
                  refl,
                  (
                    (contradiction_is _ _ refl, tt),
                    [],
                    refl,
                    (
                      (contradiction_is _ _ refl, tt),
                      [],
                      refl,
                      refl,
                    ),
                  ),
                ),
              ),
            ),
          ),
        ),
      ),
    ),
  ),
)

-- ---- without row 2 the first leaf contradicts nothing, whichever side it stands on: a coefficient is 1 there
abbrev path_on : Dir → List Choice
path_on d = Choices.Before 0 1 ∷ Choices.Side first_contact d ∷ []

abbrev Leaf : Dir → Type 0
Leaf d = Contradiction (system two_cubes 45 (path_on d)) (times 2 0 4 1)

never : (k : ℕ) (xs : List ℤ) → k < length xs → pos 1 ≤ℤ get_or xs k (pos 0) → All (λ a. a ≤ℤ pos 0) xs → ⊥
never k xs l one all =
    let low = All-get_or (λ a. a ≤ℤ pos 0) xs k (pos 0) l all in
    absurd (omega (arith, ints, one, low))

no_leaf : (d : Dir) → In d four_sides → Leaf d → ⊥
no_leaf d (inl e) c = never 2 (negsuc 0 ∷ pos 0 ∷ pos 1 ∷ pos 0 ∷ []) (lit< tt) (le_z_yes tt) (subst Leaf e c).coefficients
no_leaf d (inr (inl e)) c = never 3 (pos 0 ∷ negsuc 0 ∷ pos 0 ∷ pos 1 ∷ []) (lit< tt) (le_z_yes tt) (subst Leaf e c).coefficients
no_leaf d (inr (inr (inl e))) c = never 0 (pos 1 ∷ pos 0 ∷ negsuc 0 ∷ pos 0 ∷ []) (lit< tt) (le_z_yes tt) (subst Leaf e c).coefficients
no_leaf d (inr (inr (inr (inl e)))) c = never 1 (pos 0 ∷ pos 1 ∷ pos 0 ∷ negsuc 0 ∷ []) (lit< tt) (le_z_yes tt) (subst Leaf e c).coefficients
no_leaf d (inr (inr (inr (inr i)))) c = i

-- the side of the first leaf is one of the contact's
first_leaf : (dirs : List Dir) (rest : List (List Choice)) (paths : List (List Choice)) (nodes : List Node) → AreSides cube_points dirs → 4 ≡ length dirs
    → paths ≡ map (λ d. path_on d) dirs → Reads two_cubes (λ at node. IsSoundNode two_cubes 45 at node × IsClosed node) (paths ++ rest) (bound 2 0 4 1 ∷ nodes) [] → ⊥
first_leaf [] rest paths nodes sides many are r = absurd (omega (arith, many))
first_leaf (d ∷ dirs) rest paths nodes sides many are r =
    let read = subst (λ t. Reads two_cubes (λ at node. IsSoundNode two_cubes 45 at node × IsClosed node) (t ++ rest) (bound 2 0 4 1 ∷ nodes) []) are r in
    let side = (sides.each d).0 (Contains-from_in (d ∷ dirs) d (inl refl)) in
    no_leaf d (In-from_contains four_sides d ((cube_sides.each d).1 side)) read.0.0

pub tree_refutes_nothing : TreeRefutes two_cubes 45 (tree (bound 2 0 4 1)) → ⊥
tree_refutes_nothing r =
    let side = subst (λ t. Reads two_cubes (λ at node. IsSoundNode two_cubes 45 at node × IsClosed node) (t ++ []) (drop 1 (tree (bound 2 0 4 1)).nodes) []) r.2 r.3 in
    first_leaf side.2.0 ((Choices.Before 1 0 ∷ []) ∷ []) side.1 (drop 3 (tree (bound 2 0 4 1)).nodes) side.2.1 side.2.2 side.2.3 side.3

-- ---- no contact
pub no_zone_of_earlier : Refutes two_cubes 100 (before 0 1 ∷ []) (Nodes.Side (record { i = 0; zi = 7; part = 1; zj = 0; j = 1 }) 0 ∷ []) → ⊥
no_zone_of_earlier r = (let h : 7 < 1 = r.0.0.0.zi_in in absurd (omega (arith, h)))

pub no_zone_of_later : Refutes two_cubes 100 (before 0 1 ∷ []) (Nodes.Side (record { i = 0; zi = 0; part = 1; zj = 7; j = 1 }) 0 ∷ []) → ⊥
no_zone_of_later r = (let h : 7 < 1 = r.0.0.0.zj_in in absurd (omega (arith, h)))

pub no_part : Refutes two_cubes 100 (before 0 1 ∷ []) (Nodes.Side (record { i = 0; zi = 0; part = 7; zj = 0; j = 1 }) 0 ∷ []) → ⊥
no_part r = (let h : 7 < 3 = r.0.0.0.part_in in absurd (omega (arith, h)))

pub no_earlier : Refutes two_cubes 100 (before 7 1 ∷ []) (Nodes.Side (record { i = 7; zi = 0; part = 1; zj = 0; j = 1 }) 0 ∷ []) → ⊥
no_earlier r = (let h : 7 < 2 = r.0.0.0.i_in in absurd (omega (arith, h)))

pub no_later : Refutes two_cubes 100 (before 0 7 ∷ []) (Nodes.Side (record { i = 0; zi = 0; part = 1; zj = 0; j = 7 }) 0 ∷ []) → ⊥
no_later r = (let h : 7 < 2 = r.0.0.0.j_in in absurd (omega (arith, h)))
