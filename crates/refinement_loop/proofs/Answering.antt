-- What the answers of a search show.
use Rattle.std.proofs.Common.{◌≡◌, ℕ, zero, suc, ◌+◌, ◌^◌, ◌<◌, ◌≤◌, List, [], ◌∷◌, All, Option, Some, None, length, map, get_or, refl, sym, ap, subst, ◌∙◌, arith, inl, inr}
use Rattle.std.specs.Prelude.{IsSome, slice_get}
use Rattle.cert_text.specs.TreeText.{IsSpelt}
use Rattle.model_laws.specs.Laws.Grounds.{earned_is_grounded}
use Rattle.model_laws.specs.Laws.OnePath.{stands_at_path}
use Rattle.node_looks.specs.Looks.{SplitsBy, TakesRows}
use Rattle.refinement_loop.proofs.Printing.{all_nodes, note_is_spelt, reads_fill}
use Rattle.refinement_loop.proofs.Searching.{Good, IsHeld, IsStill, Searching}
use Rattle.refinement_loop.specs.Decisions.{HasNoWideWalk, HasWideWalk, IsDecision, IsPrintable, IsRefutation, IsSettled, IsSpent, IsSpentDecision, IsWideEnd}
use Rattle.refinement_loop.specs.declared.deciding.Decision.{Decision}
use Rattle.refinement_loop.specs.declared.deciding.Decision.TheVariants as Decisions
use Rattle.refinement_loop.specs.declared.wide_nodes.WideNode.{WideNode}
use Rattle.refutation_tree.specs.Grown.{IsNumber, IsPreorder, made_at, node_of}
use Rattle.refutation_tree.specs.Laws.Goodness.{AreGood, IsGoodAt, path_at, whole_is_tree}
use Rattle.refutation_tree.specs.Laws.Standing.{number_below, number_is_node, number_there, stands_at, whole_length}
use Rattle.refutation_tree.specs.declared.growing.Made.{Made}
use Rattle.search_agenda.specs.Agendas.{OpenNode}
use Rattle.search_laws.specs.Laws.MostSides.{most_sides}
use Rattle.search_laws.specs.Laws.Shares.{spent_below_full}
use Rattle.seq_model.specs.Budgets.{Full, IsMostSides}
use Rattle.seq_model.specs.Splits.{CouldSplit, Earned, Grounded, OpenTree, StandsAt}
use Rattle.seq_model.specs.Trees.{AreChildren, IsClosed, IsSoundNode, IsTree, also}
use Rattle.seq_model.specs.declared.job.Job.{Job}
use Rattle.seq_model.specs.declared.tree.Choice.{Choice}
use Rattle.seq_model.specs.declared.tree.Node.{Node}
use Rattle.seq_model.specs.declared.tree.Node.TheVariants as Nodes
use Rattle.seq_model.specs.declared.tree.Tree.{Tree}

-- what holds of each node at its path holds of the nodes of the tree
tree_with : (job : Job) (G Fine : List Choice → Node → Type 0) (made : List Made) (paths : List (List Choice)) (tree : Tree)
    → AreGood job G made paths → ((k : ℕ) → k < length made → Fine (path_at paths k) (node_of made k)) → IsPreorder made tree.nodes → IsTree job Fine [] tree.nodes
tree_with job G Fine made paths tree good fine whole =
    whole_is_tree job Fine made paths tree.nodes (record { many = good.many; root = good.root; each = each }) whole
  where
    each : (k : ℕ) → k < length made → IsGoodAt job Fine paths (path_at paths k) (made_at made k)
    each k h = let g = good.each k h in record { good = fine k h; known = g.known; children = g.children }

get_there : (nodes : List Node) (i : ℕ) → i < length nodes → slice_get nodes i ≡ Some (get_or nodes i Nodes.Pending)
get_there [] i h = absurd (omega arith)
get_there (node ∷ nodes) zero h = refl
get_there (node ∷ nodes) (suc i) h = get_there nodes i (omega arith)

waits_there : (made : List Made) (tree : Tree) (at i : ℕ) → IsPreorder made tree.nodes → IsNumber made at i → node_of made at ≡ Nodes.Pending
    → slice_get tree.nodes i ≡ Some Nodes.Pending
waits_there made tree at i whole number waits =
    get_there tree.nodes i (number_below made tree.nodes at i whole number) ∙ ap Some (number_is_node made tree.nodes at i whole number ∙ waits)

open_tree : (job : Job) (e budget : ℕ) (made : List Made) (open_nodes : List OpenNode) (wide : Option WideNode) (tree : Tree) (at i : ℕ)
    → Searching job e budget made open_nodes wide → IsPreorder made tree.nodes → IsNumber made at i → node_of made at ≡ Nodes.Pending → OpenTree job e tree
open_tree job e budget made open_nodes wide tree at i s whole number waits = record {
  each = tree_with job (Good job e) (λ path node. IsSoundNode job e path node × Earned job e path node) made s.paths tree s.good
      (λ k h. let g = s.good.each k h in (g.good.0, g.good.1)) whole;
  pending = (i, number_below made tree.nodes at i whole number, number_is_node made tree.nodes at i whole number ∙ waits);
}

printable : (job : Job) (e budget : ℕ) (made : List Made) (open_nodes : List OpenNode) (wide : Option WideNode) (tree : Tree)
    → Searching job e budget made open_nodes wide → IsPreorder made tree.nodes → budget ≤ 1_000_000 → IsPrintable tree
printable job e budget made open_nodes wide tree s whole limit = record {
  spelt = subst (All IsSpelt) (sym whole.nodes_are) (all_nodes IsSpelt made whole.order (λ k h. let g = s.good.each k h in g.good.2) whole.is.known);
  whole = reads_fill job 1_000_000 tree.nodes ([] ∷ []) []
      (tree_with job (Good job e) (λ path node. length path ≤ 1_000_000) made s.paths tree s.good (λ k h. let f = s.fine k h in omega (arith, f.short, limit)) whole);
  takes = subst (All TakesRows) (sym whole.nodes_are) (all_nodes TakesRows made whole.order (λ k h. let g = s.good.each k h in g.good.3) whole.is.known);
}

-- ---- nothing is left
not_some : (wide : Option WideNode) → wide ≡ None → IsSome wide → ⊥
not_some wide e some = never (subst IsSome e some)
  where
    nothing : Option WideNode
    nothing = None

    never : IsSome nothing → ⊥
    never h = cc

pub none_pending : (job : Job) (e budget : ℕ) (made : List Made) (wide : Option WideNode) → Searching job e budget made [] wide → wide ≡ None
    → (k : ℕ) → k < length made → node_of made k ≡ Nodes.Pending → ⊥
none_pending job e budget made wide s none k h p = elim (s.all k h p) [ inl i ↦ i | inr w ↦ not_some wide none w.0 ]

closed_unless : (node : Node) → (node ≡ Nodes.Pending → ⊥) → IsClosed node
closed_unless (Nodes.Order i j) h = tt
closed_unless (Nodes.Side contact children) h = tt
closed_unless (Nodes.Bound mults) h = tt
closed_unless (Nodes.Cycle objects) h = tt
closed_unless Nodes.Pending h = h refl

pub refutes : (job : Job) (e budget : ℕ) (made : List Made) (wide : Option WideNode) (tree : Tree) → Searching job e budget made [] wide → wide ≡ None
    → IsPreorder made tree.nodes → ((s : ℕ) → IsMostSides job s → length made < budget + s) → budget ≤ 1_000_000 → IsRefutation job e budget tree
refutes job e budget made wide tree s none whole just limit = record {
  certificate = tree_with job (Good job e) (λ path node. (IsSoundNode job e path node × IsClosed node) × Grounded job e path node) made s.paths tree s.good
      (λ k h. let g = s.good.each k h in
      ((g.good.0, closed_unless (node_of made k) (none_pending job e budget made wide s none k h)), earned_is_grounded job e (path_at s.paths k) (node_of made k) g.good.1)) whole;
  few = λ n most. omega (arith, just n most, whole_length made tree.nodes whole);
  printable = printable job e budget made [] wide tree s whole limit;
}

-- ---- the budget is spent
could : (job : Job) (e : ℕ) (path : List Choice) (node : Node) (choices : List Choice) → SplitsBy job e path node choices → CouldSplit job e path
could job e path node choices by = first choices by.some by.children
  where
    first : (cs : List Choice) → 0 < length cs → AreChildren job path node (map (also path) cs) → CouldSplit job e path
    first [] some children = absurd (omega arith)
    first (c ∷ cs) some children = record { node = node; sound = by.sound; first = also path c; others = map (also path) cs; children = children; earned = by.earned }

pub spends : (job : Job) (e budget : ℕ) (made : List Made) (o : OpenNode) (open_nodes : List OpenNode) (wide : Option WideNode) (tree : Tree) (node : Node) (choices : List Choice)
    → Searching job e budget made (o ∷ open_nodes) wide → IsPreorder made tree.nodes → SplitsBy job e o.path node choices → budget ≤ length made
    → ((s : ℕ) → IsMostSides job s → length made < budget + s) → budget ≤ 1_000_000 → IsSpent job e budget tree
spends job e budget made o open_nodes wide tree node choices s whole by full just limit =
    let number = number_there made tree.nodes o.number whole s.held.0.known in
    let most = most_sides job in
    record {
      spent = record {
        s = most.0;
        most = most.1;
        unfinished = open_tree job e budget made (o ∷ open_nodes) wide tree o.number number.0 s whole number.1 s.held.0.pending;
        spent = omega (arith, full, whole_length made tree.nodes whole);
        just = omega (arith, just most.0 most.1, whole_length made tree.nodes whole);
        leaf = number.0;
        leaf_is = waits_there made tree o.number number.0 whole number.1 s.held.0.pending;
        path = o.path;
        path_is = subst (StandsAt job tree.nodes number.0) s.held.0.path (stands_at job (Good job e) made s.paths tree.nodes o.number number.0 s.good whole number.1);
        more = could job e o.path node choices by;
      };
      printable = printable job e budget made (o ∷ open_nodes) wide tree s whole limit;
    }

-- ---- only wide nodes are left
still_of : (job : Job) (e : ℕ) (made : List Made) (paths : List (List Choice)) (ns : List ℕ) (wide : Option WideNode) (w : WideNode) → wide ≡ Some w
    → IsHeld job e made paths ns wide → IsStill job e made paths ns w
still_of job e made paths ns wide w is held = subst (IsHeld job e made paths ns) is held

pub widens : (job : Job) (e budget : ℕ) (made : List Made) (wide : Option WideNode) (w : WideNode) (tree : Tree) (i : ℕ) → Searching job e budget made [] wide → wide ≡ Some w
    → IsPreorder made tree.nodes → IsNumber made w.number i → length made < 2 ^ 62 → budget ≤ 1_000_000
    → IsWideEnd job e (record { node = i; basis = w.basis; row = w.row }) tree
widens job e budget made wide w tree i s is whole number room limit =
    let still = still_of job e made s.paths [] wide w is s.still in
    let fine = s.fine w.number still.known in
    record {
      unfinished = open_tree job e budget made [] wide tree w.number i s whole number still.pending;
      noted = record {
        leaf_is = waits_there made tree w.number i whole number still.pending;
        path = path_at s.paths w.number;
        path_is = stands_at job (Good job e) made s.paths tree.nodes w.number i s.good whole number;
        wide = still.wide;
      };
      all_wide = tree_with job (Good job e) (λ path node. node ≡ Nodes.Pending → HasWideWalk job e path) made s.paths tree s.good
          (λ k h p. elim (s.all k h p) [ inl j ↦ absurd j | inr v ↦ v.1 ]) whole;
      spelt = note_is_spelt job e (path_at s.paths w.number) i w.basis w.row still.wide (omega (arith, fine.short, limit))
          (omega (arith, room, number_below made tree.nodes w.number i whole number, whole_length made tree.nodes whole));
      printable = printable job e budget made [] wide tree s whole limit;
    }

-- ---- what follows where the budget is Full
pub never_spent : (job : Job) (e budget full : ℕ) (d : Decision) → Full job full → full ≤ budget → IsDecision job e budget d → IsSpentDecision d → ⊥
never_spent job e budget full (Decisions.Found plan) is enough decides spent = spent
never_spent job e budget full (Decisions.Refuted tree) is enough decides spent = spent
never_spent job e budget full (Decisions.Spent tree) is enough decides spent =
    let below : budget < full = spent_below_full job e full budget tree is decides.spent in omega (arith, below, enough)
never_spent job e budget full (Decisions.Wide note tree) is enough decides spent = spent

pub settles : (job : Job) (e budget full : ℕ) (d : Decision) → Full job full → full ≤ budget → HasNoWideWalk job e → IsDecision job e budget d → IsSettled d
settles job e budget full (Decisions.Found plan) is enough narrow decides = tt
settles job e budget full (Decisions.Refuted tree) is enough narrow decides = tt
settles job e budget full (Decisions.Spent tree) is enough narrow decides =
    let below : budget < full = spent_below_full job e full budget tree is decides.spent in omega (arith, below, enough)
settles job e budget full (Decisions.Wide note tree) is enough narrow decides =
    narrow decides.noted.path (stands_at_path job e tree note.node decides.noted.path decides.unfinished decides.noted.path_is) (note.basis, note.row, decides.noted.wide)
