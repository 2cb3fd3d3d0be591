-- One step of the search, with its budget.
use Rattle.std.proofs.Common.{◌≡◌, ℕ, ◌+◌, ◌-◌, ◌*◌, ◌^◌, ◌<◌, ◌≤◌, List, [], ◌∷◌, ◌++◌, All, Option, Some, None, length, map, refl, sym, ap, subst, ◌∙◌, arith, length-append}
use Rattle.std.proofs.lemmas.List.{length-map, length-set}
use Rattle.node_looks.specs.Looks.{ClosesBy, HasZeroPlan, IsLook, IsVisit, IsWideAt, IsZeroLook, SplitsBy}
use Rattle.node_looks.specs.declared.looks.Look.{Look}
use Rattle.node_looks.specs.declared.looks.Look.TheVariants as Looks
use Rattle.refinement_loop.proofs.Answering.{refutes, spends, widens}
use Rattle.refinement_loop.proofs.Searching.{Searching, root, search_closes, search_splits, search_starts, search_widens}
use Rattle.refinement_loop.proofs.Visits.{AreVisits, visits_are}
use Rattle.refinement_loop.specs.Decisions.{IsRefutation, IsSpent, IsWideEnd}
use Rattle.refinement_loop.specs.WideNodes.{first_wide}
use Rattle.refinement_loop.specs.declared.wide_nodes.WideNode.{WideNode}
use Rattle.refutation_tree.specs.Grown.{IsNumber, IsPreorder, pending, with_leaf, with_split}
use Rattle.refutation_tree.specs.Laws.Grows.{length_split}
use Rattle.refutation_tree.specs.declared.growing.Made.{Made}
use Rattle.search_agenda.specs.Agendas.{OpenNode, child_of}
use Rattle.seq_model.specs.Budgets.{IsMostSides}
use Rattle.seq_model.specs.declared.job.Job.{Job}
use Rattle.seq_model.specs.declared.tree.Choice.{Choice}
use Rattle.seq_model.specs.declared.tree.Node.{Node}
use Rattle.seq_model.specs.declared.tree.Node.TheVariants as Nodes
use Rattle.seq_model.specs.declared.tree.Tree.{Tree}

-- `fresh`: where all objects may stand at the zero point, the root wasn't looked at yet
pub record Deciding (job : Job) (e budget : ℕ) (made : List Made) (open_nodes : List OpenNode) (wide : Option WideNode) : Type 0 where
  pub search : Searching job e budget made open_nodes wide
  pub just : (s : ℕ) → IsMostSides job s → length made < budget + s
  pub room : length made < 1_000_000 + 2 ^ 31
  pub fresh : HasZeroPlan job e → open_nodes ≡ root ∷ []

pub starts : (job : Job) (e budget : ℕ) → 1 ≤ budget → Deciding job e budget (pending ∷ []) (root ∷ []) None
starts job e budget some = record { search = search_starts job e budget; just = λ s most. omega (arith, most.at_least, some); room = omega arith; fresh = λ z. refl }

few_children : (job : Job) (e s : ℕ) (path : List Choice) (node : Node) (choices : List Choice) → IsMostSides job s → SplitsBy job e path node choices → length choices ≤ s
few_children job e s path (Nodes.Order i j) choices most by = omega (arith, most.at_least, by.many)
few_children job e s path (Nodes.Side contact children) choices most by =
    let c = by.children in
    omega (arith, by.many, most.most contact children (record { is = by.sound.0; dirs = c.0; sides = c.1; many = sym c.2 }))
few_children job e s path (Nodes.Bound mults) choices most by = omega (arith, by.many)
few_children job e s path (Nodes.Cycle objects) choices most by = omega (arith, by.many)
few_children job e s path Nodes.Pending choices most by = omega (arith, by.many)

-- nodes that may still be made, and open ones
pub left_over : ℕ → List Made → List OpenNode → ℕ
left_over budget made open_nodes = (budget - length made) * 4294967296 + length open_nodes

pub record Step (job : Job) (e budget : ℕ) (made now : List Made) (open_nodes left : List OpenNode) (wide : Option WideNode) : Type 0 where
  pub keeps : Deciding job e budget now left wide
  pub less : left_over budget now left < left_over budget made open_nodes

-- the open nodes as the loop has them, of which the first was taken
pub taken : (job : Job) (e budget : ℕ) (made : List Made) (open_nodes left : List OpenNode) (wide : Option WideNode) (number : ℕ) (path : List Choice)
    → Deciding job e budget made open_nodes wide → open_nodes ≡ record { number = number; path = path } ∷ left
    → Searching job e budget made (record { number = number; path = path } ∷ left) wide
taken job e budget made open_nodes left wide number path d head = subst (λ os. Searching job e budget made os wide) head d.search

-- what was answered of the path that the search stands at
pub record Looked (job : Job) (e : ℕ) (there : List Choice) (look : Look) : Type 0 where
  pub is : IsLook job e there look
  pub zero : there ≡ [] → HasZeroPlan job e → IsZeroLook job e look

-- where all objects may stand at the zero point, the path is the empty one
zero_path : (job : Job) (e budget : ℕ) (made : List Made) (open_nodes left : List OpenNode) (wide : Option WideNode) (number : ℕ) (path there : List Choice)
    → Deciding job e budget made open_nodes wide → open_nodes ≡ record { number = number; path = path } ∷ left → there ≡ path → HasZeroPlan job e → there ≡ []
zero_path job e budget made open_nodes left wide number path there d head at zero = at ∙ first (sym head ∙ d.fresh zero)
  where
    path_of_first : List OpenNode → List Choice
    path_of_first [] = []
    path_of_first (o ∷ os) = o.path

    first : record { number = number; path = path } ∷ left ≡ root ∷ [] → path ≡ []
    first e = ap path_of_first e

pub close_step : (job : Job) (e budget : ℕ) (made now : List Made) (open_nodes left : List OpenNode) (wide : Option WideNode) (number : ℕ) (path there : List Choice) (look : Look) (leaf : Node)
    → Deciding job e budget made open_nodes wide → open_nodes ≡ record { number = number; path = path } ∷ left → there ≡ path → Looked job e there look → look ≡ Looks.Close leaf
    → now ≡ with_leaf made number leaf → Step job e budget made now open_nodes left wide
unfolding left_over
close_step job e budget made now open_nodes left wide number path there look leaf d head at looked which is =
    subst (λ m. Step job e budget made m open_nodes left wide) (sym is)
    (record {
      keeps = record {
        search = search_closes job e budget made (record { number = number; path = path }) left wide leaf (taken job e budget made open_nodes left wide number path d head)
            (subst (λ p. ClosesBy job e p leaf) at by);
        just = λ s most. omega (arith, d.just s most, length-set made number (record { node = leaf; first = 0 }));
        room = omega (arith, d.room, length-set made number (record { node = leaf; first = 0 }));
        fresh = λ z. absurd (subst (IsZeroLook job e) which (looked.zero (zero_path job e budget made open_nodes left wide number path there d head at z) z));
      };
      less = less;
    })
  where
    by : ClosesBy job e there leaf
    by = subst (IsLook job e there) which looked.is

    less : left_over budget (with_leaf made number leaf) left < left_over budget made open_nodes
    less =
        subst (λ n. (budget - n) * 4294967296 + length left < (budget - length made) * 4294967296 + length open_nodes)
        (sym (length-set made number (record { node = leaf; first = 0 }))) (omega (arith, ap length head))

pub wide_step : (job : Job) (e budget : ℕ) (made : List Made) (open_nodes left : List OpenNode) (wide now : Option WideNode) (number : ℕ) (path there : List Choice) (look : Look)
    → (basis : List ℕ) (row : ℕ)
    → Deciding job e budget made open_nodes wide → open_nodes ≡ record { number = number; path = path } ∷ left → there ≡ path → Looked job e there look → look ≡ Looks.Wide basis row
    → now ≡ first_wide wide (record { number = number; basis = basis; row = row }) → Step job e budget made made open_nodes left now
unfolding left_over
wide_step job e budget made open_nodes left wide now number path there look basis row d head at looked which is =
    subst (λ w. Step job e budget made made open_nodes left w) (sym is)
    (record {
      keeps = record {
        search = search_widens job e budget made (record { number = number; path = path }) left wide basis row (taken job e budget made open_nodes left wide number path d head)
            (subst (λ p. IsWideAt job e p basis row) at by);
        just = d.just;
        room = d.room;
        fresh = λ z. absurd (subst (IsZeroLook job e) which (looked.zero (zero_path job e budget made open_nodes left wide number path there d head at z) z));
      };
      less = less;
    })
  where
    by : IsWideAt job e there basis row
    by = subst (IsLook job e there) which looked.is

    less : left_over budget made left < left_over budget made open_nodes
    less = omega (arith, ap length head)

pub split_step : (job : Job) (e budget : ℕ) (made now : List Made) (open_nodes left after : List OpenNode) (wide : Option WideNode) (number first : ℕ) (path there : List Choice) (look : Look)
    → (node : Node) (choices : List Choice) (visit : List ℕ)
    → Deciding job e budget made open_nodes wide → open_nodes ≡ record { number = number; path = path } ∷ left → there ≡ path → Looked job e there look → look ≡ Looks.Split node choices visit
    → length made < budget → budget ≤ 1_000_000 → now ≡ with_split made number node → first ≡ length made
    → after ≡ map (child_of first path choices) visit ++ left → Step job e budget made now open_nodes after wide
unfolding left_over
split_step job e budget made now open_nodes left after wide number first path there look node choices visit d head at looked which low limit is begins pushed =
    subst (λ m. Step job e budget made m open_nodes after wide) (sym is)
    (subst (λ a. Step job e budget made (with_split made number node) open_nodes a wide) (sym (pushed ∙ ap (λ n. map (child_of n path choices) visit ++ left) begins))
    (record {
      keeps = record {
        search = search_splits job e budget made (record { number = number; path = path }) left wide node choices visit (taken job e budget made open_nodes left wide number path d head) here order low;
        just = λ s most. omega (arith, low, length_split made number node, here.many, few_children job e s path node choices most here);
        room = omega (arith, low, limit, length_split made number node, here.many, here.few);
        fresh = λ z. absurd (subst (IsZeroLook job e) which (looked.zero (zero_path job e budget made open_nodes left wide number path there d head at z) z));
      };
      less = less;
    }))
  where
    by : SplitsBy job e there node choices × IsVisit (length choices) visit
    by = subst (IsLook job e there) which looked.is

    here : SplitsBy job e path node choices
    here = subst (λ p. SplitsBy job e p node choices) at by.0

    order : AreVisits (length choices) visit
    order = visits_are (length choices) visit by.1

    less : left_over budget (with_split made number node) (map (child_of (length made) path choices) visit ++ left) < left_over budget made open_nodes
    less =
        omega (
          arith,
          low,
          length_split made number node,
          here.many,
          here.some,
          here.few,
          length-append (map (child_of (length made) path choices) visit) left,
          length-map visit (child_of (length made) path choices),
          order.few,
          ap length head,
        )

-- what `push_all` asks of the order of the children
pub visit_known : (job : Job) (e : ℕ) (there : List Choice) (look : Look) (node : Node) (choices : List Choice) (visit : List ℕ) → Looked job e there look → look ≡ Looks.Split node choices visit
    → All (λ k. k < length choices) visit
visit_known job e there look node choices visit looked which = known (subst (IsLook job e there) which looked.is)
  where
    known : SplitsBy job e there node choices × IsVisit (length choices) visit → All (λ k. k < length choices) visit
    known by = let order = visits_are (length choices) visit by.1 in order.known

pub spent_step : (job : Job) (e budget : ℕ) (made : List Made) (open_nodes left : List OpenNode) (wide : Option WideNode) (number : ℕ) (path there : List Choice) (look : Look)
    → (node : Node) (choices : List Choice) (visit : List ℕ) (tree : Tree)
    → Deciding job e budget made open_nodes wide → open_nodes ≡ record { number = number; path = path } ∷ left → there ≡ path → Looked job e there look → look ≡ Looks.Split node choices visit
    → budget ≤ length made → budget ≤ 1_000_000 → IsPreorder made tree.nodes → IsSpent job e budget tree
spent_step job e budget made open_nodes left wide number path there look node choices visit tree d head at looked which full limit whole =
    spends job e budget made (record { number = number; path = path }) left wide tree node choices (taken job e budget made open_nodes left wide number path d head) whole
    (subst (λ p. SplitsBy job e p node choices) at by.0) full d.just limit
  where
    by : SplitsBy job e there node choices × IsVisit (length choices) visit
    by = subst (IsLook job e there) which looked.is

pub end_step : (job : Job) (e budget : ℕ) (made : List Made) (open_nodes : List OpenNode) (wide : Option WideNode) (tree : Tree) → Deciding job e budget made open_nodes wide → open_nodes ≡ []
    → wide ≡ None → budget ≤ 1_000_000 → IsPreorder made tree.nodes → IsRefutation job e budget tree
end_step job e budget made open_nodes wide tree d none narrow limit whole =
    refutes job e budget made wide tree (subst (λ os. Searching job e budget made os wide) none d.search) narrow whole d.just limit

pub wide_end : (job : Job) (e budget : ℕ) (made : List Made) (open_nodes : List OpenNode) (wide : Option WideNode) (w : WideNode) (tree : Tree) (i : ℕ) → Deciding job e budget made open_nodes wide
    → open_nodes ≡ [] → wide ≡ Some w → budget ≤ 1_000_000 → IsPreorder made tree.nodes → IsNumber made w.number i → IsWideEnd job e (record { node = i; basis = w.basis; row = w.row }) tree
wide_end job e budget made open_nodes wide w tree i d none is limit whole number =
    widens job e budget made wide w tree i (subst (λ os. Searching job e budget made os wide) none d.search) is whole number (omega (arith, d.room)) limit
