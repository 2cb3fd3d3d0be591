-- What a search keeps true.
--
--   Good job e            what is asked of each node that was made: it is sound, earned, one that a text may hold, and takes rows
--   IsOpen made paths o   an open node is pending, and stands at its path
--   IsPathOf job budget k path   the path of node k is one of the job, and no longer than k, nor than the budget
--   IsHeld .. wide        the wide node that is held is pending, and not open any more
--   Searching job e budget made open_nodes wide   each node that was made is good at its path; the open nodes are open, each once; and all
--                         that is pending is open or was wide
use Rattle.std.proofs.Common.{◌≡◌, ℕ, zero, suc, ◌+◌, ◌-◌, ◌<◌, ◌≤◌, List, [], ◌∷◌, ◌++◌, All, Option, Some, None, length, map, get_or, refl, sym, ap, subst, ◌∙◌, arith, inl, inr, ◌⊎◌, length-append}
use Rattle.std.specs.Prelude.{IsSome}
use Rattle.std.proofs.lemmas.Bool.{cases_eq, cases_lt}
use Rattle.std.proofs.lemmas.List.{get_or_append_left, get_or-append_right, get_or-map, get_or-set_same, get_or-set_other, length-set, length-map}
use Rattle.std.proofs.lemmas.List.Elements.{All-head, All-tail, All-get_or}
use Rattle.cert_text.specs.TreeText.{IsSpelt}
use Rattle.integer_laws.specs.Members.{In}
use Rattle.model_laws.specs.Laws.Reading.{no_choice, children_are_paths}
use Rattle.node_looks.specs.Looks.{ClosesBy, SplitsBy, IsWideAt, TakesRows}
use Rattle.refinement_loop.proofs.Visits.{AreApart, AreVisits}
use Rattle.refinement_loop.specs.Decisions.{HasWideWalk}
use Rattle.refinement_loop.specs.WideNodes.{first_wide}
use Rattle.refinement_loop.specs.declared.wide_nodes.WideNode.{WideNode}
use Rattle.refutation_tree.specs.Grown.{pending, node_of, IsLeaf, with_split, with_leaf}
use Rattle.refutation_tree.specs.Laws.Goodness.{path_at, AreGood, first_good, split_good, leaf_good}
use Rattle.refutation_tree.specs.Laws.Grows.{kept_by_split, split_at, pending_after_split, length_split}
use Rattle.refutation_tree.specs.declared.growing.Made.{Made}
use Rattle.search_agenda.specs.Agendas.{OpenNode, choice_at, child_of}
use Rattle.seq_model.specs.Splits.{Earned}
use Rattle.seq_model.specs.Trees.{also, arity, AreChildren, IsPath, IsSoundNode}
use Rattle.seq_model.specs.declared.job.Job.{Job}
use Rattle.seq_model.specs.declared.tree.Choice.{Choice}
use Rattle.seq_model.specs.declared.tree.Choice.TheVariants as Choices
use Rattle.seq_model.specs.declared.tree.Node.{Node}
use Rattle.seq_model.specs.declared.tree.Node.TheVariants as Nodes

abbrev pub Good : Job → ℕ → List Choice → Node → Type 0
Good job e path node = IsSoundNode job e path node × Earned job e path node × IsSpelt node × TakesRows node

pub record IsOpen (made : List Made) (paths : List (List Choice)) (o : OpenNode) : Type 0 where
  pub known : o.number < length made
  pub pending : node_of made o.number ≡ Nodes.Pending
  pub path : path_at paths o.number ≡ o.path

abbrev pub AreOpen : List Made → List (List Choice) → List OpenNode → Type 0
AreOpen made paths [] = Unit {0}
AreOpen made paths (o ∷ open_nodes) = IsOpen made paths o × AreOpen made paths open_nodes

abbrev pub numbers : List OpenNode → List ℕ
numbers open_nodes = map (λ o. o.number) open_nodes

pub record IsPathOf (job : Job) (budget k : ℕ) (path : List Choice) : Type 0 where
  pub is : IsPath job path
  pub early : length path ≤ k
  pub short : length path ≤ budget

pub record IsStill (job : Job) (e : ℕ) (made : List Made) (paths : List (List Choice)) (ns : List ℕ) (w : WideNode) : Type 0 where
  pub known : w.number < length made
  pub pending : node_of made w.number ≡ Nodes.Pending
  pub aside : In w.number ns → ⊥
  pub wide : IsWideAt job e (path_at paths w.number) w.basis w.row

abbrev pub IsHeld : Job → ℕ → List Made → List (List Choice) → List ℕ → Option WideNode → Type 0
IsHeld job e made paths ns None = Unit {0}
IsHeld job e made paths ns (Some w) = IsStill job e made paths ns w

abbrev pub WasWide : Job → ℕ → Option WideNode → List Choice → Type 0
WasWide job e wide path = IsSome wide × HasWideWalk job e path

pub record Searching (job : Job) (e budget : ℕ) (made : List Made) (open_nodes : List OpenNode) (wide : Option WideNode) : Type 0 where
  pub paths : List (List Choice)
  pub good : AreGood job (Good job e) made paths
  pub fine : (k : ℕ) → k < length made → IsPathOf job budget k (path_at paths k)
  pub held : AreOpen made paths open_nodes
  pub apart : AreApart (numbers open_nodes)
  pub still : IsHeld job e made paths (numbers open_nodes) wide
  pub all : (k : ℕ) → k < length made → node_of made k ≡ Nodes.Pending → In k (numbers open_nodes) ⊎ WasWide job e wide (path_at paths k)

abbrev pub root : OpenNode
root = record { number = 0; path = [] }

pub search_starts : (job : Job) (e budget : ℕ) → Searching job e budget (pending ∷ []) (root ∷ []) None
search_starts job e budget = record {
  paths = [] ∷ [];
  good = first_good job (Good job e) (tt, tt, tt, tt);
  fine = fine;
  held = (record { known = omega arith; pending = refl; path = refl }, tt);
  apart = ((λ i. i), tt);
  still = tt;
  all = λ k h p. inl (inl (omega (arith, h)));
}
  where
    fine : (k : ℕ) → k < 1 → IsPathOf job budget k (path_at ([] ∷ []) k)
    fine zero h = record { is = no_choice job; early = omega arith; short = omega arith }
    fine (suc k) h = absurd (omega arith)

-- the path of an open node
pub path_of_open : (job : Job) (e budget : ℕ) (made : List Made) (o : OpenNode) (open_nodes : List OpenNode) (wide : Option WideNode)
    → Searching job e budget made (o ∷ open_nodes) wide → IsPathOf job budget o.number o.path
path_of_open job e budget made o open_nodes wide s = subst (IsPathOf job budget o.number) s.held.0.path (s.fine o.number s.held.0.known)

-- ---- a leaf is closed
leaf_none : (leaf : Node) → IsLeaf leaf → arity leaf ≡ 0
leaf_none (Nodes.Order i j) is = absurd is
leaf_none (Nodes.Side contact children) is = absurd is
leaf_none (Nodes.Bound mults) is = refl
leaf_none (Nodes.Cycle objects) is = refl
leaf_none Nodes.Pending is = absurd is

leaf_children : (job : Job) (path : List Choice) (leaf : Node) → IsLeaf leaf → AreChildren job path leaf []
leaf_children job path (Nodes.Order i j) is = absurd is
leaf_children job path (Nodes.Side contact children) is = absurd is
leaf_children job path (Nodes.Bound mults) is = refl
leaf_children job path (Nodes.Cycle objects) is = refl
leaf_children job path Nodes.Pending is = absurd is

leaf_earned : (job : Job) (e : ℕ) (path : List Choice) (leaf : Node) → IsLeaf leaf → Earned job e path leaf
leaf_earned job e path (Nodes.Order i j) is = absurd is
leaf_earned job e path (Nodes.Side contact children) is = absurd is
leaf_earned job e path (Nodes.Bound mults) is = tt
leaf_earned job e path (Nodes.Cycle objects) is = tt
leaf_earned job e path Nodes.Pending is = absurd is

split_takes : (node : Node) → 0 < arity node → TakesRows node
split_takes (Nodes.Order i j) some = tt
split_takes (Nodes.Side contact children) some = tt
split_takes (Nodes.Bound mults) some = absurd (omega arith)
split_takes (Nodes.Cycle objects) some = tt
split_takes Nodes.Pending some = tt

leaf_closed : (leaf : Node) → IsLeaf leaf → leaf ≡ Nodes.Pending → ⊥
leaf_closed leaf is e = subst IsLeaf e is

others_open_leaf : (made : List Made) (paths : List (List Choice)) (at : ℕ) (leaf : Node) (open_nodes : List OpenNode) → (In at (numbers open_nodes) → ⊥)
    → AreOpen made paths open_nodes → AreOpen (with_leaf made at leaf) paths open_nodes
others_open_leaf made paths at leaf [] apart held = tt
others_open_leaf made paths at leaf (o ∷ open_nodes) apart held = (
  record {
    known = omega (arith, held.0.known, length-set made at (record { node = leaf; first = 0 }));
    pending = ap (λ m. m.node) (get_or-set_other made at o.number (record { node = leaf; first = 0 }) pending (λ e. apart (inl (sym e)))) ∙ held.0.pending;
    path = held.0.path;
  },
  others_open_leaf made paths at leaf open_nodes (λ i. apart (inr i)) held.1,
)

still_leaf : (job : Job) (e : ℕ) (made : List Made) (paths : List (List Choice)) (at : ℕ) (leaf : Node) (ns : List ℕ) (wide : Option WideNode)
    → IsHeld job e made paths (at ∷ ns) wide → IsHeld job e (with_leaf made at leaf) paths ns wide
still_leaf job e made paths at leaf ns None held = tt
still_leaf job e made paths at leaf ns (Some w) held = record {
  known = omega (arith, held.known, length-set made at (record { node = leaf; first = 0 }));
  pending = ap (λ m. m.node) (get_or-set_other made at w.number (record { node = leaf; first = 0 }) pending (λ e. held.aside (inl e))) ∙ held.pending;
  aside = λ i. held.aside (inr i);
  wide = held.wide;
}

pub search_closes : (job : Job) (e budget : ℕ) (made : List Made) (o : OpenNode) (open_nodes : List OpenNode) (wide : Option WideNode) (leaf : Node)
    → Searching job e budget made (o ∷ open_nodes) wide → ClosesBy job e o.path leaf → Searching job e budget (with_leaf made o.number leaf) open_nodes wide
search_closes job e budget made o open_nodes wide leaf s by = record {
  paths = s.paths;
  good = leaf_good job (Good job e) made s.paths o.number leaf s.good s.held.0.known
      (subst (λ p. Good job e p leaf) (sym s.held.0.path) (by.sound, leaf_earned job e o.path leaf by.is_leaf, by.spelt, by.takes)) (leaf_none leaf by.is_leaf)
      (subst (λ p. AreChildren job p leaf []) (sym s.held.0.path) (leaf_children job o.path leaf by.is_leaf));
  fine = λ k h. s.fine k (omega (arith, h, length-set made o.number (record { node = leaf; first = 0 })));
  held = others_open_leaf made s.paths o.number leaf open_nodes s.apart.0 s.held.1;
  apart = s.apart.1;
  still = still_leaf job e made s.paths o.number leaf (numbers open_nodes) wide s.still;
  all = λ k h p. all k (omega (arith, h, length-set made o.number (record { node = leaf; first = 0 }))) p (cases_eq k o.number);
}
  where
    all : (k : ℕ) → k < length made → node_of (with_leaf made o.number leaf) k ≡ Nodes.Pending → ((k ≡ o.number) ⊎ (k ≡ o.number → ⊥))
        → In k (numbers open_nodes) ⊎ WasWide job e wide (path_at s.paths k)
    all k h p (inl at) =
        absurd (leaf_closed leaf by.is_leaf
        (sym (ap (λ x. node_of (with_leaf made o.number leaf) x) at ∙ ap (λ m. m.node) (get_or-set_same made o.number (record { node = leaf; first = 0 }) pending s.held.0.known)) ∙ p))
    all k h p (inr ne) =
        elim (s.all k h (sym (ap (λ m. m.node) (get_or-set_other made o.number k (record { node = leaf; first = 0 }) pending ne)) ∙ p))
        [ inl i ↦ elim i [ inl at ↦ absurd (ne at) | inr j ↦ inl j ] | inr w ↦ inr w ]

-- ---- a node's walk is wide: it stays pending
still_wide : (job : Job) (e : ℕ) (made : List Made) (paths : List (List Choice)) (at : ℕ) (ns : List ℕ) (wide : Option WideNode) (w : WideNode)
    → IsHeld job e made paths (at ∷ ns) wide → IsStill job e made paths ns w → IsHeld job e made paths ns (first_wide wide w)
still_wide job e made paths at ns None w held is = is
still_wide job e made paths at ns (Some v) w held is = record { known = held.known; pending = held.pending; aside = λ i. held.aside (inr i); wide = held.wide }

some_wide : (wide : Option WideNode) (w : WideNode) → IsSome (first_wide wide w)
some_wide None w = refl
some_wide (Some v) w = refl

pub search_widens : (job : Job) (e budget : ℕ) (made : List Made) (o : OpenNode) (open_nodes : List OpenNode) (wide : Option WideNode) (basis : List ℕ) (row : ℕ)
    → Searching job e budget made (o ∷ open_nodes) wide → IsWideAt job e o.path basis row
    → Searching job e budget made open_nodes (first_wide wide (record { number = o.number; basis = basis; row = row }))
search_widens job e budget made o open_nodes wide basis row s by = record {
  paths = s.paths;
  good = s.good;
  fine = s.fine;
  held = s.held.1;
  apart = s.apart.1;
  still = still_wide job e made s.paths o.number (numbers open_nodes) wide (record { number = o.number; basis = basis; row = row }) s.still
      (record { known = s.held.0.known; pending = s.held.0.pending; aside = s.apart.0; wide = there });
  all = λ k h p. all k (s.all k h p);
}
  where
    there : IsWideAt job e (path_at s.paths o.number) basis row
    there = subst (λ p. IsWideAt job e p basis row) (sym s.held.0.path) by

    now : Option WideNode
    now = first_wide wide (record { number = o.number; basis = basis; row = row })

    all : (k : ℕ) → (In k (o.number ∷ numbers open_nodes) ⊎ WasWide job e wide (path_at s.paths k))
        → In k (numbers open_nodes) ⊎ WasWide job e (first_wide wide (record { number = o.number; basis = basis; row = row })) (path_at s.paths k)
    all k (inl (inl at)) =
        inr (some_wide wide (record { number = o.number; basis = basis; row = row }), subst (λ n. HasWideWalk job e (path_at s.paths n)) (sym at) (basis, row, there))
    all k (inl (inr i)) = inl i
    all k (inr w) = inr (some_wide wide (record { number = o.number; basis = basis; row = row }), w.1)

-- ---- a node is split
others_open_split : (made : List Made) (paths more : List (List Choice)) (at : ℕ) (node : Node) (open_nodes : List OpenNode) → length paths ≡ length made → (In at (numbers open_nodes) → ⊥)
    → AreOpen made paths open_nodes → AreOpen (with_split made at node) (paths ++ more) open_nodes
others_open_split made paths more at node [] many apart held = tt
others_open_split made paths more at node (o ∷ open_nodes) many apart held = (
  record {
    known = omega (arith, held.0.known, length_split made at node);
    pending = ap (λ m. m.node) (kept_by_split made at node o.number held.0.known (λ e. apart (inl (sym e)))) ∙ held.0.pending;
    path = get_or_append_left paths more [] o.number (omega (arith, held.0.known, many)) ∙ held.0.path;
  },
  others_open_split made paths more at node open_nodes many (λ i. apart (inr i)) held.1,
)

-- the new ones, in the order of their visits: child k is node n + k
new_open : (made : List Made) (paths : List (List Choice)) (path : List Choice) (n count : ℕ) (choices : List Choice) (visits : List ℕ) → n + count ≤ length made
    → ((k : ℕ) → k < count → node_of made (n + k) ≡ Nodes.Pending) → ((k : ℕ) → k < count → path_at paths (n + k) ≡ also path (choice_at choices k))
    → All (λ k. k < count) visits → AreOpen made paths (map (child_of n path choices) visits)
new_open made paths path n count choices [] room waits stands known = tt
new_open made paths path n count choices (k ∷ visits) room waits stands known =
    let low : k < count = All-head (λ (x : ℕ). x < count) k visits known in (
      record { known = omega (arith, low, room); pending = waits k low; path = stands k low },
      new_open made paths path n count choices visits room waits stands (All-tail (λ (x : ℕ). x < count) k visits known),
    )

append_open : (made : List Made) (paths : List (List Choice)) (a b : List OpenNode) → AreOpen made paths a → AreOpen made paths b → AreOpen made paths (a ++ b)
append_open made paths [] b x y = y
append_open made paths (o ∷ a) b x y = (x.0, append_open made paths a b x.1 y)

in_children : (k n : ℕ) (path choices : List Choice) (visits : List ℕ) (open_nodes : List OpenNode) → In k (numbers (map (child_of n path choices) visits ++ open_nodes))
    → ((i : ℕ) × (k ≡ n + i) × In i visits) ⊎ In k (numbers open_nodes)
in_children k n path choices [] open_nodes i = inr i
in_children k n path choices (v ∷ visits) open_nodes (inl e) = inl (v, e, inl refl)
in_children k n path choices (v ∷ visits) open_nodes (inr i) =
    elim (in_children k n path choices visits open_nodes i) [ inl h ↦ inl (h.0, h.1, inr h.2) | inr j ↦ inr j ]

-- numbers from n on, each once, and others below it
apart_children : (n : ℕ) (path choices : List Choice) (visits : List ℕ) (open_nodes : List OpenNode) → ((k : ℕ) → In k (numbers open_nodes) → k < n) → AreApart visits → AreApart (numbers open_nodes)
    → AreApart (numbers (map (child_of n path choices) visits ++ open_nodes))
apart_children n path choices [] open_nodes below own apart = apart
apart_children n path choices (v ∷ visits) open_nodes below own apart = (
  (λ i. elim (in_children (n + v) n path choices visits open_nodes i)
      [ inl h ↦ own.0 (subst (λ x. In x visits) (same h.0 h.1) h.2) | inr j ↦ omega (arith, below (n + v) j) ]),
  apart_children n path choices visits open_nodes below own.1 apart,
)
  where
    same : (i : ℕ) → n + v ≡ n + i → i ≡ v
    same i e = omega (arith, e)

child_in : (k n : ℕ) (path choices : List Choice) (visits : List ℕ) (open_nodes : List OpenNode) → In k visits → In (n + k) (numbers (map (child_of n path choices) visits ++ open_nodes))
child_in k n path choices [] open_nodes i = absurd i
child_in k n path choices (v ∷ visits) open_nodes (inl e) = inl (ap (λ x. n + x) e)
child_in k n path choices (v ∷ visits) open_nodes (inr i) = inr (child_in k n path choices visits open_nodes i)

other_in : (k n : ℕ) (path choices : List Choice) (visits : List ℕ) (open_nodes : List OpenNode) → In k (numbers open_nodes) → In k (numbers (map (child_of n path choices) visits ++ open_nodes))
other_in k n path choices [] open_nodes i = i
other_in k n path choices (v ∷ visits) open_nodes i = inr (other_in k n path choices visits open_nodes i)

held_below : (made : List Made) (paths : List (List Choice)) (open_nodes : List OpenNode) → AreOpen made paths open_nodes → (k : ℕ) → In k (numbers open_nodes) → k < length made
held_below made paths [] held k i = absurd i
held_below made paths (o ∷ open_nodes) held k (inl e) = omega (arith, e, held.0.known)
held_below made paths (o ∷ open_nodes) held k (inr i) = held_below made paths open_nodes held.1 k i

still_split : (job : Job) (e : ℕ) (made : List Made) (paths more : List (List Choice)) (at : ℕ) (node : Node) (path choices : List Choice) (visits : List ℕ) (open_nodes : List OpenNode)
    → (wide : Option WideNode) → length paths ≡ length made → IsHeld job e made paths (at ∷ numbers open_nodes) wide
    → IsHeld job e (with_split made at node) (paths ++ more) (numbers (map (child_of (length made) path choices) visits ++ open_nodes)) wide
still_split job e made paths more at node path choices visits open_nodes None many held = tt
still_split job e made paths more at node path choices visits open_nodes (Some w) many held = record {
  known = omega (arith, held.known, length_split made at node);
  pending = ap (λ m. m.node) (kept_by_split made at node w.number held.known (λ e. held.aside (inl e))) ∙ held.pending;
  aside = λ i. elim (in_children w.number (length made) path choices visits open_nodes i) [ inl h ↦ omega (arith, h.1, held.known) | inr j ↦ held.aside (inr j) ];
  wide = subst (λ p. IsWideAt job e p w.basis w.row) (sym (get_or_append_left paths more [] w.number (omega (arith, held.known, many)))) held.wide;
}

-- the path of a child
child_path : (path choices : List Choice) (k : ℕ) → k < length choices → get_or (map (also path) choices) k [] ≡ also path (choice_at choices k)
child_path path choices k h = get_or-map (also path) choices k (Choices.Before 0 0) [] h

split_pending : (node : Node) → 0 < arity node → node ≡ Nodes.Pending → ⊥
split_pending node some e = omega (arith, some, ap arity e)

pub search_splits : (job : Job) (e budget : ℕ) (made : List Made) (o : OpenNode) (open_nodes : List OpenNode) (wide : Option WideNode) (node : Node) (choices : List Choice) (visits : List ℕ)
    → Searching job e budget made (o ∷ open_nodes) wide → SplitsBy job e o.path node choices → AreVisits (length choices) visits → length made < budget
    → Searching job e budget (with_split made o.number node) (map (child_of (length made) o.path choices) visits ++ open_nodes) wide
search_splits job e budget made o open_nodes wide node choices visits s by order left = record {
  paths = s.paths ++ more;
  good = split_good job (Good job e) (λ path. (tt, tt, tt, tt)) made s.paths o.number node more s.good s.held.0.known
      (subst (λ p. Good job e p node) (sym s.held.0.path) (by.sound, by.earned, by.spelt, split_takes node (omega (arith, by.some, by.many)))) (subst (λ p. AreChildren job p node more) (sym s.held.0.path) by.children) (size ∙ by.many);
  fine = λ k h. fine k (omega (arith, h, length_split made o.number node, by.many)) (cases_lt k (length made));
  held = append_open (with_split made o.number node) (s.paths ++ more) (map (child_of (length made) o.path choices) visits) open_nodes
      (new_open (with_split made o.number node) (s.paths ++ more) o.path (length made) (length choices) choices visits (omega (arith, length_split made o.number node, by.many))
      (λ k h. ap (λ m. m.node) (pending_after_split made o.number node (length made + k) (omega arith))) stands order.known)
      (others_open_split made s.paths more o.number node open_nodes s.good.many s.apart.0 s.held.1);
  apart = apart_children (length made) o.path choices visits open_nodes (held_below made s.paths open_nodes s.held.1) order.apart s.apart.1;
  still = still_split job e made s.paths more o.number node o.path choices visits open_nodes wide s.good.many s.still;
  all = λ k h p. all k (omega (arith, h, length_split made o.number node, by.many)) p (cases_lt k (length made)) (cases_eq k o.number);
}
  where
    more : List (List Choice)
    more = map (also o.path) choices

    size : length (map (also o.path) choices) ≡ length choices
    size = length-map choices (also o.path)

    less : (n i : ℕ) → n + i - n ≡ i
    less n i = omega arith

    below : IsPathOf job budget o.number o.path
    below = path_of_open job e budget made o open_nodes wide s

    behind : (i : ℕ) → path_at (s.paths ++ map (also o.path) choices) (length made + i) ≡ get_or (map (also o.path) choices) i []
    behind i =
        get_or-append_right s.paths (map (also o.path) choices) (length made) (length made + i) [] s.good.many (omega arith)
        ∙ ap (λ k. get_or (map (also o.path) choices) k []) (less (length made) i)

    stands : (k : ℕ) → k < length choices → path_at (s.paths ++ map (also o.path) choices) (length made + k) ≡ also o.path (choice_at choices k)
    stands k h = behind k ∙ child_path o.path choices k h

    early : (k : ℕ) → k < length choices → IsPathOf job budget (length made + k) (path_at (s.paths ++ map (also o.path) choices) (length made + k))
    early k h =
        let is : IsPath job (get_or (map (also o.path) choices) k []) = All-get_or (IsPath job) (map (also o.path) choices) k [] (omega (arith, h, size)) (children_are_paths job e o.path node (map (also o.path) choices) below.is by.sound by.children) in
        let longer : length (also o.path (choice_at choices k)) ≡ length o.path + 1 = length-append o.path (choice_at choices k ∷ []) in
        record {
          is = subst (IsPath job) (sym (behind k)) is;
          early = subst (λ (p : List Choice). length p ≤ length made + k) (sym (stands k h)) (omega (arith, longer, below.early, s.held.0.known));
          short = subst (λ (p : List Choice). length p ≤ budget) (sym (stands k h)) (omega (arith, longer, below.early, s.held.0.known, left));
        }

    fine : (k : ℕ) → k < length made + length choices → ((k < length made) ⊎ (length made ≤ k)) → IsPathOf job budget k (path_at (s.paths ++ map (also o.path) choices) k)
    fine k h (inl low) = subst (IsPathOf job budget k) (sym (get_or_append_left s.paths (map (also o.path) choices) [] k (omega (arith, low, s.good.many)))) (s.fine k low)
    fine k h (inr late) =
        subst (λ n. IsPathOf job budget n (path_at (s.paths ++ map (also o.path) choices) n)) (again (length made) late) (early (k - length made) (omega (arith, h, late)))
      where
        again : (n : ℕ) → n ≤ k → n + (k - n) ≡ k
        again n l = omega (arith, l)

    all : (k : ℕ) → k < length made + length choices → node_of (with_split made o.number node) k ≡ Nodes.Pending → ((k < length made) ⊎ (length made ≤ k)) → ((k ≡ o.number) ⊎ (k ≡ o.number → ⊥))
        → In k (numbers (map (child_of (length made) o.path choices) visits ++ open_nodes)) ⊎ WasWide job e wide (path_at (s.paths ++ map (also o.path) choices) k)
    all k h p (inr late) eq =
        inl (subst (λ n. In n (numbers (map (child_of (length made) o.path choices) visits ++ open_nodes))) (again (length made) late)
        (child_in (k - length made) (length made) o.path choices visits open_nodes (order.each (k - length made) (omega (arith, h, late)))))
      where
        again : (n : ℕ) → n ≤ k → n + (k - n) ≡ k
        again n l = omega (arith, l)
    all k h p (inl low) (inl at) =
        absurd (split_pending node (omega (arith, by.some, by.many))
        (sym (ap (λ x. node_of (with_split made o.number node) x) at ∙ ap (λ m. m.node) (split_at made o.number node s.held.0.known)) ∙ p))
    all k h p (inl low) (inr ne) =
        elim (s.all k low (sym (ap (λ m. m.node) (kept_by_split made o.number node k low ne)) ∙ p)) [
          | inl i ↦ elim i [ inl at ↦ absurd (ne at) | inr j ↦ inl (other_in k (length made) o.path choices visits open_nodes j) ]
          | inr w ↦ inr (w.0, subst (HasWideWalk job e) (sym (get_or_append_left s.paths (map (also o.path) choices) [] k (omega (arith, low, s.good.many)))) w.1)
        ]
