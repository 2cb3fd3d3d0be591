-- What is read from the left leaves the same paths, whoever reads it.
--
--   children_same     a node has one list of paths for its children
--   one_left          nodes that are read from the same paths leave the same paths
--   one_path          so a node stands at one path
--   stands_at_path    and a node of an open tree stands at a path of the job
--   good_at           what holds of each node at its path holds of node k
--   open_node, certified_node   so node k of an open tree is sound and earned, that of a certificate closed and grounded
use Rattle.std.proofs.Common.{◌≡◌, Some, ℕ, zero, suc, List, [], ◌∷◌, ◌++◌, All, map, take, get_or, sym, ap, subst, ◌∙◌}
use Rattle.std.proofs.lemmas.List.Elements.{All-nil, All-cons, All-head, All-tail, All-append}
use Rattle.std.proofs.lemmas.Option.{same_Some, none-some}
use Rattle.std.specs.Prelude.{slice_get}
use Rattle.model_laws.specs.Laws.OneList.{one_list_of_sides}
use Rattle.model_laws.specs.Laws.Reading.{no_choice, children_are_paths}
use Rattle.seq_model.specs.Contacts.{points_of}
use Rattle.seq_model.specs.Splits.{Earned, Grounded, IsCertificate, OpenTree, StandsAt}
use Rattle.seq_model.specs.Trees.{also, IsPath, AreChildren, IsSoundNode, IsClosed, Reads}
use Rattle.seq_model.specs.declared.job.Job.{Job}
use Rattle.seq_model.specs.declared.tree.Choice.{Choice}
use Rattle.seq_model.specs.declared.tree.Choice.TheVariants as Choices
use Rattle.seq_model.specs.declared.tree.Node.{Node}
use Rattle.seq_model.specs.declared.tree.Node.TheVariants as Nodes
use Rattle.seq_model.specs.declared.tree.Tree.{Tree}

pub children_same : (job : Job) (path : List Choice) (node : Node) (ps qs : List (List Choice)) → AreChildren job path node ps → AreChildren job path node qs → ps ≡ qs
children_same job path (Nodes.Order i j) ps qs a b = a ∙ sym b
children_same job path (Nodes.Bound mults) ps qs a b = a ∙ sym b
children_same job path (Nodes.Cycle objects) ps qs a b = a ∙ sym b
children_same job path Nodes.Pending ps qs a b = a ∙ sym b
children_same job path (Nodes.Side contact count) ps qs a b =
    a.3 ∙ (ap (map (λ dir. also path (Choices.Side contact dir))) (one_list_of_sides (points_of job contact) a.0 b.0 a.1 b.1) ∙ sym b.3)

pub one_left : (job : Job) (G H : List Choice → Node → Type 0) (nodes : List Node) (todo left other : List (List Choice)) → Reads job G todo nodes left → Reads job H todo nodes other → left ≡ other
one_left job G H [] todo left other r s = sym r ∙ s
one_left job G H (node ∷ nodes) [] left other r s = absurd r
one_left job G H (node ∷ nodes) (path ∷ todo) left other r s =
    one_left job G H nodes (r.1 ++ todo) left other r.3 (subst (λ ps. Reads job H (ps ++ todo) nodes other) (children_same job path node s.1 r.1 s.2 r.2) s.3)

pub one_path : (job : Job) (nodes : List Node) (k : ℕ) (path other : List Choice) → StandsAt job nodes k path → StandsAt job nodes k other → path ≡ other
one_path job nodes k path other a b = ap (λ l. get_or l 0 path) (one_left job (λ at node. Unit {0}) (λ at node. Unit {0}) (take k nodes) ([] ∷ []) (path ∷ a.0) (other ∷ b.0) a.1 b.1)

stands_below : (job : Job) (e : ℕ) (G : List Choice → Node → Type 0) → ((path : List Choice) (node : Node) → G path node → IsSoundNode job e path node) → (nodes : List Node) (k : ℕ) (todo left rest : List (List Choice)) (path : List Choice)
    → All (IsPath job) todo → Reads job G todo nodes left → Reads job (λ at node. Unit {0}) todo (take k nodes) (path ∷ rest) → IsPath job path
stands_below job e G sound nodes zero todo left rest path all r s = All-head (IsPath job) path rest (subst (All (IsPath job)) s all)
stands_below job e G sound [] (suc k) todo left rest path all r s = All-head (IsPath job) path rest (subst (All (IsPath job)) s all)
stands_below job e G sound (node ∷ nodes) (suc k) [] left rest path all r s = absurd r
stands_below job e G sound (node ∷ nodes) (suc k) (p ∷ todo) left rest path all r s =
    let here = All-head (IsPath job) p todo all in
    let below = children_are_paths job e p node r.1 here (sound p node r.0) r.2 in
    stands_below job e G sound nodes k (r.1 ++ todo) left rest path (All-append (IsPath job) r.1 todo below (All-tail (IsPath job) p todo all)) r.3
    (subst (λ ps. Reads job (λ at node. Unit {0}) (ps ++ todo) (take k nodes) (path ∷ rest)) (children_same job p node s.1 r.1 s.2 r.2) s.3)

pub stands_at_path : (job : Job) (e : ℕ) (tree : Tree) (k : ℕ) (path : List Choice) → OpenTree job e tree → StandsAt job tree.nodes k path → IsPath job path
stands_at_path job e tree k path unfinished s =
    stands_below job e _ (λ at node g. g.0) tree.nodes k ([] ∷ []) [] s.0 path (All-cons (IsPath job) [] [] (no_choice job) (All-nil (IsPath job))) unfinished.each s.1

-- ---- what holds of each node of a tree
pub good_at : (job : Job) (G : List Choice → Node → Type 0) (nodes : List Node) (k : ℕ) (todo left rest : List (List Choice)) (path : List Choice) (node : Node)
    → Reads job G todo nodes left → Reads job (λ at node. Unit {0}) todo (take k nodes) (path ∷ rest) → slice_get nodes k ≡ Some node → G path node
good_at job G [] zero todo left rest path node r s e = absurd (none-some node e)
good_at job G [] (suc k) todo left rest path node r s e = absurd (none-some node e)
good_at job G (n ∷ nodes) zero [] left rest path node r s e = absurd r
good_at job G (n ∷ nodes) zero (p ∷ todo) left rest path node r s e =
    subst (λ q. G q node) (ap (λ l. get_or l 0 p) s) (subst (G p) (same_Some n node e) r.0)
good_at job G (n ∷ nodes) (suc k) [] left rest path node r s e = absurd r
good_at job G (n ∷ nodes) (suc k) (p ∷ todo) left rest path node r s e =
    good_at job G nodes k (r.1 ++ todo) left rest path node r.3
    (subst (λ ps. Reads job (λ at node. Unit {0}) (ps ++ todo) (take k nodes) (path ∷ rest)) (children_same job p n s.1 r.1 s.2 r.2) s.3) e

pub open_node : (job : Job) (e : ℕ) (tree : Tree) (k : ℕ) (path : List Choice) (node : Node) → OpenTree job e tree → StandsAt job tree.nodes k path → slice_get tree.nodes k ≡ Some node
    → IsSoundNode job e path node × Earned job e path node
open_node job e tree k path node unfinished s here = good_at job _ tree.nodes k ([] ∷ []) [] s.0 path node unfinished.each s.1 here

pub certified_node : (job : Job) (e : ℕ) (tree : Tree) (k : ℕ) (path : List Choice) (node : Node) → IsCertificate job e tree → StandsAt job tree.nodes k path → slice_get tree.nodes k ≡ Some node
    → (IsSoundNode job e path node × IsClosed node) × Grounded job e path node
certified_node job e tree k path node certificate s here = good_at job _ tree.nodes k ([] ∷ []) [] s.0 path node certificate s.1 here
