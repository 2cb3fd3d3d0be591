-- Nodes that are read from the left.
--
--   reads_weaker     what holds of each node may be weakened
--   reads_then       two parts of a list of nodes, read one after the other
--   joined, parted   trees for some paths and trees for others, one after the other
--   MayFollow job path choice   a side is chosen of a contact of the job, one of its sides, and after the order of its objects
--   path_also        one more such choice on a path of the job
--   children_are_paths   the children of a sound node at a path of the job stand at paths of the job
--   reads_paths          and so does whatever is read below such paths
use Rattle.std.proofs.Common.{◌≡◌, ℕ, inl, inr, List, [], ◌∷◌, ◌++◌, All, ◌⊎◌, drop, get_or, length, arith, refl, sym, ap, subst, ◌∙◌, map, append_assoc}
use Rattle.std.proofs.lemmas.List.Elements.{All-nil, All-cons, All-head, All-tail, All-append}
use Rattle.integer_laws.specs.Members.{In}
use Rattle.integer_laws.specs.Laws.Members.{Contains-from_in}
use Rattle.seq_model.specs.Contacts.{IsContact, points_of}
use Rattle.seq_model.specs.Sides.{Side}
use Rattle.seq_model.specs.Trees.{also, IsReady, IsPath, AreChildren, IsSoundNode, IsClosed, Reads, IsTree, Refutes}
use Rattle.seq_model.specs.declared.job.Job.{Job}
use Rattle.seq_model.specs.declared.tree.Choice.{Choice}
use Rattle.seq_model.specs.declared.tree.Choice.TheVariants as Choices
use Rattle.seq_model.specs.declared.tree.Contact.{Contact}
use Rattle.seq_model.specs.declared.tree.Dir.{Dir}
use Rattle.seq_model.specs.declared.tree.Node.{Node}
use Rattle.seq_model.specs.declared.tree.Node.TheVariants as Nodes

pub reads_weaker : (job : Job) (Good Fine : List Choice → Node → Type 0) → ((path : List Choice) (node : Node) → Good path node → Fine path node)
    → (nodes : List Node) (todo left : List (List Choice)) → Reads job Good todo nodes left → Reads job Fine todo nodes left
reads_weaker job Good Fine w [] todo left r = r
reads_weaker job Good Fine w (node ∷ nodes) [] left r = absurd r
reads_weaker job Good Fine w (node ∷ nodes) (path ∷ todo) left r =
    (w path node r.0, r.1, r.2, reads_weaker job Good Fine w nodes (r.1 ++ todo) left r.3)

pub reads_then : (job : Job) (Good : List Choice → Node → Type 0) (front back : List Node) (todo mid left : List (List Choice))
    → Reads job Good todo front mid → Reads job Good mid back left → Reads job Good todo (front ++ back) left
reads_then job Good [] back todo mid left r s = subst (λ t. Reads job Good t back left) (sym r) s
reads_then job Good (node ∷ front) back [] mid left r s = absurd r
reads_then job Good (node ∷ front) back (path ∷ todo) mid left r s =
    (r.0, r.1, r.2, reads_then job Good front back (r.1 ++ todo) mid left r.3 s)

-- more paths wait behind
reads_before : (job : Job) (Good : List Choice → Node → Type 0) (todo more : List (List Choice)) (nodes : List Node) (left : List (List Choice))
    → Reads job Good todo nodes left → Reads job Good (todo ++ more) nodes (left ++ more)
reads_before job Good todo more [] left r = ap (λ t. t ++ more) r
reads_before job Good [] more (node ∷ nodes) left r = absurd r
reads_before job Good (path ∷ todo) more (node ∷ nodes) left r =
    (r.0, r.1, r.2, subst (λ t. Reads job Good t nodes (left ++ more)) (append_assoc r.1 todo more) (reads_before job Good (r.1 ++ todo) more nodes left r.3))

pub joined : (job : Job) (Good : List Choice → Node → Type 0) (a b : List (List Choice)) (front back : List Node)
    → Reads job Good a front [] → Reads job Good b back [] → Reads job Good (a ++ b) (front ++ back) []
joined job Good a b front back r s = reads_then job Good front back (a ++ b) b [] (reads_before job Good a b front [] r) s

-- the nodes for the first paths, and then those for the others
pub record Parts (job : Job) (Good : List Choice → Node → Type 0) (a b : List (List Choice)) (nodes : List Node) : Type 0 where
  pub front : List Node
  pub back : List Node
  pub are : nodes ≡ front ++ back
  pub first : Reads job Good a front []
  pub second : Reads job Good b back []

pub parted : (job : Job) (Good : List Choice → Node → Type 0) (a b : List (List Choice)) (nodes : List Node) → Reads job Good (a ++ b) nodes [] → Parts job Good a b nodes
parted job Good [] b nodes r = record { front = []; back = nodes; are = refl; first = refl; second = r }
parted job Good (path ∷ a) b [] r = absurd (omega (arith, ap length r))
parted job Good (path ∷ a) b (node ∷ nodes) r =
    let s = parted job Good (r.1 ++ a) b nodes (subst (λ t. Reads job Good t nodes []) (sym (append_assoc r.1 a b)) r.3) in
    record { front = node ∷ s.front; back = s.back; are = ap (λ t. node ∷ t) s.are; first = (r.0, r.1, r.2, s.first); second = s.second }

-- ---- paths of a job
abbrev pub MayFollow : Job → List Choice → Choice → Type 0
MayFollow job path (Choices.Before i j) = Unit {0}
MayFollow job path (Choices.Side contact dir) = IsContact job contact × Side (points_of job contact) dir × IsReady job path contact

-- where x stands in a path with one more choice at its end: it is this choice, or it stands in the path
abbrev Stands : List Choice → Choice → List Choice → Choice → Type 0
Stands path choice earlier x = ((path ≡ earlier) × (choice ≡ x)) ⊎ ((more : List Choice) × (path ≡ earlier ++ x ∷ more))

stands : (path : List Choice) (choice : Choice) (earlier later : List Choice) (x : Choice) → also path choice ≡ earlier ++ x ∷ later → Stands path choice earlier x
stands [] choice [] later x e = inl (refl, ap (λ l. get_or l 0 choice) e)
stands [] choice (b ∷ earlier) later x e = absurd (few earlier (ap length e))
  where
    few : (l : List Choice) → length (choice ∷ []) ≡ length (b ∷ l ++ x ∷ later) → ⊥
    few [] h = omega (arith, h)
    few (y ∷ l) h = omega (arith, h)
stands (p ∷ path) choice [] later x e = inr (path, ap (λ h. h ∷ path) (ap (λ l. get_or l 0 p) e))
stands (p ∷ path) choice (b ∷ earlier) later x e = by (stands path choice earlier later x (ap (drop 1) e))
  where
    head : p ≡ b
    head = ap (λ l. get_or l 0 p) e

    by : Stands path choice earlier x → Stands (p ∷ path) choice (b ∷ earlier) x
    by (inl s) = inl (ap (λ h. h ∷ path) head ∙ ap (λ t. b ∷ t) s.0, s.1)
    by (inr s) = inr (s.0, ap (λ h. h ∷ path) head ∙ ap (λ t. b ∷ t) s.1)

pub no_choice : (job : Job) → IsPath job []
no_choice job [] later contact dir e = absurd (omega (arith, ap length e))
no_choice job (b ∷ earlier) later contact dir e = absurd (omega (arith, ap length e))

pub path_also : (job : Job) (path : List Choice) (choice : Choice) → IsPath job path → MayFollow job path choice → IsPath job (also path choice)
path_also job path choice is m earlier later contact dir e = by (stands path choice earlier later (Choices.Side contact dir) e)
  where
    by : Stands path choice earlier (Choices.Side contact dir) → MayFollow job earlier (Choices.Side contact dir)
    by (inl s) = subst (λ p. MayFollow job p (Choices.Side contact dir)) s.0 (subst (MayFollow job path) s.1 m)
    by (inr s) = is earlier s.0 contact dir s.1

each_side : (job : Job) (path : List Choice) (contact : Contact) → IsPath job path → IsContact job contact → IsReady job path contact
    → (dirs : List Dir) → ((dir : Dir) → In dir dirs → Side (points_of job contact) dir) → All (IsPath job) (map (λ dir. also path (Choices.Side contact dir)) dirs)
each_side job path contact p is before [] sides = All-nil (IsPath job)
each_side job path contact p is before (d ∷ dirs) sides =
    All-cons (IsPath job) (also path (Choices.Side contact d)) (map (λ dir. also path (Choices.Side contact dir)) dirs)
    (path_also job path (Choices.Side contact d) p (is, sides d (inl refl), before))
    (each_side job path contact p is before dirs (λ dir i. sides dir (inr i)))

pub children_are_paths : (job : Job) (e : ℕ) (path : List Choice) (node : Node) (paths : List (List Choice))
    → IsPath job path → IsSoundNode job e path node → AreChildren job path node paths → All (IsPath job) paths
children_are_paths job e path (Nodes.Order i j) paths p s k =
    subst (All (IsPath job)) (sym k)
    (All-cons (IsPath job) (also path (Choices.Before i j)) (also path (Choices.Before j i) ∷ []) (path_also job path (Choices.Before i j) p tt)
    (All-cons (IsPath job) (also path (Choices.Before j i)) [] (path_also job path (Choices.Before j i) p tt) (All-nil (IsPath job))))
children_are_paths job e path (Nodes.Side contact children) paths p s k =
    subst (All (IsPath job)) (sym k.3) (each_side job path contact p s.0 s.1 k.0 (λ dir i. (k.1.each dir).0 (Contains-from_in k.0 dir i)))
children_are_paths job e path (Nodes.Bound mults) paths p s k = subst (All (IsPath job)) (sym k) (All-nil (IsPath job))
children_are_paths job e path (Nodes.Cycle objects) paths p s k = subst (All (IsPath job)) (sym k) (All-nil (IsPath job))
children_are_paths job e path Nodes.Pending paths p s k = subst (All (IsPath job)) (sym k) (All-nil (IsPath job))

-- whatever is read below paths of the job stands at paths of the job, where it is sound
pub reads_paths : (job : Job) (e : ℕ) (Good : List Choice → Node → Type 0) → ((path : List Choice) (node : Node) → Good path node → IsSoundNode job e path node)
    → (nodes : List Node) (todo left : List (List Choice)) → All (IsPath job) todo → Reads job Good todo nodes left → Reads job (λ path node. Good path node × IsPath job path) todo nodes left
reads_paths job e Good sound [] todo left all r = r
reads_paths job e Good sound (node ∷ nodes) [] left all r = absurd r
reads_paths job e Good sound (node ∷ nodes) (path ∷ todo) left all r =
    let here = All-head (IsPath job) path todo all in
    let below = children_are_paths job e path node r.1 here (sound path node r.0) r.2 in
    ((r.0, here), r.1, r.2, reads_paths job e Good sound nodes (r.1 ++ todo) left (All-append (IsPath job) r.1 todo below (All-tail (IsPath job) path todo all)) r.3)

pub tree_of_paths : (job : Job) (e : ℕ) (nodes : List Node) → Refutes job e [] nodes → IsTree job (λ path node. (IsSoundNode job e path node × IsClosed node) × IsPath job path) [] nodes
tree_of_paths job e nodes r = reads_paths job e (λ path node. IsSoundNode job e path node × IsClosed node) (λ path node g. g.0) nodes ([] ∷ []) [] (All-cons (IsPath job) [] [] (no_choice job) (All-nil (IsPath job))) r
