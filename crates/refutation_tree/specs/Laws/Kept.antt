-- What a split and a leaf keep: of the list of all nodes, of the paths of the others, and of what holds of each node at its path.
--
--   whole_splits, whole_closes   in the place of the pending node stands the split with its pending children, or the leaf
--   reads_part                   two parts of a list that is read, one after the other
--   reads_split                  a list is read with a split in the place of a pending node, as it was read before
--   tree_splits                  so a tree stays one
--   stands_before, stands_behind   and the nodes before and behind the split stand at the paths where they stood
--   stands_below                 its children stand at theirs
--   whole_closed                 where no node is pending, each node of the list is closed
use Rattle.std.proofs.Common.{◌≡◌, ℕ, zero, suc, ◌+◌, ◌<◌, ◌≤◌, List, [], ◌∷◌, ◌++◌, length, take, drop, get_or, set, replicate, refl, sym, ap, subst, ◌∙◌, arith, add-one, All, map}
use Rattle.std.proofs.lemmas.List.Elements.{All-nil, All-cons, All-head, All-tail}
use Rattle.std.proofs.Math.Seq.{take-append_seam, take-append-add}
use Rattle.std.proofs.lemmas.List.{length-replicate, take-append-le}
use Rattle.model_laws.specs.Laws.OnePath.{one_left}
use Rattle.model_laws.specs.Laws.Reading.{reads_then}
use Rattle.refutation_tree.specs.Grown.{node_of, IsPreorder, HasGrown, with_split, with_leaf}
use Rattle.refutation_tree.specs.Laws.Surgery.{split_in, whole_after_split, whole_after_leaf}
use Rattle.refutation_tree.specs.declared.growing.Made.{Made}
use Rattle.seq_model.specs.Splits.{StandsAt}
use Rattle.seq_model.specs.Trees.{arity, AreChildren, IsClosed, Reads, IsTree}
use Rattle.seq_model.specs.declared.job.Job.{Job}
use Rattle.seq_model.specs.declared.tree.Choice.{Choice}
use Rattle.seq_model.specs.declared.tree.Node.{Node}
use Rattle.seq_model.specs.declared.tree.Node.TheVariants as Nodes

-- ---- the list of all nodes
behind : (front back : List Node) (node : Node) → drop (length front + 1) (front ++ node ∷ back) ≡ back
behind [] back node = refl
behind (x ∷ front) back node = ap (λ n. drop n (x ∷ (front ++ node ∷ back))) (next (length front)) ∙ behind front back node
  where
    next : (n : ℕ) → suc n + 1 ≡ suc (n + 1)
    next n = omega arith

there : (front back : List Node) (node leaf : Node) → set (front ++ node ∷ back) (length front) leaf ≡ front ++ leaf ∷ back
there [] back node leaf = refl
there (x ∷ front) back node leaf = ap (λ l. x ∷ l) (there front back node leaf)

split_there : (front back : List Node) (node : Node) → split_in (length front) node (front ++ Nodes.Pending ∷ back) ≡ front ++ node ∷ (replicate (arity node) Nodes.Pending ++ back)
split_there front back node =
    ap (λ l. l ++ node ∷ (replicate (arity node) Nodes.Pending ++ drop (length front + 1) (front ++ Nodes.Pending ∷ back))) (take-append_seam front (Nodes.Pending ∷ back))
    ∙ ap (λ l. front ++ node ∷ (replicate (arity node) Nodes.Pending ++ l)) (behind front back Nodes.Pending)

pub whole_splits : (made : List Made) (at : ℕ) (node : Node) → at < length made → node_of made at ≡ Nodes.Pending
    → HasGrown made (with_split made at node) at node (replicate (arity node) Nodes.Pending)
whole_splits made at node h p = record {
  kept = λ front back whole number.
      subst (IsPreorder (with_split made at node)) (split_there front back node) (whole_after_split made at (length front) node (front ++ Nodes.Pending ∷ back) h p whole number);
}

pub whole_closes : (made : List Made) (at : ℕ) (leaf : Node) → at < length made → node_of made at ≡ Nodes.Pending → arity leaf ≡ 0
    → HasGrown made (with_leaf made at leaf) at leaf []
whole_closes made at leaf h p none = record {
  kept = λ front back whole number.
      subst (IsPreorder (with_leaf made at leaf)) (there front back Nodes.Pending leaf) (whole_after_leaf made at (length front) leaf (front ++ Nodes.Pending ∷ back) h p none whole number);
}

-- ---- nodes at their paths
pub record Parted (job : Job) (Good : List Choice → Node → Type 0) (todo : List (List Choice)) (front back : List Node) (left : List (List Choice)) : Type 0 where
  pub mid : List (List Choice)
  pub first : Reads job Good todo front mid
  pub second : Reads job Good mid back left

pub reads_part : (job : Job) (Good : List Choice → Node → Type 0) (front back : List Node) (todo left : List (List Choice)) → Reads job Good todo (front ++ back) left → Parted job Good todo front back left
reads_part job Good [] back todo left r = record { mid = todo; first = refl; second = r }
reads_part job Good (node ∷ front) back [] left r = absurd r
reads_part job Good (node ∷ front) back (path ∷ todo) left r =
    let p = reads_part job Good front back (r.1 ++ todo) left r.3 in
    record { mid = p.mid; first = (r.0, r.1, r.2, p.first); second = p.second }

-- pending nodes, one for each path, and then what is read behind them
reads_pending : (job : Job) (Good : List Choice → Node → Type 0) → ((path : List Choice) → Good path Nodes.Pending)
    → (paths todo left : List (List Choice)) (c : ℕ) (back : List Node) → length paths ≡ c → Reads job Good todo back left → Reads job Good (paths ++ todo) (replicate c Nodes.Pending ++ back) left
reads_pending job Good waits [] todo left zero back e r = r
reads_pending job Good waits [] todo left (suc c) back e r = absurd (omega (arith, e))
reads_pending job Good waits (path ∷ paths) todo left zero back e r = absurd (omega (arith, e))
reads_pending job Good waits (path ∷ paths) todo left (suc c) back e r = (waits path, [], refl, reads_pending job Good waits paths todo left c back (omega (arith, e)) r)

pub reads_split : (job : Job) (Good : List Choice → Node → Type 0) → ((path : List Choice) → Good path Nodes.Pending)
    → (front back : List Node) (node : Node) (path : List Choice) (paths todo rest left : List (List Choice))
    → Reads job Good todo front (path ∷ rest) → Good path node → AreChildren job path node paths → length paths ≡ arity node → Reads job Good rest back left
    → Reads job Good todo (front ++ node ∷ (replicate (arity node) Nodes.Pending ++ back)) left
reads_split job Good waits front back node path paths todo rest left r good children many s =
    reads_then job Good front (node ∷ (replicate (arity node) Nodes.Pending ++ back)) todo (path ∷ rest) left r
    (good, paths, children, reads_pending job Good waits paths rest left (arity node) back many s)

-- what is read before a node, and behind a pending one
abbrev Any : List Choice → Node → Type 0
Any at node = Unit {0}

reads_front : (job : Job) (front back : List Node) (path : List Choice) (s : StandsAt job (front ++ back) (length front) path) → Reads job Any ([] ∷ []) front (path ∷ s.0)
reads_front job front back path s = subst (λ n. Reads job Any ([] ∷ []) n (path ∷ s.0)) (take-append_seam front back) s.1

below : (job : Job) (Good : List Choice → Node → Type 0) (back : List Node) (path : List Choice) (rest left : List (List Choice)) → Reads job Good (path ∷ rest) (Nodes.Pending ∷ back) left → Reads job Good rest back left
below job Good back path rest left r = subst (λ ps. Reads job Good (ps ++ rest) back left) r.2 r.3

pub tree_splits : (job : Job) (Good : List Choice → Node → Type 0) → ((path : List Choice) → Good path Nodes.Pending)
    → (front back : List Node) (node : Node) (path : List Choice) (paths : List (List Choice)) → IsTree job Good [] (front ++ Nodes.Pending ∷ back)
    → StandsAt job (front ++ Nodes.Pending ∷ back) (length front) path → Good path node → AreChildren job path node paths → length paths ≡ arity node
    → IsTree job Good [] (front ++ node ∷ (replicate (arity node) Nodes.Pending ++ back))
tree_splits job Good waits front back node path paths tree stands good children many =
    let parts = reads_part job Good front (Nodes.Pending ∷ back) ([] ∷ []) [] tree in
    let mid : parts.mid ≡ path ∷ stands.0 = one_left job Good Any front ([] ∷ []) parts.mid (path ∷ stands.0) parts.first (reads_front job front (Nodes.Pending ∷ back) path stands) in
    let rest : Reads job Good (path ∷ stands.0) (Nodes.Pending ∷ back) [] = subst (λ t. Reads job Good t (Nodes.Pending ∷ back) []) mid parts.second in
    reads_split job Good waits front back node path paths ([] ∷ []) stands.0 [] (subst (Reads job Good ([] ∷ []) front) mid parts.first) good children many
    (below job Good back path stands.0 [] rest)

take_one : (k : ℕ) (node : Node) (nodes : List Node) → take (k + 1) (node ∷ nodes) ≡ node ∷ take k nodes
take_one k node nodes = ap (λ n. take n (node ∷ nodes)) (add-one k)

take_behind : (front back : List Node) (node : Node) (k : ℕ) → take (length front + (k + 1)) (front ++ node ∷ back) ≡ front ++ node ∷ take k back
take_behind front back node k = take-append-add front (node ∷ back) (k + 1) ∙ ap (λ l. front ++ l) (take_one k node back)

take_pending : (c k : ℕ) (back : List Node) → take (c + k) (replicate c Nodes.Pending ++ back) ≡ replicate c Nodes.Pending ++ take k back
take_pending c k back =
    ap (λ n. take (n + k) (replicate c Nodes.Pending ++ back)) (sym (length-replicate c Nodes.Pending)) ∙ take-append-add (replicate c Nodes.Pending) back k

pub stands_before : (job : Job) (front back more : List Node) (k : ℕ) (path : List Choice) → k ≤ length front → StandsAt job (front ++ back) k path → StandsAt job (front ++ more) k path
stands_before job front back more k path h s =
    (s.0, subst (λ n. Reads job Any ([] ∷ []) n (path ∷ s.0)) (take-append-le k front back h ∙ sym (take-append-le k front more h)) s.1)

pub stands_behind : (job : Job) (front back : List Node) (node : Node) (at path : List Choice) (paths : List (List Choice)) (k : ℕ)
    → StandsAt job (front ++ Nodes.Pending ∷ back) (length front) at → AreChildren job at node paths → length paths ≡ arity node
    → StandsAt job (front ++ Nodes.Pending ∷ back) (length front + (k + 1)) path
    → StandsAt job (front ++ node ∷ (replicate (arity node) Nodes.Pending ++ back)) (length front + (arity node + k + 1)) path
stands_behind job front back node at path paths k a children many s =
    let read = subst (λ n. Reads job Any ([] ∷ []) n (path ∷ s.0)) (take_behind front back Nodes.Pending k) s.1 in
    let parts = reads_part job Any front (Nodes.Pending ∷ take k back) ([] ∷ []) (path ∷ s.0) read in
    let mid : parts.mid ≡ at ∷ a.0 = one_left job Any Any front ([] ∷ []) parts.mid (at ∷ a.0) parts.first (reads_front job front (Nodes.Pending ∷ back) at a) in
    let rest : Reads job Any (at ∷ a.0) (Nodes.Pending ∷ take k back) (path ∷ s.0) = subst (λ t. Reads job Any t (Nodes.Pending ∷ take k back) (path ∷ s.0)) mid parts.second in
    let split = reads_split job Any (λ p. tt) front (take k back) node at paths ([] ∷ []) a.0 (path ∷ s.0) (reads_front job front (Nodes.Pending ∷ back) at a) tt children many
    (below job Any (take k back) at a.0 (path ∷ s.0) rest) in (
      s.0,
      subst (λ n. Reads job Any ([] ∷ []) n (path ∷ s.0))
          (sym (take_behind front (replicate (arity node) Nodes.Pending ++ back) node (arity node + k) ∙ ap (λ l. front ++ node ∷ l) (take_pending (arity node) k back))) split,
    )

-- the first of some pending nodes leave the path of the next one
first_pending : (job : Job) (paths todo : List (List Choice)) (c q : ℕ) (back : List Node) → length paths ≡ c → q < c
    → Reads job Any (paths ++ todo) (take q (replicate c Nodes.Pending ++ back)) (get_or paths q [] ∷ (drop (q + 1) paths ++ todo))
first_pending job [] todo c q back e h = absurd (omega (arith, e, h))
first_pending job (path ∷ paths) todo zero q back e h = absurd (omega (arith, h))
first_pending job (path ∷ paths) todo (suc c) zero back e h = refl
first_pending job (path ∷ paths) todo (suc c) (suc q) back e h = (
  tt,
  [],
  refl,
  subst (λ n. Reads job Any (paths ++ todo) (take q (replicate c Nodes.Pending ++ back)) (get_or paths q [] ∷ (drop n (path ∷ paths) ++ todo))) (next q)
      (first_pending job paths todo c q back (omega (arith, e)) (omega (arith, h))),
)
  where
    next : (n : ℕ) → suc (n + 1) ≡ suc n + 1
    next n = omega arith

pub stands_below : (job : Job) (front back : List Node) (node : Node) (at : List Choice) (paths : List (List Choice)) (q : ℕ)
    → StandsAt job (front ++ Nodes.Pending ∷ back) (length front) at → AreChildren job at node paths → length paths ≡ arity node → q < arity node
    → StandsAt job (front ++ node ∷ (replicate (arity node) Nodes.Pending ++ back)) (length front + (q + 1)) (get_or paths q [])
stands_below job front back node at paths q a children many h =
    let rest = first_pending job paths a.0 (arity node) q back many h in
    let read : Reads job Any ([] ∷ []) (front ++ node ∷ take q (replicate (arity node) Nodes.Pending ++ back)) (get_or paths q [] ∷ (drop (q + 1) paths ++ a.0)) = reads_then job Any front (node ∷ take q (replicate (arity node) Nodes.Pending ++ back)) ([] ∷ []) (at ∷ a.0) (get_or paths q [] ∷ (drop (q + 1) paths ++ a.0))
    (reads_front job front (Nodes.Pending ∷ back) at a) (tt, paths, children, rest) in
    (drop (q + 1) paths ++ a.0, subst (λ n. Reads job Any ([] ∷ []) n (get_or paths q [] ∷ (drop (q + 1) paths ++ a.0))) (sym (take_behind front (replicate (arity node) Nodes.Pending ++ back) node q)) read)

-- ---- nothing pending
closed_of : (node : Node) → (node ≡ Nodes.Pending → ⊥) → IsClosed node
closed_of (Nodes.Order i j) h = tt
closed_of (Nodes.Side contact children) h = tt
closed_of (Nodes.Bound mults) h = tt
closed_of (Nodes.Cycle objects) h = tt
closed_of Nodes.Pending h = absurd (h refl)

closed_all : (made : List Made) (order : List ℕ) → All (λ k. k < length made) order → ((k : ℕ) → k < length made → node_of made k ≡ Nodes.Pending → ⊥) → All IsClosed (map (node_of made) order)
closed_all made [] known h = All-nil IsClosed
closed_all made (k ∷ order) known h =
    All-cons IsClosed (node_of made k) (map (node_of made) order) (closed_of (node_of made k) (h k (All-head (λ (x : ℕ). x < length made) k order known)))
    (closed_all made order (All-tail (λ (x : ℕ). x < length made) k order known) h)

pub whole_closed : (made : List Made) (nodes : List Node) → ((k : ℕ) → k < length made → node_of made k ≡ Nodes.Pending → ⊥) → IsPreorder made nodes → All IsClosed nodes
whole_closed made nodes h whole = subst (All IsClosed) (sym whole.nodes_are) (closed_all made whole.order whole.is.known h)
