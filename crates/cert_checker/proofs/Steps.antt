-- Steps of the walk over the nodes.
use Rattle.std.proofs.Common.{◌≡◌, ℕ, zero, suc, ◌+◌, ◌<◌, List, [], ◌∷◌, ◌++◌, length, map, take, drop, get_or, refl, sym, ap, subst, ◌∙◌, arith, length-append, append-nil}
use Rattle.std.proofs.lemmas.List.{take_more, take_all, take-append-drop, drop_more, length-map, length-take-le}
use Rattle.std.proofs.Math.Nat.{lt_of_not-le}
use Rattle.model_laws.specs.Laws.Reading.{reads_then}
use Rattle.seq_model.specs.Trees.{arity, also, AreChildren, Reads, Refutes}
use Rattle.seq_model.specs.declared.job.Job.{Job}
use Rattle.seq_model.specs.declared.tree.Choice.{Choice}
use Rattle.seq_model.specs.declared.tree.Choice.TheVariants as Choices
use Rattle.seq_model.specs.declared.tree.Contact.{Contact}
use Rattle.seq_model.specs.declared.tree.Dir.{Dir}
use Rattle.seq_model.specs.declared.tree.Node.{Node}
use Rattle.seq_model.specs.declared.tree.Node.TheVariants as Nodes
use Rattle.cert_checker.specs.Rules.{Breaks, Good, IsFirstBroken}
use Rattle.cert_checker.specs.Waits.{also_each}
use Rattle.cert_checker.specs.Kept.{AreChoices}
use Rattle.cert_checker.specs.Wholes.{AreWhole}
use Rattle.cert_checker.proofs.Counts.{Counts, counts_of_fills}
use Rattle.cert_checker.specs.declared.rules.Rule.{Rule}

-- ---- children by choices
through : (path : List Choice) (contact : Contact) (dirs : List Dir) → map (λ dir. also path (Choices.Side contact dir)) dirs ≡ also_each path (map (Choices.Side contact) dirs)
through path contact [] = refl
through path contact (d ∷ dirs) = ap (λ t. also path (Choices.Side contact d) ∷ t) (through path contact dirs)

pub children_by_choices : (job : Job) (path : List Choice) (node : Node) (choices : List Choice) → AreChoices job node choices → AreChildren job path node (also_each path choices)
children_by_choices job path (Nodes.Order i j) choices h = ap (also_each path) h
children_by_choices job path (Nodes.Side contact children) choices h = (h.0, h.1, h.2, ap (also_each path) h.3 ∙ sym (through path contact h.0))
children_by_choices job path (Nodes.Bound mults) choices h = ap (also_each path) h
children_by_choices job path (Nodes.Cycle objects) choices h = ap (also_each path) h
children_by_choices job path Nodes.Pending choices h = ap (also_each path) h

-- ---- whole by counts
many_children : (job : Job) (path : List Choice) (node : Node) (paths : List (List Choice)) → AreChildren job path node paths → arity node ≡ length paths
many_children job path (Nodes.Order i j) paths k = omega (arith, ap length k)
many_children job path (Nodes.Side contact children) paths k = k.2 ∙ sym (length-map k.0 _) ∙ ap length (sym k.3)
many_children job path (Nodes.Bound mults) paths k = omega (arith, ap length k)
many_children job path (Nodes.Cycle objects) paths k = omega (arith, ap length k)
many_children job path Nodes.Pending paths k = omega (arith, ap length k)

pub reads_counts : (job : Job) (P : List Choice → Node → Type 0) (nodes : List Node) (todo left : List (List Choice)) → Reads job P todo nodes left → Counts (length todo) nodes (length left)
reads_counts job P [] todo left r = ap length r
reads_counts job P (n ∷ nodes) [] left r = absurd r
reads_counts job P (n ∷ nodes) (path ∷ todo) left r =
    let many : length (r.1 ++ todo) ≡ arity n + length todo = length-append r.1 todo ∙ ap (λ k. k + length todo) (sym (many_children job path n r.1 r.2)) in
    subst (λ k. Counts k nodes (length left)) many (reads_counts job P nodes (r.1 ++ todo) left r.3)

-- what is read of the front decides what is to come there
counts_rest : (front back : List Node) (todo mid left : ℕ) → Counts todo front mid → Counts todo (front ++ back) left → Counts mid back left
counts_rest [] back todo mid left a b = subst (λ k. Counts k back left) a b
counts_rest (n ∷ front) back zero mid left a b = absurd a
counts_rest (n ∷ front) back (suc todo) mid left a b = counts_rest front back (arity n + todo) mid left a b

none_follow : (back : List Node) → Counts 0 back 0 → back ≡ []
none_follow [] f = refl
none_follow (n ∷ back) f = absurd f

-- nothing is to come any more: the nodes so far are all of them
pub all_read : (job : Job) (e : ℕ) (nodes : List Node) (k : ℕ) → AreWhole nodes → Reads job (Good job e) ([] ∷ []) (take k nodes) [] → Refutes job e [] nodes
all_read job e nodes k whole r =
    let rest : drop k nodes ≡ [] = none_follow (drop k nodes) (counts_rest (take k nodes) (drop k nodes) 1 0 0 (reads_counts job (Good job e) (take k nodes) ([] ∷ []) [] r) (subst (λ t. Counts 1 t 0) (sym (take-append-drop k nodes)) (counts_of_fills whole.0 (0 ∷ []) nodes [] whole.1))) in
    let all : take k nodes ≡ nodes = sym (append-nil (take k nodes)) ∙ ap (λ t. take k nodes ++ t) (sym rest) ∙ take-append-drop k nodes in
    subst (λ t. Reads job (Good job e) ([] ∷ []) t []) all r

-- while something is to come, there is a node more
pub more_follow : (job : Job) (e : ℕ) (nodes : List Node) (k : ℕ) (path : List Choice) (todo : List (List Choice)) → AreWhole nodes → Reads job (Good job e) ([] ∷ []) (take k nodes) (path ∷ todo) → k < length nodes
more_follow job e nodes k path todo whole r = lt_of_not-le (λ h.
    omega (arith, counts_rest nodes [] 1 (suc (length todo)) 0 (subst (λ t. Counts 1 t (suc (length todo))) (take_all k nodes h) (reads_counts job (Good job e) (take k nodes) ([] ∷ []) (path ∷ todo) r)) (subst (λ t. Counts 1 t 0) (sym (append-nil nodes)) (counts_of_fills whole.0 (0 ∷ []) nodes [] whole.1))))

-- ---- one node more
pub one_more : (job : Job) (e : ℕ) (nodes : List Node) (k : ℕ) (d : Node) (path : List Choice) (todo : List (List Choice)) (choices : List Choice) → k < length nodes
    → Reads job (Good job e) ([] ∷ []) (take k nodes) (path ∷ todo) → Good job e path (get_or nodes k d) → AreChoices job (get_or nodes k d) choices
    → Reads job (Good job e) ([] ∷ []) (take (k + 1) nodes) (also_each path choices ++ todo)
one_more job e nodes k d path todo choices within r good are =
    subst (λ t. Reads job (Good job e) ([] ∷ []) t (also_each path choices ++ todo)) (sym (take_more nodes k d within))
    (reads_then job (Good job e) (take k nodes) (get_or nodes k d ∷ []) ([] ∷ []) (path ∷ todo) (also_each path choices ++ todo) r
    (good, also_each path choices, children_by_choices job path (get_or nodes k d) choices are, refl))

pub first_broken : (job : Job) (e : ℕ) (nodes : List Node) (k : ℕ) (d : Node) (path : List Choice) (todo : List (List Choice)) (rule : Rule) → k < length nodes
    → Reads job (Good job e) ([] ∷ []) (take k nodes) (path ∷ todo) → Breaks job e path (get_or nodes k d) rule → IsFirstBroken job e nodes k rule
first_broken job e nodes k d path todo rule within r b = record {
  front = take k nodes;
  node = get_or nodes k d;
  back = drop (k + 1) nodes;
  are = sym (take-append-drop k nodes) ∙ ap (λ t. take k nodes ++ t) (drop_more nodes k d within);
  many = length-take-le k nodes (omega arith);
  path = path;
  later = todo;
  before = r;
  breaks = b;
}
