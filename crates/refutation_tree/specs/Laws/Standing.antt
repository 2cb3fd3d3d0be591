-- Where a node stands in the whole, and which nodes the whole has.
use Rattle.std.proofs.Common.{◌≡◌, ℕ, zero, suc, ◌<◌, List, [], ◌∷◌, ◌++◌, length, map, take, get_or, refl, sym, ap, subst, ◌∙◌, arith, eqb}
use Rattle.std.proofs.lemmas.List.{take-map, get_or-map, length-map}
use Rattle.std.proofs.lemmas.List.Elements.{All-take}
use Rattle.std.specs.List.{position_or_len}
use Rattle.refutation_tree.specs.Laws.Numbering.{place_is}
use Rattle.model_laws.specs.Laws.Reading.{reads_weaker}
use Rattle.refutation_tree.specs.Laws.Goodness.{path_at, AreGood, visits_reads}
use Rattle.refutation_tree.specs.Grown.{made_at, node_of, children_of, Visits, IsVisitOrder, IsPreorder, IsNumber}
use Rattle.refutation_tree.specs.declared.growing.Made.{Made}
use Rattle.seq_model.specs.Splits.{StandsAt}
use Rattle.seq_model.specs.Trees.{Reads}
use Rattle.seq_model.specs.declared.job.Job.{Job}
use Rattle.seq_model.specs.declared.tree.Choice.{Choice}
use Rattle.seq_model.specs.declared.tree.Node.{Node}
use Rattle.seq_model.specs.declared.tree.Node.TheVariants as Nodes

-- the visits before the i-th one leave it as the next one
pub record Ahead (made : List Made) (todo order : List ℕ) (i : ℕ) : Type 0 where
  pub rest : List ℕ
  pub visits : Visits made todo (take i order) (get_or order i 0 ∷ rest)

pub visits_ahead : (made : List Made) (i : ℕ) (order todo left : List ℕ) → i < length order → Visits made todo order left → Ahead made todo order i
visits_ahead made i [] todo left h v = absurd (omega arith)
visits_ahead made i (k ∷ order) [] left h v = absurd v
visits_ahead made zero (k ∷ order) (next ∷ todo) left h v = record { rest = todo; visits = ap (λ x. x ∷ todo) v.0 }
visits_ahead made (suc i) (k ∷ order) (next ∷ todo) left h v =
    let r = visits_ahead made i order (children_of (made_at made k) ++ todo) left (omega arith) v.1 in
    record { rest = r.rest; visits = (v.0, r.visits) }

pub one_visit : (made : List Made) (a b todo : List ℕ) → Visits made todo a [] → Visits made todo b [] → a ≡ b
one_visit made [] [] todo v w = refl
one_visit made [] (j ∷ b) todo v w = absurd (subst (λ t. Visits made t (j ∷ b) []) v w)
one_visit made (k ∷ a) [] todo v w = absurd (subst (λ t. Visits made t (k ∷ a) []) w v)
one_visit made (k ∷ a) (j ∷ b) [] v w = absurd v
one_visit made (k ∷ a) (j ∷ b) (next ∷ todo) v w =
    let same : k ≡ j = sym v.0 ∙ w.0 in
    let rest = one_visit made a b (children_of (made_at made k) ++ todo) v.1 (subst (λ x. Visits made (children_of (made_at made x) ++ todo) b []) (sym same) w.1) in
    ap (λ x. x ∷ a) same ∙ ap (λ l. j ∷ l) rest

pub one_order : (made : List Made) (a b : List ℕ) → IsVisitOrder made a → IsVisitOrder made b → a ≡ b
one_order made a b x y = one_visit made a b (0 ∷ []) x.visits y.visits

-- node number i of the whole is the one that was made as number `at`, and stands at its path
pub stands_at : (job : Job) (Good : List Choice → Node → Type 0) (made : List Made) (paths : List (List Choice)) (nodes : List Node) (at i : ℕ)
    → AreGood job Good made paths → IsPreorder made nodes → IsNumber made at i → StandsAt job nodes i (path_at paths at)
stands_at job Good made paths nodes at i are whole number =
    let same = one_order made number.order whole.order number.is whole.is in
    let ahead = visits_ahead made i number.order (0 ∷ []) [] number.known number.is.visits in
    let reads = visits_reads job Good made paths are (take i number.order) (0 ∷ []) (get_or number.order i 0 ∷ ahead.rest) (All-take (λ (k : ℕ). k < length made) i number.order number.is.known) ahead.visits in
    let plain = reads_weaker job Good (λ p n. Unit {0}) (λ p n g. tt) (map (node_of made) (take i number.order)) (path_at paths 0 ∷ []) (path_at paths (get_or number.order i 0) ∷ map (path_at paths) ahead.rest) reads in
    let rooted = subst (λ p. Reads job (λ p n. Unit {0}) (p ∷ []) (map (node_of made) (take i number.order)) (path_at paths (get_or number.order i 0) ∷ map (path_at paths) ahead.rest)) are.root plain in
    let there = subst (λ k. Reads job (λ p n. Unit {0}) ([] ∷ []) (map (node_of made) (take i number.order)) (path_at paths k ∷ map (path_at paths) ahead.rest)) number.there rooted in (
      map (path_at paths) ahead.rest,
      subst (λ n. Reads job (λ p n. Unit {0}) ([] ∷ []) n (path_at paths at ∷ map (path_at paths) ahead.rest))
          (sym (take-map (node_of made) i number.order) ∙ ap (take i) (ap (map (node_of made)) same ∙ sym whole.nodes_are)) there,
    )

-- and is that node
pub number_is_node : (made : List Made) (nodes : List Node) (at i : ℕ) → IsPreorder made nodes → IsNumber made at i → get_or nodes i Nodes.Pending ≡ node_of made at
number_is_node made nodes at i whole number =
    ap (λ n. get_or n i Nodes.Pending) (whole.nodes_are ∙ ap (map (node_of made)) (sym (one_order made number.order whole.order number.is whole.is)))
    ∙ (get_or-map (node_of made) number.order i 0 Nodes.Pending number.known ∙ ap (node_of made) number.there)

pub number_below : (made : List Made) (nodes : List Node) (at i : ℕ) → IsPreorder made nodes → IsNumber made at i → i < length nodes
number_below made nodes at i whole number =
    omega (arith, number.known, ap length (one_order made number.order whole.order number.is whole.is), ap length whole.nodes_are, length-map whole.order (node_of made))

pub whole_length : (made : List Made) (nodes : List Node) → IsPreorder made nodes → length nodes ≡ length made
whole_length made nodes whole = ap length whole.nodes_are ∙ (length-map whole.order (node_of made) ∙ whole.is.many)

-- each node stands somewhere
pub number_there : (made : List Made) (nodes : List Node) (at : ℕ) → IsPreorder made nodes → at < length made → (i : ℕ) × IsNumber made at i
number_there made nodes at whole h = (position_or_len (λ x. eqb x at) whole.order, place_is made whole.order at whole.is h)
