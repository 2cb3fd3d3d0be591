-- No tree that refutes has a first broken node, and there is one first broken node at most.
use Rattle.std.proofs.Common.{◌≡◌, ℕ, suc, List, [], ◌∷◌, ◌++◌, inl, inr, length, refl, sym, ap, subst, ◌∙◌, ◌↔◌}
use Rattle.seq_model.specs.Trees.{AreChildren, Reads, Refutes}
use Rattle.seq_model.specs.declared.job.Job.{Job}
use Rattle.seq_model.specs.declared.tree.Choice.{Choice}
use Rattle.seq_model.specs.declared.tree.Choice.TheVariants as Choices
use Rattle.seq_model.specs.declared.tree.Node.{Node}
use Rattle.seq_model.specs.declared.tree.Node.TheVariants as Nodes
use Rattle.model_laws.specs.Laws.OnePath.{children_same}
use Rattle.cert_checker.specs.Judged.{IsChecked}
use Rattle.cert_checker.specs.declared.rules.Checked.{Checked}
use Rattle.cert_checker.specs.declared.rules.Checked.TheVariants as checked
use Rattle.cert_checker.specs.Rules.{unless, Breaks, Good, IsFirstBroken}
use Rattle.cert_checker.specs.declared.rules.Rule.{Rule}
use Rattle.cert_checker.specs.declared.rules.Rule.TheVariants as rules

-- what holds is no broken rule
unless_later : (P later : Type 0) (r rule : Rule) → unless P r rule later → P → later
unless_later P later r rule (inl b) p = absurd (b.1 p)
unless_later P later r rule (inr l) p = l.1

pub sound_breaks_none : (job : Job) (e : ℕ) (path : List Choice) (node : Node) (paths : List (List Choice)) (rule : Rule) → Good job e path node → AreChildren job path node paths → Breaks job e path node rule → ⊥
sound_breaks_none job e path (Nodes.Order i j) paths rule g k b = unless_later _ _ _ rule b g.0
sound_breaks_none job e path (Nodes.Side contact children) paths rule g k b =
    unless_later _ _ _ rule (unless_later _ _ _ rule (unless_later _ _ _ rule b g.0.0) g.0.1) (k.0, k.1, k.2)
sound_breaks_none job e path (Nodes.Bound mults) paths rule g k b =
    unless_later _ _ _ rule (unless_later _ _ _ rule (unless_later _ _ _ rule b g.0.each) g.0.coefficients) g.0.constant
sound_breaks_none job e path (Nodes.Cycle objects) paths rule g k b = unless_later _ _ _ rule b g.0
sound_breaks_none job e path Nodes.Pending paths rule g k b = absurd g.1

-- the nodes before a broken one are read in one way, and then it is at its path that it breaks the rule
broken_behind : (job : Job) (e : ℕ) (front : List Node) (node : Node) (back : List Node) (todo : List (List Choice)) (path : List Choice) (later left : List (List Choice)) (rule : Rule)
    → Reads job (Good job e) todo front (path ∷ later) → Breaks job e path node rule → Reads job (Good job e) todo (front ++ node ∷ back) left → ⊥
broken_behind job e [] node back [] path later left rule r b s = absurd s
broken_behind job e [] node back (here ∷ todo) path later left rule r b s =
    let same : here ≡ path = ap (λ (t : List (List Choice)). first t) r in
    sound_breaks_none job e here node s.1 rule s.0 s.2 (subst (λ p. Breaks job e p node rule) (sym same) b)
  where
    first : List (List Choice) → List Choice
    first [] = []
    first (p ∷ ps) = p
broken_behind job e (n ∷ front) node back [] path later left rule r b s = absurd r
broken_behind job e (n ∷ front) node back (here ∷ todo) path later left rule r b s =
    broken_behind job e front node back (r.1 ++ todo) path later left rule r.3 b
    (subst (λ t. Reads job (Good job e) (t ++ todo) (front ++ node ∷ back) left) (children_same job here n s.1 r.1 s.2 r.2) s.3)

pub refutes_breaks_none : (job : Job) (e : ℕ) (nodes : List Node) (k : ℕ) (rule : Rule) → Refutes job e [] nodes → IsFirstBroken job e nodes k rule → ⊥
refutes_breaks_none job e nodes k rule r f =
    broken_behind job e f.front f.node f.back ([] ∷ []) f.path f.later [] rule f.before f.breaks (subst (λ t. Reads job (Good job e) ([] ∷ []) t []) f.are r)

-- a check passes exactly where the tree refutes, and fails exactly at the first broken node with its first broken rule
pub passes_exactly : (job : Job) (e : ℕ) (nodes : List Node) (c : Checked) → IsChecked job e nodes c → (c ≡ checked.Passes) ↔ Refutes job e [] nodes
passes_exactly job e nodes checked.Passes is = (λ _. is, λ _. refl)
passes_exactly job e nodes (checked.Fails k rule) is = (λ h. absurd cc, λ r. absurd (refutes_breaks_none job e nodes k rule r is))

-- one first broken rule of a node
same_rule : (P A B : Type 0) (r a b : Rule) → (A → B → a ≡ b) → unless P r a A → unless P r b B → a ≡ b
same_rule P A B r a b later (inl x) (inl y) = x.0 ∙ sym y.0
same_rule P A B r a b later (inl x) (inr y) = absurd (x.1 y.0)
same_rule P A B r a b later (inr x) (inl y) = absurd (y.1 x.0)
same_rule P A B r a b later (inr x) (inr y) = later x.1 y.1

over : (a b : Rule) → ⊥ → ⊥ → a ≡ b
over a b x y = absurd x

pub one_rule : (job : Job) (e : ℕ) (path : List Choice) (node : Node) (a b : Rule) → Breaks job e path node a → Breaks job e path node b → a ≡ b
one_rule job e path (Nodes.Order i j) a b = same_rule _ _ _ _ a b (over a b)
one_rule job e path (Nodes.Side contact children) a b = same_rule _ _ _ _ a b (same_rule _ _ _ _ a b (same_rule _ _ _ _ a b (over a b)))
one_rule job e path (Nodes.Bound mults) a b = same_rule _ _ _ _ a b (same_rule _ _ _ _ a b (same_rule _ _ _ _ a b (over a b)))
one_rule job e path (Nodes.Cycle objects) a b = same_rule _ _ _ _ a b (over a b)
one_rule job e path Nodes.Pending a b = same_rule _ _ _ _ a b (over a b)

abbrev first_path : List (List Choice) → List Choice
first_path [] = []
first_path (p ∷ ps) = p

abbrev first_node : List Node → Node
first_node [] = Nodes.Pending
first_node (n ∷ ns) = n

abbrev rest_of : List Node → List Node
rest_of [] = []
rest_of (n ∷ ns) = ns

one_place : (job : Job) (e : ℕ) (front more back rest : List Node) (m n : Node) (todo : List (List Choice)) (p q : List Choice) (later left : List (List Choice)) (a b : Rule) → front ++ m ∷ back ≡ more ++ n ∷ rest
    → Reads job (Good job e) todo front (p ∷ later) → Breaks job e p m a → Reads job (Good job e) todo more (q ∷ left) → Breaks job e q n b → (length front ≡ length more) × (a ≡ b)
one_place job e [] [] back rest m n todo p q later left a b same r x s y =
    (refl, one_rule job e p m a b x (subst (λ w. Breaks job e p w b) (sym (ap first_node same)) (subst (λ w. Breaks job e w n b) (sym (ap first_path (sym r ∙ s))) y)))
one_place job e [] (k ∷ more) back rest m n [] p q later left a b same r x s y = absurd s
one_place job e [] (k ∷ more) back rest m n (here ∷ todo) p q later left a b same r x s y =
    absurd (sound_breaks_none job e here k s.1 a s.0 s.2 (subst (λ w. Breaks job e here w a) (ap first_node same) (subst (λ w. Breaks job e w m a) (sym (ap first_path r)) x)))
one_place job e (k ∷ front) [] back rest m n [] p q later left a b same r x s y = absurd r
one_place job e (k ∷ front) [] back rest m n (here ∷ todo) p q later left a b same r x s y =
    absurd (sound_breaks_none job e here k r.1 b r.0 r.2 (subst (λ w. Breaks job e here w b) (sym (ap first_node same)) (subst (λ w. Breaks job e w n b) (sym (ap first_path s)) y)))
one_place job e (k ∷ front) (l ∷ more) back rest m n [] p q later left a b same r x s y = absurd r
one_place job e (k ∷ front) (l ∷ more) back rest m n (here ∷ todo) p q later left a b same r x s y =
    let children = children_same job here k s.1 r.1 (subst (λ w. AreChildren job here w s.1) (sym (ap first_node same)) s.2) r.2 in
    let i = one_place job e front more back rest m n (r.1 ++ todo) p q later left a b (ap rest_of same) r.3 x (subst (λ t. Reads job (Good job e) (t ++ todo) more (q ∷ left)) children s.3) y in
    (ap suc i.0, i.1)

pub one_first_broken : (job : Job) (e : ℕ) (nodes : List Node) (j k : ℕ) (a b : Rule) → IsFirstBroken job e nodes j a → IsFirstBroken job e nodes k b → (j ≡ k) × (a ≡ b)
one_first_broken job e nodes j k a b f g =
    let i = one_place job e f.front g.front f.back g.back f.node g.node ([] ∷ []) f.path g.path f.later g.later a b (sym f.are ∙ g.are) f.before f.breaks g.before g.breaks in
    (sym f.many ∙ i.0 ∙ g.many, i.1)

pub fails_exactly : (job : Job) (e : ℕ) (nodes : List Node) (c : Checked) → IsChecked job e nodes c → (k : ℕ) (rule : Rule) → (c ≡ checked.Fails k rule) ↔ IsFirstBroken job e nodes k rule
fails_exactly job e nodes checked.Passes is k rule = (λ h. absurd cc, λ f. absurd (refutes_breaks_none job e nodes k rule is f))
fails_exactly job e nodes (checked.Fails j a) is k rule = (λ h. subst (IsChecked job e nodes) h is, λ f. (let o = one_first_broken job e nodes j k a rule is f in ap (λ n. checked.Fails n a) o.0 ∙ ap (checked.Fails k) o.1))

-- the same of a slice of the nodes
pub checked_as : (job : Job) (e f : ℕ) (nodes slice : List Node) (c : Checked) → e ≡ f → slice ≡ nodes → IsChecked job e slice c → IsChecked job f nodes c
checked_as job e f nodes slice c same is h = subst (λ n. IsChecked job f n c) is (subst (λ x. IsChecked job x slice c) same h)
