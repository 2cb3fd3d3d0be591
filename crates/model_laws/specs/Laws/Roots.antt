-- When a tree refutes a path, by its root: the plain words for what is read from the left.
--
use Rattle.std.proofs.Common.{◌≡◌, ℕ, List, [], ◌∷◌, ◌++◌, Contains, length, map, refl, sym, ap, subst, ◌∙◌, ◌↔◌, append-nil, arith}
use Rattle.model_laws.specs.Laws.Reading.{joined, parted}
use Rattle.seq_model.specs.Systems.{system, Contradiction}
use Rattle.seq_model.specs.Trees.{also, IsCycle, IsSoundNode, IsClosed, Reads, Refutes}
use Rattle.seq_model.specs.declared.job.Job.{Job}
use Rattle.seq_model.specs.declared.tree.Choice.{Choice}
use Rattle.seq_model.specs.declared.tree.Choice.TheVariants as Choices
use Rattle.seq_model.specs.declared.tree.Contact.{Contact}
use Rattle.seq_model.specs.declared.tree.Dir.{Dir}
use Rattle.seq_model.specs.declared.tree.Mult.{Mult}
use Rattle.seq_model.specs.declared.tree.Node.{Node}
use Rattle.seq_model.specs.declared.tree.Node.TheVariants as Nodes
use Rattle.model_laws.specs.Roots.{OrderRefutes, RefuteEach, SideRefutes}

-- what refuting asks of each node
abbrev Good : Job → ℕ → List Choice → Node → Type 0
Good job e at node = IsSoundNode job e at node × IsClosed node

nothing_left : (job : Job) (e : ℕ) (nodes : List Node) → Reads job (Good job e) [] nodes [] → nodes ≡ []
nothing_left job e [] r = refl
nothing_left job e (node ∷ nodes) r = absurd r

pub refutes_bound : (job : Job) (e : ℕ) (path : List Choice) (mults : List Mult) (nodes : List Node)
    → Refutes job e path (Nodes.Bound mults ∷ nodes) ↔ ((nodes ≡ []) × Contradiction (system job e path) mults)
refutes_bound job e path mults nodes = (there, back)
  where
    there : Refutes job e path (Nodes.Bound mults ∷ nodes) → (nodes ≡ []) × Contradiction (system job e path) mults
    there r = (nothing_left job e nodes (subst (λ t. Reads job (Good job e) (t ++ []) nodes []) r.2 r.3), r.0.0)

    back : ((nodes ≡ []) × Contradiction (system job e path) mults) → Refutes job e path (Nodes.Bound mults ∷ nodes)
    back w = ((w.1, tt), [], refl, subst (λ t. Reads job (Good job e) [] t []) (sym w.0) refl)

pub refutes_cycle : (job : Job) (e : ℕ) (path : List Choice) (objects : List ℕ) (nodes : List Node)
    → Refutes job e path (Nodes.Cycle objects ∷ nodes) ↔ ((nodes ≡ []) × IsCycle (λ a b. Contains path (Choices.Before a b)) objects)
refutes_cycle job e path objects nodes = (there, back)
  where
    there : Refutes job e path (Nodes.Cycle objects ∷ nodes) → (nodes ≡ []) × IsCycle (λ a b. Contains path (Choices.Before a b)) objects
    there r = (nothing_left job e nodes (subst (λ t. Reads job (Good job e) (t ++ []) nodes []) r.2 r.3), r.0.0)

    back : ((nodes ≡ []) × IsCycle (λ a b. Contains path (Choices.Before a b)) objects) → Refutes job e path (Nodes.Cycle objects ∷ nodes)
    back w = ((w.1, tt), [], refl, subst (λ t. Reads job (Good job e) [] t []) (sym w.0) refl)

pub refutes_order : (job : Job) (e : ℕ) (path : List Choice) (i j : ℕ) (nodes : List Node) → Refutes job e path (Nodes.Order i j ∷ nodes) ↔ OrderRefutes job e path i j nodes
refutes_order job e path i j nodes = (there, back)
  where
    there : Refutes job e path (Nodes.Order i j ∷ nodes) → OrderRefutes job e path i j nodes
    there r =
        let s = parted job (Good job e) (also path (Choices.Before i j) ∷ []) (also path (Choices.Before j i) ∷ []) nodes (subst (λ t. Reads job (Good job e) (t ++ []) nodes []) r.2 r.3) in
        record { rising = r.0.0.0; known = r.0.0.1; first = s.front; second = s.back; nodes_are = s.are; first_refutes = s.first; second_refutes = s.second }

    back : OrderRefutes job e path i j nodes → Refutes job e path (Nodes.Order i j ∷ nodes)
    back w = (
      ((w.rising, w.known), tt),
      _,
      refl,
      subst (λ t. Reads job (Good job e) (also path (Choices.Before i j) ∷ also path (Choices.Before j i) ∷ []) t []) (sym w.nodes_are)
          (joined job (Good job e) (also path (Choices.Before i j) ∷ []) (also path (Choices.Before j i) ∷ []) w.first w.second w.first_refutes w.second_refutes),
    )

-- one tree for each side
abbrev on_sides : List Choice → Contact → List Dir → List (List Choice)
on_sides path contact dirs = map (λ dir. also path (Choices.Side contact dir)) dirs

each_there : (job : Job) (e : ℕ) (path : List Choice) (contact : Contact) (dirs : List Dir) (nodes : List Node) → Reads job (Good job e) (on_sides path contact dirs) nodes [] → RefuteEach job e path contact dirs nodes
each_there job e path contact [] nodes r = nothing_left job e nodes r
each_there job e path contact (dir ∷ dirs) nodes r =
    let s = parted job (Good job e) (also path (Choices.Side contact dir) ∷ []) (on_sides path contact dirs) nodes r in
    (s.front, s.back, s.are, s.first, each_there job e path contact dirs s.back s.second)

each_back : (job : Job) (e : ℕ) (path : List Choice) (contact : Contact) (dirs : List Dir) (nodes : List Node) → RefuteEach job e path contact dirs nodes → Reads job (Good job e) (on_sides path contact dirs) nodes []
each_back job e path contact [] nodes w = subst (λ t. Reads job (Good job e) [] t []) (sym w) refl
each_back job e path contact (dir ∷ dirs) nodes w =
    subst (λ t. Reads job (Good job e) (on_sides path contact (dir ∷ dirs)) t []) (sym w.2)
    (joined job (Good job e) (also path (Choices.Side contact dir) ∷ []) (on_sides path contact dirs) w.0 w.1 w.3 (each_back job e path contact dirs w.1 w.4))

pub refutes_side : (job : Job) (e : ℕ) (path : List Choice) (contact : Contact) (children : ℕ) (nodes : List Node)
    → Refutes job e path (Nodes.Side contact children ∷ nodes) ↔ SideRefutes job e path contact children nodes
refutes_side job e path contact children nodes = (there, back)
  where
    there : Refutes job e path (Nodes.Side contact children ∷ nodes) → SideRefutes job e path contact children nodes
    there r = record {
      exists = r.0.0.0;
      ready = r.0.0.1;
      dirs = r.2.0;
      sides = r.2.1;
      many = r.2.2;
      each = each_there job e path contact r.2.0 nodes (subst (λ t. Reads job (Good job e) t nodes []) (append-nil r.1 ∙ r.2.3) r.3);
    }

    back : SideRefutes job e path contact children nodes → Refutes job e path (Nodes.Side contact children ∷ nodes)
    back w = (
      ((w.exists, w.ready), tt),
      on_sides path contact w.dirs,
      (w.dirs, w.sides, w.many, refl),
      subst (λ t. Reads job (Good job e) t nodes []) (sym (append-nil (on_sides path contact w.dirs))) (each_back job e path contact w.dirs nodes w.each),
    )

pub pending_never : (job : Job) (e : ℕ) (path : List Choice) (nodes : List Node) → Refutes job e path (Nodes.Pending ∷ nodes) → ⊥
pending_never job e path nodes r = r.0.1

pub nothing_never : (job : Job) (e : ℕ) (path : List Choice) → Refutes job e path [] → ⊥
nothing_never job e path r = absurd (omega (arith, ap length r))
