-- A tree that refutes a path leaves it no point with an order of all objects in which nothing collides.
--
--   no_cycle              what rises along a cycle doesn't come back
--   no_clear_point        a tree that refutes a path leaves no such point to it, the order told by ranks
--   no_ordered_point      nor with the order told by a list
--   no_point_of_more      nor to any path that has the choices of this one
--   refuted_has_no_plan, refuted_has_none_below, refuted_on_all   so a tree that refutes the empty path leaves no plan valid at the
--                         extent, nor at a smaller one; and none at all where it is the whole grid
--   least_by_a_tree, least_at_one    and a plan at the next extent, or at the first, is one at the least
use Rattle.std.proofs.Common.{◌+◌, ◌≡◌, ℕ, ◌<◌, ◌≤◌, List, [], ◌∷◌, ◌++◌, Contains, refl, sym, subst, arith, inl, inr, ◌⊎◌}
use Rattle.std.proofs.lemmas.Bool.{cases_lt}
use Rattle.std.specs.List.{AllZip}
use Rattle.integer_laws.specs.Members.{In}
use Rattle.integer_laws.specs.Laws.Members.{In-from_contains, Contains-from_in, In-append_left, In-append_right, In-append_cases, In-map}
use Rattle.model_laws.specs.Laws.Farkas.{no_point}
use Rattle.model_laws.specs.Laws.Collisions.{contact_collides}
use Rattle.plan_laws.specs.Gaps.{gap_at}
use Rattle.plan_laws.specs.Laws.SideRows.{beyond_by_row}
use Rattle.plan_laws.specs.Members.{IsPart}
use Rattle.plan_laws.specs.Ordered.{Keeps, IsClear, OrderedPoint}
use Rattle.plan_laws.specs.Laws.Members.{on_part}
use Rattle.plan_laws.specs.Laws.Ordered.{rank_in, point_keeps, point_is_clear}
use Rattle.plan_laws.specs.Laws.PlanPoints.{values_of, rank_for, on_of_plan, clear_of_plan}
use Rattle.model_laws.specs.Laws.Nested.{valid_at_larger, least_from_below}
use Rattle.seq_model.specs.Jobs.{scene_of_job}
use Rattle.seq_model.specs.Scenes.{Valid, Least}
use Rattle.seq_model.specs.declared.plan.Plan.{Plan}
use Rattle.seq_model.specs.declared.tree.Tree.{Tree}
use Rattle.search_laws.specs.Laws.Gaps.{area_of_contact, gap_is_inner, some_beyond}
use Rattle.plan_laws.specs.Laws.PathRows.{on_order, on_side}
use Rattle.seq_model.specs.Contacts.{points_of}
use Rattle.seq_model.specs.Outlines.{Inner}
use Rattle.seq_model.specs.Splits.{Values, IsOn}
use Rattle.seq_model.specs.Systems.{system, place_of}
use Rattle.seq_model.specs.Trees.{also, IsCycle, AreChildren, IsSoundNode, IsClosed, Reads, Refutes, TreeRefutes}
use Rattle.seq_model.specs.declared.job.Job.{Job}
use Rattle.seq_model.specs.declared.tree.Choice.{Choice}
use Rattle.seq_model.specs.declared.tree.Choice.TheVariants as Choices
use Rattle.seq_model.specs.declared.tree.Contact.{Contact}
use Rattle.seq_model.specs.declared.tree.Dir.{Dir}
use Rattle.seq_model.specs.declared.tree.Node.{Node}
use Rattle.seq_model.specs.declared.tree.Node.TheVariants as Nodes

-- ---- a path that has such a point
record Goes (job : Job) (e : ℕ) (at : Values) (rank : ℕ → ℕ) (path : List Choice) : Type 0 where
  on : IsOn job e path at
  keeps : Keeps path rank

-- what rises from each to the next doesn't come back
rises : (rank : ℕ → ℕ) (R : ℕ → ℕ → Type 0) → ((a b : ℕ) → R a b → rank a < rank b) → (x : ℕ) (xs : List ℕ) (y : ℕ) → AllZip R (x ∷ xs) (xs ++ y ∷ []) → rank x < rank y
rises rank R up x [] y z = up x y z.0
rises rank R up x (w ∷ ws) y z = let first = up x w z.0 in let rest = rises rank R up w ws y z.1 in omega (arith, first, rest)

pub no_cycle : (rank : ℕ → ℕ) (R : ℕ → ℕ → Type 0) → ((a b : ℕ) → R a b → rank a < rank b) → (objects : List ℕ) → IsCycle R objects → ⊥
no_cycle rank R up [] c = absurd (omega (arith, c.0))
no_cycle rank R up (x ∷ xs) c = let h = rises rank R up x xs x c.1 in omega (arith, h)

order_kept : (path : List Choice) (rank : ℕ → ℕ) (i j : ℕ) → Keeps path rank → rank i < rank j → Keeps (also path (Choices.Before i j)) rank
order_kept path rank i j keeps less a b c = by (In-append_cases path (Choices.Before i j ∷ []) (Choices.Before a b) (In-from_contains (also path (Choices.Before i j)) (Choices.Before a b) c))
  where
    first : Choice → ℕ
    first (Choices.Before x y) = x
    first (Choices.Side x y) = 0

    second : Choice → ℕ
    second (Choices.Before x y) = y
    second (Choices.Side x y) = 0

    same : Choices.Before a b ≡ Choices.Before i j → rank a < rank b
    same e = subst (λ (t : Choice). rank (first t) < rank (second t)) (sym e) less

    by : In (Choices.Before a b) path ⊎ In (Choices.Before a b) (Choices.Before i j ∷ []) → rank a < rank b
    by (inl i) = keeps a b (Contains-from_in path (Choices.Before a b) i)
    by (inr (inl e)) = same e
    by (inr (inr i)) = absurd i

side_kept : (path : List Choice) (rank : ℕ → ℕ) (contact : Contact) (dir : Dir) → Keeps path rank → Keeps (also path (Choices.Side contact dir)) rank
side_kept path rank contact dir keeps a b c = by (In-append_cases path (Choices.Side contact dir ∷ []) (Choices.Before a b) (In-from_contains (also path (Choices.Side contact dir)) (Choices.Before a b) c))
  where
    not_side : Choices.Before a b ≡ Choices.Side contact dir → ⊥
    not_side e = cc

    by : In (Choices.Before a b) path ⊎ In (Choices.Before a b) (Choices.Side contact dir ∷ []) → rank a < rank b
    by (inl i) = keeps a b (Contains-from_in path (Choices.Before a b) i)
    by (inr (inl e)) = absurd (not_side e)
    by (inr (inr i)) = absurd i

-- a point of a path with an order that doesn't collide goes on to one of the children of a sound, closed node
abbrev GoesOn : Job → ℕ → Values → (ℕ → ℕ) → List (List Choice) → Type 0
GoesOn job e at rank paths = (path : List Choice) × In path paths × Goes job e at rank path

goes_on : (job : Job) (e : ℕ) (at : Values) (rank : ℕ → ℕ) → IsClear job e at rank → (path : List Choice) (node : Node) (paths : List (List Choice))
    → IsSoundNode job e path node → IsClosed node → AreChildren job path node paths → Goes job e at rank path → GoesOn job e at rank paths
goes_on job e at rank clear path (Nodes.Bound mults) paths sound closed children g = absurd (no_point (system job e path) mults sound at.d at.u g.on.meets)
goes_on job e at rank clear path (Nodes.Cycle objects) paths sound closed children g = absurd (no_cycle rank (λ a b. Contains path (Choices.Before a b)) g.keeps objects sound)
goes_on job e at rank clear path Nodes.Pending paths sound closed children g = absurd closed
goes_on job e at rank clear path (Nodes.Order i j) paths sound closed children g = subst (GoesOn job e at rank) (sym children) (by (cases_lt (rank i) (rank j)))
  where
    by : (rank i < rank j) ⊎ (rank j ≤ rank i) → GoesOn job e at rank (also path (Choices.Before i j) ∷ also path (Choices.Before j i) ∷ [])
    by (inl l) = (also path (Choices.Before i j), inl refl, record { on = on_order job e path at i j g.on; keeps = order_kept path rank i j g.keeps l })
    by (inr m) =
        let l : rank j < rank i = let own = clear.own i j (omega (arith, sound.0, sound.1)) sound.1 (λ e. omega (arith, sound.0, e)) in omega (arith, m, own) in
        (also path (Choices.Before j i), inr (inl refl), record { on = on_order job e path at j i g.on; keeps = order_kept path rank j i g.keeps l })
goes_on job e at rank clear path (Nodes.Side contact count) paths sound closed children g =
    let is = sound.0 in
    let one = g.on.meets.positive in
    let gap = gap_at job e at.d at.u contact in
    let S = points_of job contact in
    let free : Inner S gap → ⊥ = λ inner. clear.clear contact.i contact.j is.i_in is.j_in (g.keeps contact.i contact.j sound.1) (contact_collides job contact (place_of job e at.d at.u contact.i) (place_of job e at.d at.u contact.j) ((gap_is_inner job e at contact one).1 (is, inner))) in
    let found = some_beyond S children.0 gap (area_of_contact job contact is) (record { positive = one }) children.1 free in
    let dir = found.0 in
    let met = (beyond_by_row job e at.d at.u contact dir is.i_in is.j_in is.apart g.on.many).1 found.2 in (
      also path (Choices.Side contact dir),
      subst (In (also path (Choices.Side contact dir))) (sym children.3) (In-map (λ d. also path (Choices.Side contact d)) children.0 dir found.1),
      record { on = on_side job e path at contact dir g.on met; keeps = side_kept path rank contact dir g.keeps },
    )

refuted : (job : Job) (e : ℕ) (at : Values) (rank : ℕ → ℕ) → IsClear job e at rank → (nodes : List Node) (todo : List (List Choice)) → Reads job (λ path node. IsSoundNode job e path node × IsClosed node) todo nodes []
    → GoesOn job e at rank todo → ⊥
refuted job e at rank clear [] todo r g = subst (In g.0) r g.1
refuted job e at rank clear (node ∷ nodes) [] r g = absurd r
refuted job e at rank clear (node ∷ nodes) (path ∷ todo) r g = by g.1 (refuted job e at rank clear nodes (r.1 ++ todo) r.3)
  where
    onward : GoesOn job e at rank r.1 → GoesOn job e at rank (r.1 ++ todo)
    onward h = (h.0, In-append_left r.1 todo h.0 h.1, h.2)

    by : In g.0 (path ∷ todo) → (GoesOn job e at rank (r.1 ++ todo) → ⊥) → ⊥
    by (inl same) never = never (onward (goes_on job e at rank clear path node r.1 r.0.0 r.0.1 r.2 (subst (Goes job e at rank) same g.2)))
    by (inr i) never = never (g.0, In-append_right r.1 todo g.0 i, g.2)

pub no_clear_point : (job : Job) (e : ℕ) (path : List Choice) (nodes : List Node) (at : Values) (rank : ℕ → ℕ) → Refutes job e path nodes → IsOn job e path at → Keeps path rank → IsClear job e at rank → ⊥
no_clear_point job e path nodes at rank r on keeps clear = refuted job e at rank clear nodes (path ∷ []) r (path, inl refl, record { on = on; keeps = keeps })

pub no_ordered_point : (job : Job) (e : ℕ) (path : List Choice) (nodes : List Node) → Refutes job e path nodes → OrderedPoint job e path → ⊥
no_ordered_point job e path nodes r p = no_clear_point job e path nodes p.at (rank_in p.objects) r p.on (point_keeps job e path p) (point_is_clear job e path p)

-- a lemma that was learnt
pub no_point_of_more : (job : Job) (e : ℕ) (part path : List Choice) (nodes : List Node) (at : Values) (rank : ℕ → ℕ) → IsPart part path → Refutes job e part nodes → IsOn job e path at → Keeps path rank → IsClear job e at rank → ⊥
no_point_of_more job e part path nodes at rank is r on keeps clear =
    no_clear_point job e part nodes at rank r (on_part job e part path at is on) (λ i j c. keeps i j (is (Choices.Before i j) c)) clear

-- ---- plans
pub refuted_has_no_plan : (job : Job) (e : ℕ) (tree : Tree) (plan : Plan) → TreeRefutes job e tree → Valid (scene_of_job job) e plan → ⊥
refuted_has_no_plan job e tree plan r valid =
    no_clear_point job e [] tree.nodes (values_of job e plan) (rank_for plan.places) r (on_of_plan job e plan valid) (λ i j c. absurd (none c)) (clear_of_plan job e plan valid)
  where
    none : {i j : ℕ} → Contains [] (Choices.Before i j) → ⊥
    none c = omega (arith, c.1)

pub refuted_has_none_below : (job : Job) (e f : ℕ) (tree : Tree) (plan : Plan) → TreeRefutes job e tree → f ≤ e → e ≤ job.printer.grid → Valid (scene_of_job job) f plan → ⊥
refuted_has_none_below job e f tree plan r h g valid =
    refuted_has_no_plan job e tree plan r (valid_at_larger (scene_of_job job) f e plan job.printer.ranged.width_low job.printer.ranged.depth_low h g valid)

pub refuted_on_all : (job : Job) (f : ℕ) (tree : Tree) (plan : Plan) → TreeRefutes job job.printer.grid tree → Valid (scene_of_job job) f plan → ⊥
refuted_on_all job f tree plan r valid = refuted_has_none_below job job.printer.grid f tree plan r valid.to_grid (omega arith) valid

pub least_by_a_tree : (job : Job) (e : ℕ) (plan : Plan) (tree : Tree) → Valid (scene_of_job job) (e + 1) plan → TreeRefutes job e tree → Least (scene_of_job job) (e + 1)
least_by_a_tree job e plan tree valid r =
    least_from_below (scene_of_job job) e plan job.printer.ranged.width_low job.printer.ranged.depth_low valid (λ other v. refuted_has_no_plan job e tree other r v)

pub least_at_one : (job : Job) (plan : Plan) → Valid (scene_of_job job) 1 plan → Least (scene_of_job job) 1
least_at_one job plan valid = record { plan = plan; valid = valid; none = λ f l q v. never f (v.from_one) l }
  where
    never : (f : ℕ) → 1 ≤ f → f < 1 → ⊥
    never f h l = omega (arith, h, l)
