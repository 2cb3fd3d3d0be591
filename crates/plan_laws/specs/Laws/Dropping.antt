-- A tree that doesn't use a choice of its path serves the path without this choice, with the rows behind that of a side one lower.
--
--   dropped   a tree below front ++ x ∷ back, free of x, makes one below front ++ back
use Rattle.std.proofs.Common.{◌≡◌, ℕ, List, [], ◌∷◌, ◌++◌, Contains, length, map, refl, sym, ap, subst, ◌∙◌, arith, append_assoc, inl, inr, ◌⊎◌}
use Rattle.std.specs.List.{AllZip}
use Rattle.plan_laws.specs.Laws.Moved.{without_side}
use Rattle.integer_laws.specs.Members.{In}
use Rattle.integer_laws.specs.Laws.Members.{In-from_contains, Contains-from_in, In-append_left, In-append_right, In-append_cases}
use Rattle.plan_laws.specs.Laws.PathRows.{side_rows-append}
use Rattle.plan_laws.specs.Dropping.{IsUnused, IsFreeOf, IsFreeTree, dropped_mults, dropped_node}
use Rattle.seq_model.specs.Systems.{system, bounds_of, Contradiction}
use Rattle.seq_model.specs.Trees.{also, AreChildren, IsSoundNode, IsClosed, Reads, Refutes}
use Rattle.seq_model.specs.declared.job.Job.{Job}
use Rattle.seq_model.specs.declared.tree.Choice.{Choice}
use Rattle.seq_model.specs.declared.tree.Choice.TheVariants as Choices
use Rattle.seq_model.specs.declared.tree.Contact.{Contact}
use Rattle.seq_model.specs.declared.tree.Dir.{Dir}
use Rattle.seq_model.specs.declared.tree.Mult.{Mult}
use Rattle.seq_model.specs.declared.tree.Node.{Node}
use Rattle.seq_model.specs.declared.tree.Node.TheVariants as Nodes

-- ---- what is left of a path
still_there : (front back : List Choice) (x c : Choice) → (c ≡ x → ⊥) → Contains (front ++ x ∷ back) c → Contains (front ++ back) c
still_there front back x c apart h = Contains-from_in (front ++ back) c (by (In-append_cases front (x ∷ back) c (In-from_contains (front ++ x ∷ back) c h)))
  where
    by : In c front ⊎ In c (x ∷ back) → In c (front ++ back)
    by (inl i) = In-append_left front back c i
    by (inr (inl same)) = absurd (apart same)
    by (inr (inr i)) = In-append_right front back c i

still_cycle : (front back : List Choice) (x : Choice) (xs ys : List ℕ) → AllZip (λ a b. Choices.Before a b ≡ x → ⊥) xs ys → AllZip (λ a b. Contains (front ++ x ∷ back) (Choices.Before a b)) xs ys
    → AllZip (λ a b. Contains (front ++ back) (Choices.Before a b)) xs ys
still_cycle front back x [] [] f z = tt
still_cycle front back x [] (b ∷ ys) f z = absurd z
still_cycle front back x (a ∷ xs) [] f z = absurd z
still_cycle front back x (a ∷ xs) (b ∷ ys) f z = (still_there front back x (Choices.Before a b) f.0 z.0, still_cycle front back x xs ys f.1 z.1)

still_contradicts : (job : Job) (e : ℕ) (front back : List Choice) (x : Choice) (mults : List Mult) → IsUnused x (length (system job e front)) mults → Contradiction (system job e (front ++ x ∷ back)) mults
    → Contradiction (system job e (front ++ back)) (dropped_mults x (length (system job e front)) mults)
still_contradicts job e front back (Choices.Before i j) mults free c =
    subst (λ rows. Contradiction rows mults) (ap (λ rows. bounds_of job e 0 job.objects ++ rows) (side_rows-append job e front (Choices.Before i j ∷ back) ∙ sym (side_rows-append job e front back))) c
still_contradicts job e front back (Choices.Side contact dir) mults free c = without_side job e front back contact dir mults c free

-- ---- one node
abbrev with_it : List Choice → Choice → List Choice → List Choice
with_it front x back = front ++ x ∷ back

abbrev left_out : List Choice → List Choice → List Choice
left_out front back = front ++ back

record Drops (job : Job) (e : ℕ) (front : List Choice) (x : Choice) (back : List Choice) (node : Node) (parts : List (List Choice)) : Type 0 where
  backs : List (List Choice)
  sound : IsSoundNode job e (front ++ back) (dropped_node x (length (system job e front)) node)
  closed : IsClosed (dropped_node x (length (system job e front)) node)
  children : AreChildren job (front ++ back) (dropped_node x (length (system job e front)) node) (map (left_out front) backs)
  are : parts ≡ map (with_it front x) backs

longer_with : (front back : List Choice) (x c : Choice) → also (front ++ x ∷ back) c ≡ with_it front x (back ++ c ∷ [])
longer_with front back x c = append_assoc front (x ∷ back) (c ∷ [])

longer_without : (front back : List Choice) (c : Choice) → also (front ++ back) c ≡ left_out front (back ++ c ∷ [])
longer_without front back c = append_assoc front back (c ∷ [])

sides_with : (front back : List Choice) (x : Choice) (contact : Contact) (dirs : List Dir)
    → map (λ dir. also (front ++ x ∷ back) (Choices.Side contact dir)) dirs ≡ map (with_it front x) (map (λ dir. back ++ Choices.Side contact dir ∷ []) dirs)
sides_with front back x contact [] = refl
sides_with front back x contact (d ∷ dirs) =
    ap (λ p. p ∷ map (λ dir. also (front ++ x ∷ back) (Choices.Side contact dir)) dirs) (longer_with front back x (Choices.Side contact d))
    ∙ ap (λ ps. with_it front x (back ++ Choices.Side contact d ∷ []) ∷ ps) (sides_with front back x contact dirs)

sides_without : (front back : List Choice) (contact : Contact) (dirs : List Dir)
    → map (left_out front) (map (λ dir. back ++ Choices.Side contact dir ∷ []) dirs) ≡ map (λ dir. also (front ++ back) (Choices.Side contact dir)) dirs
sides_without front back contact [] = refl
sides_without front back contact (d ∷ dirs) =
    ap (λ p. p ∷ map (left_out front) (map (λ dir. back ++ Choices.Side contact dir ∷ []) dirs)) (sym (longer_without front back (Choices.Side contact d)))
    ∙ ap (λ ps. also (front ++ back) (Choices.Side contact d) ∷ ps) (sides_without front back contact dirs)

pair : List Choice → List Choice → List (List Choice)
pair p q = p ∷ q ∷ []

drops : (job : Job) (e : ℕ) (front : List Choice) (x : Choice) (back : List Choice) (node : Node) (parts : List (List Choice)) → IsSoundNode job e (front ++ x ∷ back) node → IsClosed node
    → IsFreeOf x (length (system job e front)) node → AreChildren job (front ++ x ∷ back) node parts → Drops job e front x back node parts
unfolding pair
drops job e front x back (Nodes.Bound mults) parts sound closed free children = record { backs = []; sound = still_contradicts job e front back x mults free sound; closed = tt; children = refl; are = children }
drops job e front x back (Nodes.Cycle objects) parts sound closed free children = record { backs = []; sound = (sound.0, still_cycle front back x objects _ free sound.1); closed = tt; children = refl; are = children }
drops job e front x back (Nodes.Order i j) parts sound closed free children = record {
  backs = (back ++ Choices.Before i j ∷ []) ∷ (back ++ Choices.Before j i ∷ []) ∷ [];
  sound = sound;
  closed = tt;
  children = ap (λ p. pair p (left_out front (back ++ Choices.Before j i ∷ []))) (sym (longer_without front back (Choices.Before i j))) ∙ ap (λ q. pair (also (front ++ back) (Choices.Before i j)) q) (sym (longer_without front back (Choices.Before j i)));
  are = children ∙ (ap (λ p. pair p (also (front ++ x ∷ back) (Choices.Before j i))) (longer_with front back x (Choices.Before i j)) ∙ ap (λ q. pair (with_it front x (back ++ Choices.Before i j ∷ [])) q) (longer_with front back x (Choices.Before j i)));
}
drops job e front x back (Nodes.Side contact count) parts sound closed free children = record {
  backs = map (λ dir. back ++ Choices.Side contact dir ∷ []) children.0;
  sound = (sound.0, still_there front back x (Choices.Before contact.i contact.j) free sound.1);
  closed = tt;
  children = (children.0, children.1, children.2, sides_without front back contact children.0);
  are = children.3 ∙ sides_with front back x contact children.0;
}
drops job e front x back Nodes.Pending parts sound closed free children = absurd closed

-- ---- the tree
map_both : (f : List Choice → List Choice) (xs ys : List (List Choice)) → map f (xs ++ ys) ≡ map f xs ++ map f ys
map_both f [] ys = refl
map_both f (x ∷ xs) ys = ap (λ t. f x ∷ t) (map_both f xs ys)

abbrev Good : Job → ℕ → List Choice → Node → Type 0
Good job e path node = IsSoundNode job e path node × IsClosed node

abbrev Free : Job → ℕ → List Choice → Choice → List Choice → Node → Type 0
Free job e front x path node = (IsSoundNode job e path node × IsClosed node) × IsFreeOf x (length (system job e front)) node

drop_all : (job : Job) (e : ℕ) (front : List Choice) (x : Choice) (nodes : List Node) (backs : List (List Choice)) → Reads job (Free job e front x) (map (with_it front x) backs) nodes []
    → Reads job (Good job e) (map (left_out front) backs) (map (dropped_node x (length (system job e front))) nodes) []
drop_all job e front x [] backs r = none backs r
  where
    none : (backs : List (List Choice)) → map (with_it front x) backs ≡ [] → map (left_out front) backs ≡ []
    none [] r = refl
    none (b ∷ backs) r = absurd (omega (arith, ap length r))
drop_all job e front x (node ∷ nodes) [] r = absurd r
drop_all job e front x (node ∷ nodes) (b ∷ backs) r =
    let d = drops job e front x b node r.1 r.0.0.0 r.0.0.1 r.0.1 r.2 in
    let rest = drop_all job e front x nodes (d.backs ++ backs)
    (subst (λ t. Reads job (Free job e front x) t nodes []) (ap (λ ps. ps ++ map (with_it front x) backs) d.are ∙ sym (map_both (with_it front x) d.backs backs)) r.3) in (
      (d.sound, d.closed),
      map (left_out front) d.backs,
      d.children,
      subst (λ t. Reads job (Good job e) t (map (dropped_node x (length (system job e front))) nodes) []) (map_both (left_out front) d.backs backs) rest,
    )

pub dropped : (job : Job) (e : ℕ) (front : List Choice) (x : Choice) (back : List Choice) (nodes : List Node) → IsFreeTree job e front x back nodes
    → Refutes job e (front ++ back) (map (dropped_node x (length (system job e front))) nodes)
dropped job e front x back nodes tree = drop_all job e front x nodes (back ∷ []) tree
