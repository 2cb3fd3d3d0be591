-- What a text asks of a tree and of a note.
--
--   all_nodes           what each node that was made has, each node of the list has
--   children_deeper     the children of a node stand one choice deeper
--   reads_fill          where no path is longer than this, no node has more splits above it
--   note_is_spelt       a basis that a walk ends before is a list that a text may hold
use Rattle.std.proofs.Common.{◌≡◌, ℕ, ◌+◌, ◌*◌, ◌^◌, ◌<◌, ◌≤◌, ℤ, pos, negsuc, ◌<ℤ◌, List, [], ◌∷◌, ◌++◌, All, length, map, replicate, refl, sym, ap, subst, ◌∙◌, arith, inl, inr, length-append}
use Rattle.std.proofs.lemmas.Int.{ints}
use Rattle.std.proofs.lemmas.List.{map-append}
use Rattle.std.proofs.lemmas.List.Elements.{All-nil, All-cons, All-head, All-tail, All-weaker}
use Rattle.cert_text.specs.TreeText.{AreRising, IsSpeltNote}
use Rattle.node_looks.specs.Looks.{IsWideAt}
use Rattle.plan_laws.specs.Laws.PathRows.{many_rows}
use Rattle.plan_laws.specs.Members.{side_count}
use Rattle.refutation_tree.specs.Grown.{node_of}
use Rattle.refutation_tree.specs.declared.growing.Made.{Made}
use Rattle.seq_model.specs.Dictionaries.{Has, Rises}
use Rattle.seq_model.specs.Systems.{system}
use Rattle.seq_model.specs.Trees.{AreChildren, Fills, Reads, also, arity}
use Rattle.seq_model.specs.declared.job.Job.{Job}
use Rattle.seq_model.specs.declared.tree.Choice.{Choice}
use Rattle.seq_model.specs.declared.tree.Choice.TheVariants as Choices
use Rattle.seq_model.specs.declared.tree.Contact.{Contact}
use Rattle.seq_model.specs.declared.tree.Dir.{Dir}
use Rattle.seq_model.specs.declared.tree.Node.{Node}
use Rattle.seq_model.specs.declared.tree.Node.TheVariants as Nodes

pub all_nodes : (P : Node → Type 0) (made : List Made) (order : List ℕ) → ((k : ℕ) → k < length made → P (node_of made k)) → All (λ k. k < length made) order
    → All P (map (node_of made) order)
all_nodes P made [] each known = All-nil P
all_nodes P made (k ∷ order) each known =
    All-cons P (node_of made k) (map (node_of made) order) (each k (All-head (λ (x : ℕ). x < length made) k order known))
    (all_nodes P made order each (All-tail (λ (x : ℕ). x < length made) k order known))

-- ---- how deep a node stands
abbrev pub depths : List (List Choice) → List ℕ
depths paths = map (λ (path : List Choice). length path) paths

one_deeper : (path : List Choice) (choice : Choice) → length (also path choice) ≡ length path + 1
one_deeper path choice = length-append path (choice ∷ [])

sides_deeper : (path : List Choice) (contact : Contact) (dirs : List Dir)
    → depths (map (λ dir. also path (Choices.Side contact dir)) dirs) ≡ replicate (length dirs) (length path + 1)
sides_deeper path contact [] = refl
sides_deeper path contact (dir ∷ dirs) =
    ap (λ n. n ∷ depths (map (λ dir. also path (Choices.Side contact dir)) dirs)) (one_deeper path (Choices.Side contact dir))
    ∙ ap (λ l. (length path + 1) ∷ l) (sides_deeper path contact dirs)

children_deeper : (job : Job) (path : List Choice) (node : Node) (paths : List (List Choice)) → AreChildren job path node paths
    → depths paths ≡ replicate (arity node) (length path + 1)
children_deeper job path (Nodes.Order i j) paths children =
    ap depths children
    ∙ (ap (λ n. n ∷ length (also path (Choices.Before j i)) ∷ []) (one_deeper path (Choices.Before i j))
    ∙ ap (λ n. (length path + 1) ∷ n ∷ []) (one_deeper path (Choices.Before j i)))
children_deeper job path (Nodes.Side contact count) paths children =
    ap depths children.3 ∙ (sides_deeper path contact children.0 ∙ ap (λ n. replicate n (length path + 1)) (sym children.2))
children_deeper job path (Nodes.Bound mults) paths children = ap depths children
children_deeper job path (Nodes.Cycle objects) paths children = ap depths children
children_deeper job path Nodes.Pending paths children = ap depths children

pub reads_fill : (job : Job) (most : ℕ) (nodes : List Node) (todo left : List (List Choice)) → Reads job (λ path node. length path ≤ most) todo nodes left
    → Fills most (depths todo) nodes (depths left)
reads_fill job most [] todo left r = ap depths r
reads_fill job most (node ∷ nodes) [] left r = absurd r
reads_fill job most (node ∷ nodes) (path ∷ todo) left r = (
  r.0,
  subst (λ d. Fills most d nodes (depths left))
      (map-append (λ (p : List Choice). length p) r.1 todo ∙ ap (λ d. d ++ depths todo) (children_deeper job path node r.1 r.2))
      (reads_fill job most nodes (r.1 ++ todo) left r.3),
)

-- ---- a basis
first_below : (count a : ℕ) (zs : List ℕ) → Rises count (a ∷ zs) → a < count
first_below count a [] rises = rises
first_below count a (b ∷ zs) rises = let next = first_below count b zs rises.1 in omega (arith, rises.0, next)

all_below : (count : ℕ) (zs : List ℕ) → Rises count zs → All (λ z. z < count) zs
all_below count [] rises = All-nil (λ z. z < count)
all_below count (a ∷ []) rises = All-cons (λ z. z < count) a [] rises (All-nil (λ z. z < count))
all_below count (a ∷ b ∷ zs) rises =
    All-cons (λ z. z < count) a (b ∷ zs) (first_below count a (b ∷ zs) rises) (all_below count (b ∷ zs) rises.1)

above : (a b : ℕ) → a < b → pos a <ℤ pos b
above a b h = omega (arith, ints, h)

rise_above : (count a : ℕ) (zs : List ℕ) → Rises count (a ∷ zs) → AreRising (pos a) (map pos zs)
rise_above count a [] rises = tt
rise_above count a (b ∷ zs) rises = (above a b rises.0, rise_above count b zs rises.1)

rise : (count : ℕ) (zs : List ℕ) → Rises count zs → AreRising (negsuc 0) (map pos zs)
rise count [] rises = tt
rise count (a ∷ zs) rises = (from_none a, rise_above count a zs rises)
  where
    from_none : (n : ℕ) → negsuc 0 <ℤ pos n
    from_none n = omega (arith, ints)

has_below : (count : ℕ) (zs : List ℕ) (lines : List (List ℤ)) (z : ℕ) (line : List ℤ) → Has zs lines z line → All (λ y. y < count) zs → z < count
has_below count [] lines z line has below = absurd has
has_below count (y ∷ zs) [] z line has below = absurd has
has_below count (y ∷ zs) (l ∷ lines) z line (inl e) below =
    let low : y < count = All-head (λ (x : ℕ). x < count) y zs below in omega (arith, e.0, low)
has_below count (y ∷ zs) (l ∷ lines) z line (inr has) below = has_below count zs lines z line has (All-tail (λ (x : ℕ). x < count) y zs below)

has_some : (zs : List ℕ) (lines : List (List ℤ)) (z : ℕ) (line : List ℤ) → Has zs lines z line → 1 ≤ length zs
has_some [] lines z line has = absurd has
has_some (y ∷ zs) lines z line has = omega arith

few_sides : (path : List Choice) → side_count path ≤ length path
few_sides [] = omega arith
few_sides (Choices.Before i j ∷ path) = omega (arith, few_sides path)
few_sides (Choices.Side contact dir ∷ path) = omega (arith, few_sides path)

pub note_is_spelt : (job : Job) (e : ℕ) (path : List Choice) (node : ℕ) (basis : List ℕ) (row : ℕ) → IsWideAt job e path basis row → length path ≤ 1_000_000 → node < 2 ^ 62
    → IsSpeltNote (record { node = node; basis = basis; row = row })
note_is_spelt job e path node basis row wide short known = record {
  node = known;
  row = omega (arith, small, has_below (2 * length job.objects + length (system job e path)) basis wide.wide.form.lines row wide.wide.line wide.wide.has below);
  some = has_some basis wide.wide.form.lines row wide.wide.line wide.wide.has;
  rising = rise (2 * length job.objects + length (system job e path)) basis wide.wide.form.rising;
  basis = All-weaker (λ (k : ℕ). k < 2 * length job.objects + length (system job e path)) (λ (k : ℕ). k < 2 ^ 32) (λ k h. omega (arith, h, small)) basis below;
}
  where
    small : 2 * length job.objects + length (system job e path) < 2 ^ 32
    small = omega (arith, many_rows job e path, few_sides path, short, job.sound.few)

    below : All (λ z. z < 2 * length job.objects + length (system job e path)) basis
    below = all_below (2 * length job.objects + length (system job e path)) basis wide.wide.form.rising
