-- A tree that refutes a path serves each path that has its choices, with the rows of its bounds renumbered.
--
--   contradiction_on_part   a bound of a path, on each path that has its choices
--   pasted                  so a tree for the one makes a tree for the other, node for node
use Rattle.std.proofs.Common.{◌≡◌, ℕ, ◌<◌, ◌≤◌, List, [], ◌∷◌, ◌++◌, All, Contains, length, map, refl, sym, ap, subst, ◌∙◌, arith, inl, inr, ◌⊎◌}
use Rattle.std.proofs.lemmas.Bool.{cases_lt}
use Rattle.std.proofs.lemmas.List.{get_or_default}
use Rattle.std.proofs.lemmas.List.Elements.{All-nil, All-cons, All-head, All-tail, Contains-append_left, Contains-push, Contains-push_cases, Contains-get_or}
use Rattle.std.specs.List.{AllZip}
use Rattle.plan_laws.specs.Laws.Moved.{IsSameRow, moved}
use Rattle.integer_laws.specs.Members.{In}
use Rattle.integer_laws.specs.Laws.Members.{In-from_contains, Contains-from_in, In-append_left, In-append_right, In-append_cases}
use Rattle.plan_laws.specs.Members.{IsPart}
use Rattle.plan_laws.specs.Laws.PathRows.{row_in}
use Rattle.plan_laws.specs.Renumbered.{move, IsRenumbered}
use Rattle.seq_model.specs.declared.row.Row.{Row}
use Rattle.seq_model.specs.Systems.{no_row, row_at, bounds_of, side_row, side_rows, system, IsTaken, Contradiction}
use Rattle.seq_model.specs.Trees.{also, AreChildren, IsSoundNode, IsClosed, Reads, Refutes}
use Rattle.seq_model.specs.declared.job.Job.{Job}
use Rattle.seq_model.specs.declared.tree.Choice.{Choice}
use Rattle.seq_model.specs.declared.tree.Choice.TheVariants as Choices
use Rattle.seq_model.specs.declared.tree.Contact.{Contact}
use Rattle.seq_model.specs.declared.tree.Dir.{Dir}
use Rattle.seq_model.specs.declared.tree.Mult.{Mult}
use Rattle.seq_model.specs.declared.tree.Node.{Node}
use Rattle.seq_model.specs.declared.tree.Node.TheVariants as Nodes

-- ---- rows that stand elsewhere
abbrev Among : List Row → List Row → Type 0
Among rows more = (row : Row) → In row rows → In row more

row_stands : (rows : List Row) (r : ℕ) → r < length rows → In (row_at rows r) rows
row_stands rows r l = In-from_contains rows (row_at rows r) (Contains-get_or rows r no_row l)

where_is : (rows more : List Row) → Among rows more → (r : ℕ) → (r < length rows) ⊎ (length rows ≤ r) → ℕ
where_is rows more among r (inl l) = (Contains-from_in more (row_at rows r) (among (row_at rows r) (row_stands rows r l))).0
where_is rows more among r (inr l) = 0

is_there : (rows more : List Row) (among : Among rows more) (r : ℕ) (c : (r < length rows) ⊎ (length rows ≤ r)) → r < length rows
    → (where_is rows more among r c < length more) × (row_at more (where_is rows more among r c) ≡ row_at rows r)
unfolding where_is
is_there rows more among r (inl l) h =
    let c = Contains-from_in more (row_at rows r) (among (row_at rows r) (row_stands rows r l)) in
    (c.1, get_or_default more c.0 no_row (row_at rows r) c.1 ∙ c.2)
is_there rows more among r (inr l) h = absurd (omega (arith, l, h))

contradicts_among : (rows more : List Row) (mults : List Mult) → Among rows more → Contradiction rows mults → (f : ℕ → ℕ) × Contradiction more (map (move f) mults)
contradicts_among rows more mults among c = (f, moved rows more f mults (same mults c.each) c)
  where
    f : ℕ → ℕ
    f r = where_is rows more among r (cases_lt r (length rows))

    same : (ms : List Mult) → All (IsTaken rows) ms → All (IsSameRow rows more f) ms
    same [] all = All-nil (IsSameRow rows more f)
    same (m ∷ ms) all =
        let t = is_there rows more among m.row (cases_lt m.row (length rows)) (All-head (IsTaken rows) m ms all).row in
        All-cons (IsSameRow rows more f) m ms (record { known = t.0; same = t.1 }) (same ms (All-tail (IsTaken rows) m ms all))

side_of_row : (job : Job) (e : ℕ) (path : List Choice) (row : Row) → In row (side_rows job e path) → (contact : Contact) × (dir : Dir) × In (Choices.Side contact dir) path × (row ≡ side_row job e contact dir)
side_of_row job e [] row i = absurd i
side_of_row job e (Choices.Before a b ∷ path) row i = let r = side_of_row job e path row i in (r.0, r.1, inr r.2, r.3)
side_of_row job e (Choices.Side c d ∷ path) row (inl same) = (c, d, inl refl, same)
side_of_row job e (Choices.Side c d ∷ path) row (inr i) = let r = side_of_row job e path row i in (r.0, r.1, inr r.2, r.3)

rows_among : (job : Job) (e : ℕ) (part path : List Choice) → IsPart part path → Among (system job e part) (system job e path)
rows_among job e part path is row i = by (In-append_cases (bounds_of job e 0 job.objects) (side_rows job e part) row i)
  where
    by : In row (bounds_of job e 0 job.objects) ⊎ In row (side_rows job e part) → In row (system job e path)
    by (inl j) = In-append_left (bounds_of job e 0 job.objects) (side_rows job e path) row j
    by (inr j) =
        let s = side_of_row job e part row j in
        let k = In-from_contains path (Choices.Side s.0 s.1) (is (Choices.Side s.0 s.1) (Contains-from_in part (Choices.Side s.0 s.1) s.2)) in
        In-append_right (bounds_of job e 0 job.objects) (side_rows job e path) row (subst (λ r. In r (side_rows job e path)) (sym s.3) (row_in job e path s.0 s.1 k))

pub contradiction_on_part : (job : Job) (e : ℕ) (part path : List Choice) (mults : List Mult) → IsPart part path → Contradiction (system job e part) mults → (f : ℕ → ℕ) × Contradiction (system job e path) (map (move f) mults)
contradiction_on_part job e part path mults is c = contradicts_among (system job e part) (system job e path) mults (rows_among job e part path is) c

-- ---- trees
part_also : (part path : List Choice) (choice : Choice) → IsPart part path → IsPart (also part choice) (also path choice)
part_also part path choice is c h = by (Contains-push_cases part choice c h)
  where
    by : Contains part c ⊎ (choice ≡ c) → Contains (also path choice) c
    by (inl k) = Contains-append_left path (choice ∷ []) c (is c k)
    by (inr same) = subst (Contains (also path choice)) same (Contains-push path choice)

zip_append : (ps qs todo more : List (List Choice)) → AllZip IsPart ps qs → AllZip IsPart todo more → AllZip IsPart (ps ++ todo) (qs ++ more)
zip_append [] [] todo more a b = b
zip_append [] (q ∷ qs) todo more a b = absurd a
zip_append (p ∷ ps) [] todo more a b = absurd a
zip_append (p ∷ ps) (q ∷ qs) todo more a b = (a.0, zip_append ps qs todo more a.1 b)

each_side : (part path : List Choice) (contact : Contact) → IsPart part path → (dirs : List Dir) → AllZip IsPart (map (λ dir. also part (Choices.Side contact dir)) dirs) (map (λ dir. also path (Choices.Side contact dir)) dirs)
each_side part path contact is [] = tt
each_side part path contact is (d ∷ dirs) = (part_also part path (Choices.Side contact d) is, each_side part path contact is dirs)

zip_cycle : (part path : List Choice) → IsPart part path → (xs ys : List ℕ) → AllZip (λ a b. Contains part (Choices.Before a b)) xs ys → AllZip (λ a b. Contains path (Choices.Before a b)) xs ys
zip_cycle part path is [] [] z = tt
zip_cycle part path is [] (y ∷ ys) z = absurd z
zip_cycle part path is (x ∷ xs) [] z = absurd z
zip_cycle part path is (x ∷ xs) (y ∷ ys) z = (is (Choices.Before x y) z.0, zip_cycle part path is xs ys z.1)

record Serves (job : Job) (e : ℕ) (path : List Choice) (old : Node) (parts : List (List Choice)) : Type 0 where
  node : Node
  same : IsRenumbered old node
  paths : List (List Choice)
  sound : IsSoundNode job e path node
  closed : IsClosed node
  children : AreChildren job path node paths
  longer : AllZip IsPart parts paths

serves : (job : Job) (e : ℕ) (part path : List Choice) (node : Node) (parts : List (List Choice)) → IsPart part path → IsSoundNode job e part node → IsClosed node → AreChildren job part node parts → Serves job e path node parts
serves job e part path (Nodes.Bound mults) parts is sound closed children =
    let c = contradiction_on_part job e part path mults is sound in
    record { node = Nodes.Bound (map (move c.0) mults); same = (c.0, refl); paths = []; sound = c.1; closed = tt; children = refl; longer = subst (λ ps. AllZip IsPart ps []) (sym children) tt }
serves job e part path (Nodes.Cycle objects) parts is sound closed children =
    record { node = Nodes.Cycle objects; same = refl; paths = []; sound = (sound.0, zip_cycle part path is objects _ sound.1); closed = tt; children = refl; longer = subst (λ ps. AllZip IsPart ps []) (sym children) tt }
serves job e part path (Nodes.Order i j) parts is sound closed children =
    record {
      node = Nodes.Order i j;
      same = refl;
      paths = also path (Choices.Before i j) ∷ also path (Choices.Before j i) ∷ [];
      sound = sound;
      closed = tt;
      children = refl;
      longer = subst (λ ps. AllZip IsPart ps (also path (Choices.Before i j) ∷ also path (Choices.Before j i) ∷ [])) (sym children) (part_also part path (Choices.Before i j) is, (part_also part path (Choices.Before j i) is, tt));
    }
serves job e part path (Nodes.Side contact count) parts is sound closed children =
    record {
      node = Nodes.Side contact count;
      same = refl;
      paths = map (λ dir. also path (Choices.Side contact dir)) children.0;
      sound = (sound.0, is (Choices.Before contact.i contact.j) sound.1);
      closed = tt;
      children = (children.0, children.1, children.2, refl);
      longer = subst (λ ps. AllZip IsPart ps (map (λ dir. also path (Choices.Side contact dir)) children.0)) (sym children.3) (each_side part path contact is children.0);
    }
serves job e part path Nodes.Pending parts is sound closed children = absurd closed

abbrev Good : Job → ℕ → List Choice → Node → Type 0
Good job e path node = IsSoundNode job e path node × IsClosed node

paste : (job : Job) (e : ℕ) (nodes : List Node) (todo more : List (List Choice)) → AllZip IsPart todo more → Reads job (Good job e) todo nodes []
    → (others : List Node) × Reads job (Good job e) more others [] × AllZip IsRenumbered nodes others
paste job e [] todo more z r = ([], none todo more z r, tt)
  where
    none : (todo more : List (List Choice)) → AllZip IsPart todo more → todo ≡ [] → more ≡ []
    none [] [] z r = refl
    none [] (q ∷ more) z r = absurd z
    none (p ∷ todo) more z r = absurd (omega (arith, ap length r))
paste job e (node ∷ nodes) [] more z r = absurd r
paste job e (node ∷ nodes) (p ∷ todo) [] z r = absurd z
paste job e (node ∷ nodes) (p ∷ todo) (q ∷ more) z r =
    let s = serves job e p q node r.1 z.0 r.0.0 r.0.1 r.2 in
    let rest = paste job e nodes (r.1 ++ todo) (s.paths ++ more) (zip_append r.1 s.paths todo more s.longer z.1) r.3 in
    (s.node ∷ rest.0, ((s.sound, s.closed), s.paths, s.children, rest.1), (s.same, rest.2))

pub pasted : (job : Job) (e : ℕ) (part path : List Choice) (nodes : List Node) → IsPart part path → Refutes job e part nodes → (others : List Node) × Refutes job e path others × AllZip IsRenumbered nodes others
pasted job e part path nodes is r = paste job e nodes (part ∷ []) (path ∷ []) (is, tt) r
