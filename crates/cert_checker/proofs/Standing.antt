-- Where the walk stands, and what each of its turns does.
use Rattle.std.proofs.Common.{◌≡◌, ℕ, ◌+◌, ◌≤◌, ◌<◌, List, [], ◌∷◌, ◌++◌, ◌⊎◌, inl, inr, length, reverse, take, refl, sym, ap, subst, ◌∙◌, arith}
use Rattle.std.proofs.lemmas.List.{reverse-append}
use Rattle.std.proofs.Math.Nat.{eq-or-lt_of_le}
use Rattle.seq_model.specs.Trees.{Reads, Refutes}
use Rattle.seq_model.specs.declared.job.Job.{Job}
use Rattle.seq_model.specs.declared.tree.Choice.{Choice}
use Rattle.seq_model.specs.declared.tree.Node.{Node}
use Rattle.cert_checker.specs.Judged.{IsFineBy}
use Rattle.cert_checker.specs.Kept.{node_at, range_of}
use Rattle.cert_checker.proofs.Ranges.{opened, range_empty}
use Rattle.cert_checker.specs.Rules.{Breaks, Good, IsFirstBroken}
use Rattle.cert_checker.specs.Waits.{also_each, waiting, AreNested}
use Rattle.cert_checker.proofs.Steps.{one_more, all_read, more_follow, first_broken}
use Rattle.cert_checker.specs.Wholes.{AreWhole}
use Rattle.cert_checker.specs.declared.frames.Frame.{Frame}
use Rattle.cert_checker.specs.declared.rules.Rule.{Rule}

-- node `number` is to be judged next, at this path
pub record Standing (job : Job) (e : ℕ) (table : List Choice) (nodes : List Node) (number : ℕ) (path : List Choice) (frames : List Frame) : Type 0 where
  pub reads : Reads job (Good job e) ([] ∷ []) (take number nodes) (path ∷ waiting table path (reverse frames))
  pub nested : AreNested table (length path) (reverse frames)
  pub path_len : length path ≤ number
  pub frames_len : length frames ≤ number

-- it is judged, its split is open, and the next path isn't taken yet
pub record Judging (job : Job) (e : ℕ) (table : List Choice) (nodes : List Node) (number : ℕ) (path : List Choice) (frames : List Frame) : Type 0 where
  pub reads : Reads job (Good job e) ([] ∷ []) (take (number + 1) nodes) (waiting table path (reverse frames))
  pub nested : AreNested table (length path) (reverse frames)

pub starts : (job : Job) (e : ℕ) (table : List Choice) (nodes : List Node) (path : List Choice) (frames : List Frame) → path ≡ [] → frames ≡ [] → Standing job e table nodes 0 path frames
starts job e table nodes path frames p f =
    subst (λ q. Standing job e table nodes 0 q frames) (sym p) (subst (λ g. Standing job e table nodes 0 [] g) (sym f)
    (record { reads = refl; nested = tt; path_len = omega arith; frames_len = omega arith }))

turned : (left all : List Frame) (f : Frame) → all ≡ left ++ f ∷ [] → reverse all ≡ f ∷ reverse left
turned left all f e = ap reverse e ∙ reverse-append left (f ∷ [])

pub judged : (job : Job) (e : ℕ) (table : List Choice) (nodes : List Node) (number : ℕ) (path : List Choice) (frames now : List Frame) (from to : ℕ)
    → number < length nodes → Standing job e table nodes number path frames → IsFineBy job e table path (node_at nodes number) from to
    → (from < to → now ≡ frames ++ record { depth = length path; next = from; end = to } ∷ []) → (to ≤ from → now ≡ frames) → Judging job e table nodes number path now
judged job e table nodes number path frames now from to within s fine some none = by (eq-or-lt_of_le fine.rising)
  where
    read : Reads job (Good job e) ([] ∷ []) (take (number + 1) nodes) (also_each path (range_of table from to) ++ waiting table path (reverse frames))
    read = one_more job e nodes number _ path (waiting table path (reverse frames)) (range_of table from to) within s.reads fine.good fine.choices

    by : ((from ≡ to) ⊎ (from < to)) → Judging job e table nodes number path now
    by (inl same) =
        let is : now ≡ frames = none (omega (arith, same)) in
        subst (Judging job e table nodes number path) (sym is)
        (record { reads = subst (λ r. Reads job (Good job e) ([] ∷ []) (take (number + 1) nodes) (also_each path r ++ waiting table path (reverse frames))) (range_empty table from to (omega (arith, same))) read; nested = s.nested })
    by (inr less) =
        let f : Frame = record { depth = length path; next = from; end = to } in
        let is : reverse now ≡ f ∷ reverse frames = turned frames now f (some less) in
        record {
          reads = subst (Reads job (Good job e) ([] ∷ []) (take (number + 1) nodes)) (sym (opened table path from to (reverse frames)) ∙ ap (waiting table path) (sym is)) read;
          nested = subst (AreNested table (length path)) (sym is) (omega arith, less, fine.within, s.nested);
        }

pub goes_on : (job : Job) (e : ℕ) (table : List Choice) (nodes : List Node) (number : ℕ) (path now : List Choice) (frames left : List Frame) → Judging job e table nodes number path frames
    → waiting table path (reverse frames) ≡ now ∷ waiting table now (reverse left) → AreNested table (length now) (reverse left) → length now ≤ number + 1 → length left ≤ number + 1
    → Standing job e table nodes (number + 1) now left
goes_on job e table nodes number path now frames left j waits nested p f = record {
  reads = subst (Reads job (Good job e) ([] ∷ []) (take (number + 1) nodes)) waits j.reads;
  nested = nested;
  path_len = p;
  frames_len = f;
}

pub ends : (job : Job) (e : ℕ) (table : List Choice) (nodes : List Node) (number : ℕ) (path : List Choice) (frames : List Frame) → AreWhole nodes → Judging job e table nodes number path frames
    → waiting table path (reverse frames) ≡ [] → Refutes job e [] nodes
ends job e table nodes number path frames whole j none = all_read job e nodes (number + 1) whole (subst (Reads job (Good job e) ([] ∷ []) (take (number + 1) nodes)) none j.reads)

pub never_over : (job : Job) (e : ℕ) (table : List Choice) (nodes : List Node) (number : ℕ) (path : List Choice) (frames : List Frame) → AreWhole nodes → Standing job e table nodes number path frames
    → length nodes ≤ number → ⊥
never_over job e table nodes number path frames whole s over = let more = more_follow job e nodes number path (waiting table path (reverse frames)) whole s.reads in omega (arith, more, over)

pub breaks : (job : Job) (e : ℕ) (table : List Choice) (nodes : List Node) (number : ℕ) (path : List Choice) (frames : List Frame) (rule : Rule) → number < length nodes
    → Standing job e table nodes number path frames → Breaks job e path (node_at nodes number) rule → IsFirstBroken job e nodes number rule
breaks job e table nodes number path frames rule within s b = first_broken job e nodes number _ path (waiting table path (reverse frames)) rule within s.reads b

-- ---- the same with what the calls of a turn answered
pub turn : (job : Job) (e : ℕ) (table : List Choice) (nodes : List Node) (number : ℕ) (path at : List Choice) (frames now : List Frame) (depth from to : ℕ)
    → at ≡ path → depth ≡ length path → number < length nodes → Standing job e table nodes number path frames → IsFineBy job e table at (node_at nodes number) from to
    → (from < to → now ≡ frames ++ record { depth = depth; next = from; end = to } ∷ []) → (to ≤ from → now ≡ frames) → Judging job e table nodes number path now
turn job e table nodes number path at frames now depth from to a d within s fine some none =
    judged job e table nodes number path frames now from to within s (subst (λ p. IsFineBy job e table p (node_at nodes number) from to) a fine)
    (λ less. some less ∙ ap (λ k. frames ++ record { depth = k; next = from; end = to } ∷ []) d) none

pub turn_on : (job : Job) (e : ℕ) (table choices : List Choice) (nodes : List Node) (number : ℕ) (path now : List Choice) (frames left : List Frame) → choices ≡ table → Judging job e table nodes number path frames
    → waiting choices path (reverse frames) ≡ now ∷ waiting choices now (reverse left) → AreNested choices (length now) (reverse left) → length now ≤ number + 1 → length left ≤ number + 1
    → Standing job e table nodes (number + 1) now left
turn_on job e table choices nodes number path now frames left c j waits nested p f =
    goes_on job e table nodes number path now frames left j (subst (λ t. waiting t path (reverse frames) ≡ now ∷ waiting t now (reverse left)) c waits) (subst (λ t. AreNested t (length now) (reverse left)) c nested) p f

pub turn_ends : (job : Job) (e : ℕ) (table choices : List Choice) (nodes : List Node) (number : ℕ) (path : List Choice) (frames : List Frame) → choices ≡ table → AreWhole nodes → Judging job e table nodes number path frames
    → waiting choices path (reverse frames) ≡ [] → Refutes job e [] nodes
turn_ends job e table choices nodes number path frames c whole j none = ends job e table nodes number path frames whole j (subst (λ t. waiting t path (reverse frames) ≡ []) c none)

pub turn_breaks : (job : Job) (e : ℕ) (table : List Choice) (nodes : List Node) (number : ℕ) (path at : List Choice) (frames : List Frame) (rule : Rule) → at ≡ path → number < length nodes
    → Standing job e table nodes number path frames → Breaks job e at (node_at nodes number) rule → IsFirstBroken job e nodes number rule
turn_breaks job e table nodes number path at frames rule a within s b = breaks job e table nodes number path frames rule within s (subst (λ p. Breaks job e p (node_at nodes number) rule) a b)
