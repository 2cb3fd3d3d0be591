-- What taking the next path and opening a split do to the paths that are to come.
use Rattle.std.proofs.Common.{◌≡◌, ℕ, suc, ◌+◌, ◌-◌, ◌≤◌, ◌<◌, List, [], ◌∷◌, ◌++◌, length, reverse, take, drop, get_or, refl, sym, ap, subst, ◌∙◌, arith, length-append}
use Rattle.std.proofs.lemmas.List.{take-append-le, take-take, take_all, length-take-le, drop_more, reverse-append}
use Rattle.seq_model.specs.declared.tree.Choice.{Choice}
use Rattle.cert_checker.specs.Waits.{also_each, waiting, AreNested}
use Rattle.cert_checker.specs.Kept.{range_of}
use Rattle.cert_checker.specs.declared.frames.Frame.{Frame}

pub range_first : (table : List Choice) (from to : ℕ) (d : Choice) → from < to → to ≤ length table → range_of table from to ≡ get_or table from d ∷ range_of table (from + 1) to
range_first table from to d some within =
    let many : to - from ≡ suc (to - (from + 1)) = omega arith in
    ap (λ l. take (to - from) l) (drop_more table from d (omega arith)) ∙ ap (λ n. take n (get_or table from d ∷ drop (from + 1) table)) many

pub range_empty : (table : List Choice) (from to : ℕ) → to ≤ from → range_of table from to ≡ []
range_empty table from to none =
    let many : to - from ≡ 0 = omega arith in
    ap (λ n. take n (drop from table)) many

nested_weaker : (table : List Choice) (a b : ℕ) (frames : List Frame) → a ≤ b → AreNested table a frames → AreNested table b frames
nested_weaker table a b [] h n = tt
nested_weaker table a b (f ∷ frames) h n = (omega (arith, h, n.0), n.1, n.2, n.3)

same_paths : (table path more : List Choice) (d : ℕ) (frames : List Frame) → d ≤ length path → AreNested table d frames → waiting table path frames ≡ waiting table (take d path ++ more) frames
same_paths table path more d [] h n = refl
same_paths table path more d (f ∷ frames) h n =
    let front : take f.depth (take d path ++ more) ≡ take f.depth path = take-append-le f.depth (take d path) more (omega (arith, n.0, length-take-le d path h)) ∙ take-take f.depth d path n.0 in
    ap (λ p. also_each p (range_of table f.next f.end) ++ waiting table path frames) (sym front)
    ∙ ap (λ w. also_each (take f.depth (take d path ++ more)) (range_of table f.next f.end) ++ w) (same_paths table path more d frames h (nested_weaker table f.depth d frames n.0 n.3))

-- the first path that is to come is taken, and the split that it stands below has one child less to come
pub record Advanced (table path now : List Choice) (f : Frame) (left frames : List Frame) : Type 0 where
  pub nested : AreNested table (length now) frames
  pub waits : waiting table path (f ∷ left) ≡ now ∷ waiting table now frames

pub took : (table path now : List Choice) (f : Frame) (left : List Frame) (d : Choice) → AreNested table (length path) (f ∷ left) → now ≡ take f.depth path ++ get_or table f.next d ∷ []
    → waiting table path (f ∷ left) ≡ now ∷ (also_each (take f.depth path) (range_of table (f.next + 1) f.end) ++ waiting table now left)
took table path now f left d n new =
    ap (λ r. also_each (take f.depth path) r ++ waiting table path left) (range_first table f.next f.end d n.1 n.2)
    ∙ ap (λ w. (take f.depth path ++ get_or table f.next d ∷ []) ∷ (also_each (take f.depth path) (range_of table (f.next + 1) f.end) ++ w))
    (same_paths table path (get_or table f.next d ∷ []) f.depth left n.0 n.3)
    ∙ ap (λ p. p ∷ (also_each (take f.depth path) (range_of table (f.next + 1) f.end) ++ waiting table p left)) (sym new)

long : (path now : List Choice) (k : ℕ) (x : Choice) → k ≤ length path → now ≡ take k path ++ x ∷ [] → length now ≡ k + 1
long path now k x h new = omega (arith, ap length new, length-append (take k path) (x ∷ []), length-take-le k path h)

-- the last child of the split
pub advanced_last : (table path now : List Choice) (f : Frame) (left : List Frame) (d : Choice) → AreNested table (length path) (f ∷ left) → now ≡ take f.depth path ++ get_or table f.next d ∷ []
    → f.end ≤ f.next + 1 → Advanced table path now f left left
advanced_last table path now f left d n new last = record {
  nested = nested_weaker table f.depth (length now) left (omega (arith, long path now f.depth (get_or table f.next d) n.0 new)) n.3;
  waits = took table path now f left d n new ∙ ap (λ r. now ∷ (also_each (take f.depth path) r ++ waiting table now left)) (range_empty table (f.next + 1) f.end last);
}

-- a child that others follow
pub advanced_more : (table path now : List Choice) (f : Frame) (left : List Frame) (d : Choice) → AreNested table (length path) (f ∷ left) → now ≡ take f.depth path ++ get_or table f.next d ∷ []
    → f.next + 1 < f.end → Advanced table path now f left (record { depth = f.depth; next = f.next + 1; end = f.end } ∷ left)
advanced_more table path now f left d n new more =
    let len = long path now f.depth (get_or table f.next d) n.0 new in
    let front : take f.depth now ≡ take f.depth path = ap (take f.depth) new ∙ take-append-le f.depth (take f.depth path) (get_or table f.next d ∷ []) (omega (arith, length-take-le f.depth path n.0)) ∙ take-take f.depth f.depth path (omega arith) in
    record {
      nested = (omega (arith, len), more, n.2, n.3);
      waits = took table path now f left d n new ∙ ap (λ p. now ∷ (also_each p (range_of table (f.next + 1) f.end) ++ waiting table now left)) (sym front);
    }

-- a split is opened at the end of the path
pub opened : (table path : List Choice) (from to : ℕ) (frames : List Frame)
    → waiting table path (record { depth = length path; next = from; end = to } ∷ frames) ≡ also_each path (range_of table from to) ++ waiting table path frames
opened table path from to frames = ap (λ p. also_each p (range_of table from to) ++ waiting table path frames) (take_all (length path) path (omega arith))

-- the same of lists whose last member is the deepest split, with each step of the code as an equation
pub record Goes (table path now : List Choice) (old new : List Frame) : Type 0 where
  pub nested : AreNested table (length now) (reverse new)
  pub waits : waiting table path (reverse old) ≡ now ∷ waiting table now (reverse new)

goes_by : (table path now : List Choice) (f : Frame) (left frames old new : List Frame) → reverse old ≡ f ∷ left → reverse new ≡ frames → Advanced table path now f left frames → Goes table path now old new
goes_by table path now f left frames old new o n a = record {
  nested = subst (AreNested table (length now)) (sym n) a.nested;
  waits = ap (waiting table path) o ∙ a.waits ∙ ap (λ w. now ∷ waiting table now w) (sym n);
}

turned : (left all : List Frame) (f : Frame) → all ≡ left ++ f ∷ [] → reverse all ≡ f ∷ reverse left
turned left all f e = ap reverse e ∙ reverse-append left (f ∷ [])

pub goes_more : (table path cut now : List Choice) (old left new : List Frame) (f : Frame) (d : Choice) → old ≡ left ++ f ∷ [] → cut ≡ take f.depth path → now ≡ cut ++ get_or table f.next d ∷ []
    → AreNested table (length path) (reverse old) → f.next + 1 < f.end → new ≡ left ++ record { depth = f.depth; next = f.next + 1; end = f.end } ∷ [] → Goes table path now old new
goes_more table path cut now old left new f d o cuts nows nested more news =
    goes_by table path now f (reverse left) _ old new (turned left old f o) (turned left new _ news)
    (advanced_more table path now f (reverse left) d (subst (AreNested table (length path)) (turned left old f o) nested) (nows ∙ ap (λ t. t ++ get_or table f.next d ∷ []) cuts) more)

pub goes_last : (table path cut now : List Choice) (old left : List Frame) (f : Frame) (d : Choice) → old ≡ left ++ f ∷ [] → cut ≡ take f.depth path → now ≡ cut ++ get_or table f.next d ∷ []
    → AreNested table (length path) (reverse old) → f.end ≤ f.next + 1 → Goes table path now old left
goes_last table path cut now old left f d o cuts nows nested last =
    goes_by table path now f (reverse left) (reverse left) old left (turned left old f o) refl
    (advanced_last table path now f (reverse left) d (subst (AreNested table (length path)) (turned left old f o) nested) (nows ∙ ap (λ t. t ++ get_or table f.next d ∷ []) cuts) last)

pub nested_within : (table : List Choice) (d : ℕ) (old left : List Frame) (f : Frame) → old ≡ left ++ f ∷ [] → AreNested table d (reverse old) → f.next < length table
nested_within table d old left f o nested = let n = subst (AreNested table d) (turned left old f o) nested in omega (arith, n.1, n.2)
