-- Steps of the reading of a tree's lines.
use Rattle.std.proofs.Common.{◌≡◌, ℕ, ◌+◌, ◌≤◌, ◌<◌, ◌^◌, List, [], ◌∷◌, ◌++◌, inl, inr, length, reverse, replicate, Ok, refl, sym, ap, subst, ◌∙◌, arith, All, true, false, ◌⊎◌, Err}
use Rattle.std.proofs.lemmas.List.{reverse-append}
use Rattle.std.proofs.lemmas.List.Elements.{All-head, All-tail}
use Rattle.seq_model.specs.declared.tree.Node.{Node}
use Rattle.seq_model.specs.Trees.{arity, Fills}
use Rattle.cert_text.specs.Nodes.{Line, most_deep, LinesRead, AreTree, StopsHere, IsRefusedAt}
use Rattle.cert_text.specs.declared.lines.Stop.{Stop}
use Rattle.text_lines.specs.Reading.{has_line_end}
use Rattle.cert_text.specs.declared.nodes.Opening.{Opening}
use Rattle.cert_text.specs.declared.nodes.Fault.{Fault}
use Rattle.cert_text.specs.declared.nodes.Fault.TheVariants as faults

-- the depths of the children that are to come of some open splits, the deepest first
abbrev pub due : List Opening → List ℕ
due [] = []
due (o ∷ openings) = replicate o.left o.depth ++ due openings

-- the line of a fault is one that a vector can count
abbrev pub IsNearFault : Fault → Type 0
IsNearFault (faults.Stopped k stop) = k < 2 ^ 63
IsNearFault (faults.Deep k) = k < 2 ^ 63
IsNearFault (faults.After k) = k < 2 ^ 63
IsNearFault faults.Unended = Unit {0}
IsNearFault faults.NoMemory = Unit {0}

pub fills_more : (most : ℕ) (nodes : List Node) (node : Node) (todo left : List ℕ) (d : ℕ) → Fills most todo nodes (d ∷ left) → d ≤ most → Fills most todo (nodes ++ node ∷ []) (replicate (arity node) (d + 1) ++ left)
fills_more most [] node todo left d f h = subst (λ t. Fills most t (node ∷ []) (replicate (arity node) (d + 1) ++ left)) (sym f) (h, refl)
fills_more most (n ∷ nodes) node [] left d f h = absurd f
fills_more most (n ∷ nodes) node (e ∷ todo) left d f h = (f.0, fills_more most nodes node (replicate (arity n) (e + 1) ++ todo) left d f.1 h)

pub lines_more : (line : Line) (bytes : List ℕ) (nodes : List Node) (node : Node) (rest after : List ℕ) → LinesRead line bytes nodes rest → line rest ≡ Ok (node, after) → LinesRead line bytes (nodes ++ node ∷ []) after
lines_more line bytes [] node rest after l e = (after, subst (λ b. line b ≡ Ok (node, after)) (sym l) e, refl)
lines_more line bytes (n ∷ nodes) node rest after l e = (l.0, l.1, lines_more line l.0 nodes node rest after l.2 e)

-- ---- the first refusal is the only answer
same_line : (line : Line) (bytes a b : List ℕ) (m n : Node) → line bytes ≡ Ok (m, a) → line bytes ≡ Ok (n, b) → (m ≡ n) × (a ≡ b)
same_line line bytes a b m n e f =
    let both : (m, a) ≡ (n, b) = cc (sym e ∙ f) in
    (ap (λ (p : Node × List ℕ). p.0) both, ap (λ (p : Node × List ℕ). p.1) both)

never_stops : (line : Line) (nodes more : List Node) (bytes rest end todo left : List ℕ) (k : ℕ) (fault : Fault) (start : List ℕ)
    → LinesRead line bytes nodes rest → Fills most_deep start nodes todo → StopsHere line todo rest k fault → LinesRead line bytes more [] → Fills most_deep start more [] → ⊥
never_stops line [] [] bytes rest end [] left k fault start l f s m g = absurd (omega (arith, s.0, ap length (sym l ∙ m)))
never_stops line [] [] bytes rest end (d ∷ todo) left k fault start l f s m g = absurd (omega (arith, ap length (sym f ∙ g)))
never_stops line [] (n ∷ more) bytes rest end [] left k fault start l f s m g = absurd (subst (λ t. Fills most_deep t (n ∷ more) []) f g)
never_stops line [] (n ∷ more) bytes rest end (d ∷ todo) left k fault start l f (inl s) m g = absurd (cc (sym (subst (λ b. line b ≡ Ok (n, m.0)) l m.1) ∙ s.1))
never_stops line [] (n ∷ more) bytes rest end (d ∷ todo) left k fault start l f (inr s) m g =
    let h = subst (λ t. Fills most_deep t (n ∷ more) []) f g in
    absurd (omega (arith, h.0, s.3))
never_stops line (n ∷ nodes) more bytes rest end todo left k fault [] l f s m g = absurd f
never_stops line (n ∷ nodes) [] bytes rest end todo left k fault (d ∷ start) l f s m g = absurd (omega (arith, ap length g))
never_stops line (n ∷ nodes) (o ∷ more) bytes rest end todo left k fault (d ∷ start) l f s m g =
    let same = same_line line bytes m.0 l.0 o n m.1 l.1 in
    never_stops line nodes more l.0 rest end todo left k fault (replicate (arity n) (d + 1) ++ start) l.2 f.1 s
    (subst (λ b. LinesRead line b more []) same.1 m.2)
    (subst (λ w. Fills most_deep (replicate (arity w) (d + 1) ++ start) more []) same.0 g.1)

pub refused_or_read : (line : Line) (bytes : List ℕ) (fault : Fault) (nodes : List Node) → IsRefusedAt line bytes fault → AreTree line bytes nodes → ⊥
refused_or_read line bytes fault nodes r t = never_stops line r.nodes nodes bytes r.rest [] r.todo [] (length r.nodes) fault (0 ∷ []) r.lines r.fills r.stops t.lines t.whole

-- ---- the openings
pub turned : (left all : List Opening) (o : Opening) → all ≡ left ++ o ∷ [] → reverse all ≡ o ∷ reverse left
turned left all o e = ap reverse e ∙ reverse-append left (o ∷ [])

-- where the reading stands before line number `length nodes`
pub record Reading (line : Line) (bytes : List ℕ) (nodes : List Node) (rest : List ℕ) (openings : List Opening) : Type 0 where
  pub lines : LinesRead line bytes nodes rest
  pub fills : Fills most_deep (0 ∷ []) nodes (due (reverse openings))

-- ---- the same by what the calls of a turn say of the openings
pub record IsOpening (o : Opening) : Type 0 where
  pub some : 1 ≤ o.left
  pub depth : o.depth ≤ 1_000_001

pub taken_last : (all left : List Opening) (o : Opening) → all ≡ left ++ o ∷ [] → o.left ≡ 1 → due (reverse all) ≡ o.depth ∷ due (reverse left)
taken_last all left o e one = ap due (turned left all o e) ∙ ap (λ n. replicate n o.depth ++ due (reverse left)) one

pub turn : (line : Line) (bytes : List ℕ) (nodes now : List Node) (node : Node) (rest after : List ℕ) (d e count : ℕ) (all left more : List Opening) → Reading line bytes nodes rest all → due (reverse all) ≡ d ∷ due (reverse left)
    → line rest ≡ Ok (node, after) → d ≤ most_deep → count ≡ arity node → e ≡ d + 1 → due (reverse more) ≡ replicate count e ++ due (reverse left) → now ≡ nodes ++ node ∷ [] → Reading line bytes now after more
turn line bytes nodes now node rest after d e count all left more r took read h many below opens is = subst (λ t. Reading line bytes t after more) (sym is) (record {
  lines = lines_more line bytes nodes node rest after r.lines read;
  fills = subst (Fills most_deep (0 ∷ []) (nodes ++ node ∷ []))
      (ap (λ k. replicate k (d + 1) ++ due (reverse left)) (sym many) ∙ ap (λ k. replicate count k ++ due (reverse left)) (sym below) ∙ sym opens)
      (fills_more most_deep nodes node (0 ∷ []) (due (reverse left)) d (subst (Fills most_deep (0 ∷ []) nodes) took r.fills) h);
})

-- ---- bytes are the lines of one tree at most
same_trees : (line : Line) (nodes more : List Node) (bytes start : List ℕ) → LinesRead line bytes nodes [] → Fills most_deep start nodes [] → LinesRead line bytes more [] → Fills most_deep start more [] → nodes ≡ more
same_trees line [] [] bytes start l f m g = refl
same_trees line [] (n ∷ more) bytes start l f m g = absurd (subst (λ t. Fills most_deep t (n ∷ more) []) f g)
same_trees line (n ∷ nodes) [] bytes start l f m g = absurd (subst (λ t. Fills most_deep t (n ∷ nodes) []) g f)
same_trees line (n ∷ nodes) (o ∷ more) bytes [] l f m g = absurd f
same_trees line (n ∷ nodes) (o ∷ more) bytes (d ∷ start) l f m g =
    let same = same_line line bytes m.0 l.0 o n m.1 l.1 in
    ap (λ t. n ∷ t) (same_trees line nodes more l.0 (replicate (arity n) (d + 1) ++ start) l.2 f.1 (subst (λ b. LinesRead line b more []) same.1 m.2) (subst (λ w. Fills most_deep (replicate (arity w) (d + 1) ++ start) more []) same.0 g.1))
    ∙ ap (λ h. h ∷ more) (sym same.0)

pub one_tree : (line : Line) (bytes : List ℕ) (nodes more : List Node) → AreTree line bytes nodes → AreTree line bytes more → nodes ≡ more
one_tree line bytes nodes more a b = same_trees line nodes more bytes (0 ∷ []) a.lines a.whole b.lines b.whole

last_of : (left : List Opening) (o : Opening) → All IsOpening (left ++ o ∷ []) → IsOpening o
last_of [] o h = All-head IsOpening o [] h
last_of (x ∷ left) o h = last_of left o (All-tail IsOpening x (left ++ o ∷ []) h)

pub taken_one : (all left : List Opening) (o : Opening) → all ≡ left ++ o ∷ [] → All IsOpening all → o.left ≤ 1 → due (reverse all) ≡ o.depth ∷ due (reverse left)
taken_one all left o e h few = let some = (last_of left o (subst (All IsOpening) e h)).some in taken_last all left o e (omega (arith, some, few))

-- ---- bytes are refused in one way at most
one_end : (rest : List ℕ) (k : ℕ) (f g : Fault) → ((has_line_end rest ≡ true) × (f ≡ faults.After k)) ⊎ ((has_line_end rest ≡ false) × (f ≡ faults.Unended))
    → ((has_line_end rest ≡ true) × (g ≡ faults.After k)) ⊎ ((has_line_end rest ≡ false) × (g ≡ faults.Unended)) → f ≡ g
one_end rest k f g (inl s) (inl t) = s.1 ∙ sym t.1
one_end rest k f g (inl s) (inr t) = absurd (cc (sym s.0 ∙ t.0))
one_end rest k f g (inr s) (inl t) = absurd (cc (sym s.0 ∙ t.0))
one_end rest k f g (inr s) (inr t) = s.1 ∙ sym t.1

one_error : (line : Line) (rest : List ℕ) (a b : Stop) → line rest ≡ Err a → line rest ≡ Err b → a ≡ b
one_error line rest a b e f = cc (sym e ∙ f)

one_stop : (line : Line) (todo rest : List ℕ) (k : ℕ) (f g : Fault) → StopsHere line todo rest k f → StopsHere line todo rest k g → f ≡ g
one_stop line [] rest k f g s t = one_end rest k f g s.1 t.1
one_stop line (d ∷ todo) rest k f g (inl s) (inl t) = s.2 ∙ (ap (λ x. faults.Stopped k x) (one_error line rest s.0 t.0 s.1 t.1) ∙ sym t.2)
one_stop line (d ∷ todo) rest k f g (inl s) (inr t) = absurd (cc (sym s.1 ∙ t.2))
one_stop line (d ∷ todo) rest k f g (inr s) (inl t) = absurd (cc (sym t.1 ∙ s.2))
one_stop line (d ∷ todo) rest k f g (inr s) (inr t) = s.4 ∙ sym t.4

-- what stops here reads no further
goes_on : (line : Line) (start bytes after : List ℕ) (n : Node) (more : List Node) (left : List ℕ) (k : ℕ) (f : Fault)
    → StopsHere line start bytes k f → line bytes ≡ Ok (n, after) → Fills most_deep start (n ∷ more) left → ⊥
goes_on line [] bytes after n more left k f s e g = g
goes_on line (d ∷ start) bytes after n more left k f (inl s) e g = cc (sym s.1 ∙ e)
goes_on line (d ∷ start) bytes after n more left k f (inr s) e g = omega (arith, g.0, s.3)

same_stops : (line : Line) (nodes more : List Node) (bytes rest other start todo left : List ℕ) (c i j : ℕ) (f g : Fault)
    → LinesRead line bytes nodes rest → Fills most_deep start nodes todo → StopsHere line todo rest i f → i ≡ c + length nodes
    → LinesRead line bytes more other → Fills most_deep start more left → StopsHere line left other j g → j ≡ c + length more → f ≡ g
same_stops line [] [] bytes rest other start todo left c i j f g l h s n m k t o =
    one_stop line todo rest i f g s
    (subst (λ x. StopsHere line todo rest x g) (o ∙ sym n)
    (subst (λ b. StopsHere line todo b j g) (sym m ∙ l)
    (subst (λ x. StopsHere line x other j g) (sym k ∙ h) t)))
same_stops line [] (x ∷ more) bytes rest other start todo left c i j f g l h s n m k t o =
    absurd (goes_on line start bytes m.0 x more left i f (subst (λ b. StopsHere line start b i f) (sym l) (subst (λ d. StopsHere line d rest i f) (sym h) s)) m.1 k)
same_stops line (x ∷ nodes) [] bytes rest other start todo left c i j f g l h s n m k t o =
    absurd (goes_on line start bytes l.0 x nodes todo j g (subst (λ b. StopsHere line start b j g) (sym m) (subst (λ d. StopsHere line d other j g) (sym k) t)) l.1 h)
same_stops line (x ∷ nodes) (y ∷ more) bytes rest other [] todo left c i j f g l h s n m k t o = absurd h
same_stops line (x ∷ nodes) (y ∷ more) bytes rest other (d ∷ start) todo left c i j f g l h s n m k t o =
    let same = same_line line bytes m.0 l.0 y x m.1 l.1 in
    same_stops line nodes more l.0 rest other (replicate (arity x) (d + 1) ++ start) todo left (c + 1) i j f g l.2 h.1 s (omega (arith, n))
    (subst (λ b. LinesRead line b more other) same.1 m.2)
    (subst (λ w. Fills most_deep (replicate (arity w) (d + 1) ++ start) more left) same.0 k.1) t (omega (arith, o))

pub one_refusal : (line : Line) (bytes : List ℕ) (f g : Fault) → IsRefusedAt line bytes f → IsRefusedAt line bytes g → f ≡ g
one_refusal line bytes f g a b =
    same_stops line a.nodes b.nodes bytes a.rest b.rest (0 ∷ []) a.todo b.todo 0 (length a.nodes) (length b.nodes) f g a.lines a.fills a.stops (omega arith) b.lines b.fills b.stops (omega arith)
