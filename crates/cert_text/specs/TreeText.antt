-- The text of a tree block, as a definition on values.
--
--     certificate 1
--     excludes 45
--     order 0 1
--     bound 0:1 4:1
--     cycle 0 1
--
--   numbers_text sep ns   some numbers, each behind the separator, up to the end of the line
--   pairs_text ps         some pairs of a row and how often it is taken, up to the end of the line
--   node_text n           the line of the node n
--   nodes_text ns         the lines of some nodes
--   head_text h           the lines of the head h
--   tree_text h t         the text of a block: its one spelling
--   AreRising low ns      the numbers rise strictly, from above low on
--   IsBoundLine ps        1 to 33 pairs whose rows rise strictly, with no number below 0
--   IsSpelt n             the grammar spells the node n
--   IsSpeltHead h         the grammar spells the head h
--   IsTreeText bytes kind h t   the bytes are the text of a block of this kind, whose nodes are one whole tree, none with more than
--                         1,000,000 splits above it
use Rattle.std.specs.Prelude.{◌≡◌, ℕ, ℤ, pos, negsuc, ◌<◌, ◌≤◌, ◌^◌, ◌≤ℤ◌, ◌<ℤ◌, List, [], ◌∷◌, ◌++◌, length, map, All, Option, Some, None, codes}
use Rattle.seq_num.specs.Spelling.{spelling}
use Rattle.seq_model.specs.Trees.{IsWholeWithin}
use Rattle.seq_model.specs.declared.tree.Contact.{Contact}
use Rattle.seq_model.specs.declared.tree.Mult.{Mult}
use Rattle.seq_model.specs.declared.tree.Node.{Node}
use Rattle.seq_model.specs.declared.tree.Node.TheVariants as Nodes
use Rattle.seq_model.specs.declared.tree.Tree.{Tree}
use Rattle.seq_model.specs.declared.tree.WideNote.{WideNote}
use Rattle.cert_text.specs.declared.block.Head.{Head}
use Rattle.cert_text.specs.declared.block.Kind.{Kind}
use Rattle.cert_text.specs.declared.block.Kind.TheVariants.{Certificate, OpenBudget, OpenWide}
use Rattle.cert_text.specs.declared.pairs.Pair.{Pair}
use Rattle.seq_limits.specs.declared.TheConstants.{MOST_GRID, MOST_NODES, MOST_OBJECTS}

abbrev pub number_text : List ℕ → ℤ → List ℕ
number_text sep n = sep ++ spelling n

abbrev pub numbers_text : List ℕ → List ℤ → List ℕ
numbers_text sep [] = codes "\n"
numbers_text sep (n ∷ ns) = number_text sep n ++ numbers_text sep ns

abbrev pub pair_text : Pair → List ℕ
pair_text p = codes " " ++ (spelling p.row ++ (codes ":" ++ spelling p.times))

abbrev pub pairs_text : List Pair → List ℕ
pairs_text [] = codes "\n"
pairs_text (p ∷ ps) = pair_text p ++ pairs_text ps

abbrev pub pair_of : Mult → Pair
pair_of m = record { row = pos m.row; times = m.times }

-- the numbers of a side's line
abbrev pub side_numbers : Contact → ℕ → List ℤ
side_numbers c children = pos c.i ∷ pos c.zi ∷ pos c.part ∷ pos c.zj ∷ pos c.j ∷ pos children ∷ []

abbrev pub node_text : Node → List ℕ
node_text (Nodes.Order i j) = codes "order" ++ numbers_text (codes " ") (pos i ∷ pos j ∷ [])
node_text (Nodes.Side contact children) = codes "side" ++ numbers_text (codes " ") (side_numbers contact children)
node_text (Nodes.Bound mults) = codes "bound" ++ pairs_text (map pair_of mults)
node_text (Nodes.Cycle objects) = codes "cycle" ++ numbers_text (codes " ") (map pos objects)
node_text Nodes.Pending = codes "pending\n"

abbrev pub nodes_text : List Node → List ℕ
nodes_text [] = []
nodes_text (n ∷ ns) = node_text n ++ nodes_text ns

abbrev pub first_line : Kind → List ℕ
first_line Certificate = codes "certificate 1\n"
first_line OpenBudget = codes "opentree 1\n"
first_line OpenWide = codes "opentree 1\n"

abbrev pub extent_word : Kind → List ℕ
extent_word Certificate = codes "excludes "
extent_word OpenBudget = codes "tried "
extent_word OpenWide = codes "tried "

abbrev pub basis_text : List ℤ → List ℕ
basis_text [] = codes "\n"
basis_text (b ∷ bs) = spelling b ++ numbers_text (codes ",") bs

abbrev pub note_text : WideNote → List ℕ
note_text note = codes "wide " ++ (spelling (pos note.node) ++ (codes " " ++ (spelling (pos note.row) ++ (codes " " ++ basis_text (map pos note.basis)))))

abbrev pub wide_text : Option WideNote → List ℕ
wide_text None = []
wide_text (Some note) = note_text note

abbrev pub head_text : Head → List ℕ
head_text h = first_line h.kind ++ (extent_word h.kind ++ (spelling (pos h.extent) ++ (codes "\n" ++ wide_text h.wide)))

abbrev pub tree_text : Head → Tree → List ℕ
tree_text h t = head_text h ++ nodes_text t.nodes

abbrev pub AreRising : ℤ → List ℤ → Type 0
AreRising low [] = Unit {0}
AreRising low (n ∷ ns) = (low <ℤ n) × AreRising n ns

abbrev pub row_of : Pair → ℤ
row_of p = p.row

pub record IsBoundLine (pairs : List Pair) : Type 0 where
  pub some : 1 ≤ length pairs
  pub few : length pairs ≤ 33
  pub rising : AreRising (negsuc 0) (map row_of pairs)
  pub times : All (λ p. pos 0 ≤ℤ p.times) pairs

pub record IsSpeltMult (m : Mult) : Type 0 where
  pub row : m.row < 2 ^ 32
  pub times : m.times <ℤ pos (2 ^ 62)

pub record IsSpeltContact (c : Contact) : Type 0 where
  pub i : c.i < 2 ^ 32
  pub zi : c.zi < 2 ^ 32
  pub part : c.part < 2 ^ 32
  pub zj : c.zj < 2 ^ 32
  pub j : c.j < 2 ^ 32

abbrev pub IsSpelt : Node → Type 0
IsSpelt (Nodes.Order i j) = (i < 2 ^ 32) × (j < 2 ^ 32)
IsSpelt (Nodes.Side contact children) = IsSpeltContact contact × (1 ≤ children) × (children < 2 ^ 32)
IsSpelt (Nodes.Bound mults) = IsBoundLine (map pair_of mults) × All IsSpeltMult mults
IsSpelt (Nodes.Cycle objects) = (1 ≤ length objects) × (length objects ≤ MOST_OBJECTS) × All (λ k. k < 2 ^ 32) objects
IsSpelt Nodes.Pending = Unit {0}

pub record IsSpeltNote (note : WideNote) : Type 0 where
  pub node : note.node < 2 ^ 62
  pub row : note.row < 2 ^ 32
  pub some : 1 ≤ length note.basis
  pub rising : AreRising (negsuc 0) (map pos note.basis)
  pub basis : All (λ k. k < 2 ^ 32) note.basis

-- a wide note is there for an open tree that numbers too wide have ended, and for no other
abbrev pub HasNote : Kind → Option WideNote → Type 0
HasNote Certificate wide = wide ≡ None
HasNote OpenBudget wide = wide ≡ None
HasNote OpenWide None = ⊥
HasNote OpenWide (Some note) = IsSpeltNote note

pub record IsSpeltHead (h : Head) : Type 0 where
  pub extent_low : 1 ≤ h.extent
  pub extent_high : h.extent ≤ MOST_GRID
  pub wide : HasNote h.kind h.wide

pub record IsTreeText (bytes : List ℕ) (kind : Kind) (h : Head) (t : Tree) : Type 0 where
  pub kind_is : h.kind ≡ kind
  pub head : IsSpeltHead h
  pub nodes : All IsSpelt t.nodes
  pub whole : IsWholeWithin MOST_NODES t
  pub text : bytes ≡ tree_text h t
