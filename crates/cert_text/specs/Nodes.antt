-- What the reading of node lines answers, whatever a line is: `line` is the reader of one.
--
--   LinesRead line bytes nodes rest   the lines at the front are those of the nodes, and the bytes `rest` follow
--   AreTree line bytes nodes         the bytes are the lines of the nodes, and these are one whole tree, not too deep
--   StopsHere line todo rest k fault  why reading stops at line k, with these depths to come: nothing is to come and bytes follow; the
--                                     line is refused; or it is read, and its node is too deep
--   IsRefusedAt line bytes fault      the lines before are read, and there it stops
use Rattle.std.specs.Prelude.{◌≡◌, ℕ, ◌<◌, ◌≤◌, List, [], ◌∷◌, ◌⊎◌, length, true, false, Result, Ok, Err}
use Rattle.seq_model.specs.declared.tree.Node.{Node}
use Rattle.seq_model.specs.Trees.{Fills}
use Rattle.text_lines.specs.Reading.{has_line_end}
use Rattle.cert_text.specs.declared.lines.Stop.{Stop}
use Rattle.cert_text.specs.declared.nodes.Fault.{Fault}
use Rattle.cert_text.specs.declared.nodes.Fault.TheVariants as faults
use Rattle.seq_limits.specs.declared.TheConstants.{MOST_NODES}

abbrev pub Line : Type 0
Line = List ℕ → Result (Node × List ℕ) Stop

abbrev pub most_deep : ℕ
most_deep = MOST_NODES

abbrev pub LinesRead : Line → List ℕ → List Node → List ℕ → Type 0
LinesRead line bytes [] rest = bytes ≡ rest
LinesRead line bytes (node ∷ nodes) rest = (after : List ℕ) × (line bytes ≡ Ok (node, after)) × LinesRead line after nodes rest

pub record AreTree (line : Line) (bytes : List ℕ) (nodes : List Node) : Type 0 where
  pub lines : LinesRead line bytes nodes []
  pub whole : Fills most_deep (0 ∷ []) nodes []

abbrev pub StopsHere : Line → List ℕ → List ℕ → ℕ → Fault → Type 0
StopsHere line [] rest k fault =
    (1 ≤ length rest) × (((has_line_end rest ≡ true) × (fault ≡ faults.After k)) ⊎ ((has_line_end rest ≡ false) × (fault ≡ faults.Unended)))
StopsHere line (d ∷ todo) rest k fault =
    ((stop : Stop) × (line rest ≡ Err stop) × (fault ≡ faults.Stopped k stop))
    ⊎ ((node : Node) × (after : List ℕ) × (line rest ≡ Ok (node, after)) × (most_deep < d) × (fault ≡ faults.Deep k))

pub record IsRefusedAt (line : Line) (bytes : List ℕ) (fault : Fault) : Type 0 where
  pub nodes : List Node
  pub rest : List ℕ
  pub todo : List ℕ
  pub lines : LinesRead line bytes nodes rest
  pub fills : Fills most_deep (0 ∷ []) nodes todo
  pub stops : StopsHere line todo rest (length nodes) fault
