-- What stands on the line at the front of some bytes, and the bytes after that line.
--
--   number_at sep bytes        == a number behind a separator
--   numbers_at sep room bytes  == such numbers up to the end of the line, of which there is room for so many
--   pair_at, pairs_at room bytes   == the same of the pairs of a bound line
--   rises low ns               == whether the numbers rise strictly, from above low on
--   bound_at bytes             == the pairs of a bound line, behind its keyword
--   Form                       == the three lines of single numbers: Order, Side, Cycle
--   form_at form bytes         == the numbers of such a line, behind its keyword
--   node_of form ns            == the node of these numbers
--   Stop                       == why a line isn't read: it isn't ended, it is of another form, a number but a multiplier is too great,
--                              or a multiplier is
--   line_at bytes              == the node of the line, or why it isn't read: the form first, then the numbers, then the multipliers
use Rattle.std.specs.Prelude.{ℕ, ℤ, pos, negsuc, zero, suc, int_lt, unsigned_abs, List, [], ◌∷◌, length, map, slice_index_or, Bool, true, not, ◌&&◌, ◌==◌, if◌then◌else◌, Option, Some, None, is_some, Result, Ok, Err, codes}
use Rattle.std.specs.List.{list_any}
use Rattle.text_lines.specs.Reading.{◌>>=◌, literal_at, whole_at, has_line_end}
use Rattle.seq_model.specs.declared.tree.Mult.{Mult}
use Rattle.seq_model.specs.declared.tree.Node.{Node}
use Rattle.seq_model.specs.declared.tree.Node.TheVariants as Nodes
use Rattle.cert_text.specs.declared.lines.Form.{Form}
use Rattle.cert_text.specs.declared.lines.Form.TheVariants.{Order, Side, Cycle}
use Rattle.cert_text.specs.declared.lines.Stop.{Stop}
use Rattle.cert_text.specs.declared.lines.Stop.TheVariants.{Unended, Other, Range, Big}
use Rattle.cert_text.specs.declared.pairs.Pair.{Pair}
use Rattle.seq_limits.specs.declared.TheConstants.{MOST_OBJECTS}

abbrev pub ends_line : List ℕ → Bool
ends_line bytes = is_some (literal_at (codes "\n") bytes)

unfoldable pub number_at : List ℕ → List ℕ → Option (ℤ × List ℕ)
number_at sep bytes = do
  a ← literal_at sep bytes
  whole_at a

abbrev pub numbers_end : List ℕ → Option (List ℤ × List ℕ)
numbers_end bytes = literal_at (codes "\n") bytes >>= λ rest. Some ([], rest)

unfoldable pub numbers_at : List ℕ → ℕ → List ℕ → Option (List ℤ × List ℕ)
numbers_at sep zero bytes = numbers_end bytes
numbers_at sep (suc room) bytes =
    if ends_line bytes
    then numbers_end bytes
    else (number_at sep bytes >>= λ n. numbers_at sep room n.1 >>= λ ns. Some (n.0 ∷ ns.0, ns.1))

unfoldable pub pair_at : List ℕ → Option (Pair × List ℕ)
pair_at bytes = do
  a ← literal_at (codes " ") bytes
  row ← whole_at a
  b ← literal_at (codes ":") row.1
  times ← whole_at b
  Some (record { row = row.0; times = times.0 }, times.1)

abbrev pub end_at : List ℕ → Option (List Pair × List ℕ)
end_at bytes = literal_at (codes "\n") bytes >>= λ rest. Some ([], rest)

unfoldable pub pairs_at : ℕ → List ℕ → Option (List Pair × List ℕ)
pairs_at zero bytes = end_at bytes
pairs_at (suc room) bytes =
    if ends_line bytes
    then end_at bytes
    else (pair_at bytes >>= λ p. pairs_at room p.1 >>= λ ps. Some (p.0 ∷ ps.0, ps.1))

abbrev pub rises : ℤ → List Pair → Bool
rises low [] = true
rises low (p ∷ ps) = int_lt low p.row && not (int_lt p.times (pos 0)) && rises p.row ps

abbrev pub are_due : List Pair → Bool
are_due ps = rises (negsuc 0) ps && not (length ps == 0)

unfoldable pub bound_at : List ℕ → Option (List Pair × List ℕ)
bound_at bytes = do
  ps ← pairs_at 33 bytes
  if are_due ps.0 then Some ps else None

abbrev pub mult_of : Pair → Mult
mult_of p = record { row = unsigned_abs p.row; times = p.times }

abbrev pub is_far : ℤ → Bool
is_far n = int_lt (pos 4_294_967_295) n

abbrev pub is_far_pair : Pair → Bool
is_far_pair p = is_far p.row

abbrev pub is_big : Pair → Bool
is_big p = int_lt (pos 4_611_686_018_427_387_903) p.times

abbrev pub mults_of : List Pair → Result (List Mult) Stop
mults_of pairs = if list_any is_far_pair pairs then Err Range else (if list_any is_big pairs then Err Big else Ok (map mult_of pairs))

-- ---- lines of single numbers
abbrev pub room_of : Form → ℕ
room_of Order = 2
room_of Side = 6
room_of Cycle = MOST_OBJECTS

abbrev pub number_or : List ℤ → ℕ → ℤ
number_or ns k = slice_index_or ns k (pos 0)

abbrev pub is_below : ℤ → Bool
is_below n = int_lt n (pos 0)

-- how many numbers the line must have; a side has a child at least, and a cycle an object
abbrev pub are_enough : Form → List ℤ → Bool
are_enough Order ns = length ns == 2
are_enough Side ns = length ns == 6 && int_lt (pos 0) (number_or ns 5)
are_enough Cycle ns = not (length ns == 0)

unfoldable pub form_at : Form → List ℕ → Option (List ℤ × List ℕ)
form_at form bytes = do
  ns ← numbers_at (codes " ") (room_of form) bytes
  if are_enough form ns.0 && not (list_any is_below ns.0) then Some ns else None

abbrev pub count_at : List ℤ → ℕ → ℕ
count_at ns k = unsigned_abs (number_or ns k)

abbrev pub node_of : Form → List ℤ → Node
node_of Order ns = Nodes.Order (count_at ns 0) (count_at ns 1)
node_of Side ns =
    Nodes.Side (record { i = count_at ns 0; zi = count_at ns 1; part = count_at ns 2; zj = count_at ns 3; j = count_at ns 4 }) (count_at ns 5)
node_of Cycle ns = Nodes.Cycle (map unsigned_abs ns)

-- ---- any line
abbrev pub Read : Type 0
Read = Result (Node × List ℕ) Stop

abbrev pub unread : List ℕ → Stop
unread bytes = if has_line_end bytes then Other else Unended

abbrev pub formed : Form → List ℕ → Option (List ℤ × List ℕ) → Read
formed form bytes None = Err (unread bytes)
formed form bytes (Some ns) = if list_any is_far ns.0 then Err Range else Ok (node_of form ns.0, ns.1)

abbrev pub bound : Result (List Mult) Stop → List ℕ → Read
bound (Err stop) rest = Err stop
bound (Ok mults) rest = Ok (Nodes.Bound mults, rest)

abbrev pub paired : List ℕ → Option (List Pair × List ℕ) → Read
paired bytes None = Err (unread bytes)
paired bytes (Some ps) = bound (mults_of ps.0) ps.1

-- what a keyword leads to, where it stands there, and what else
abbrev pub named : Option (List ℕ) → (List ℕ → Read) → Read → Read
named None take later = later
named (Some rest) take later = take rest

unfoldable pub formed_at : Form → List ℕ → Read
formed_at form rest = formed form rest (form_at form rest)

unfoldable pub paired_at : List ℕ → Read
paired_at rest = paired rest (bound_at rest)

unfoldable pub line_at : List ℕ → Read
line_at bytes =
    named (literal_at (codes "order") bytes) (formed_at Order)
    (named (literal_at (codes "side") bytes) (formed_at Side)
    (named (literal_at (codes "bound") bytes) paired_at
    (named (literal_at (codes "cycle") bytes) (formed_at Cycle)
    (named (literal_at (codes "pending\n") bytes) (λ rest. Ok (Nodes.Pending, rest))
    (Err (unread bytes))))))
