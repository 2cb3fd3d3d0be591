-- What the reading of a tree block answers before its nodes, and what all of it does.
--
--   rising low ns            == whether the numbers rise strictly, from above low on
--   Wide                     == the three numbers that a wide line begins with
--   wide_start_at bytes      == those three
--   wide_at bytes            == the numbers of a wide line: those three, and the others of its basis
--   refusal number what bytes   == why the due line at the front isn't read: no line ends any more, or this one has another form
--   note_at bytes            == the wide note of the line, or why it isn't read
--   head_at kind bytes       == the head of a block of this kind, and the bytes after it
--   before kind              == how many lines it has
--   refused k fault          == what is answered where the node lines, which begin behind line k, aren't read
--   IsRefusedTree bytes kind e   the head is refused, or the node lines behind it, and this is the answer
use Rattle.std.specs.Prelude.{◌≡◌, ◌⊎◌, ℕ, ℤ, pos, negsuc, ◌+◌, int_lt, unsigned_abs, List, [], ◌∷◌, length, map, Bool, true, ◌&&◌, ◌||◌, if◌then◌else◌, Option, Some, None, Result, Ok, Err, codes}
use Rattle.std.specs.List.{list_any}
use Rattle.text_lines.specs.Reading.{◌>>=◌, literal_at, whole_at, has_line_end}
use Rattle.text_lines.specs.Lines.{number_line_at}
use Rattle.seq_model.specs.declared.tree.WideNote.{WideNote}
use Rattle.seq_model.specs.declared.what.What.{What}
use Rattle.seq_model.specs.declared.what.What.TheVariants as what
use Rattle.cert_text.specs.declared.block.CertRead.{CertRead}
use Rattle.cert_text.specs.declared.block.CertRead.TheVariants as answers
use Rattle.cert_text.specs.declared.block.Head.{Head}
use Rattle.cert_text.specs.declared.block.Kind.{Kind}
use Rattle.cert_text.specs.declared.block.Kind.TheVariants.{Certificate, OpenBudget, OpenWide}
use Rattle.cert_text.specs.declared.heads.Wide.{Wide}
use Rattle.cert_text.specs.declared.lines.Stop.TheVariants as stops
use Rattle.cert_text.specs.declared.nodes.Fault.{Fault}
use Rattle.cert_text.specs.declared.nodes.Fault.TheVariants as faults
use Rattle.cert_text.specs.Lines.{number_at, numbers_at, is_far, line_at}
use Rattle.cert_text.specs.Nodes.{IsRefusedAt}
use Rattle.cert_text.specs.TreeText.{first_line, extent_word}
use Rattle.seq_limits.specs.declared.TheConstants.{MOST_GRID}

abbrev pub rising : ℤ → List ℤ → Bool
rising low [] = true
rising low (n ∷ ns) = int_lt low n && rising n ns

abbrev pub is_due : Wide → List ℤ → Bool
is_due w more = int_lt (negsuc 0) w.node && int_lt (negsuc 0) w.row && rising (negsuc 0) (w.first ∷ more)

unfoldable pub wide_start_at : List ℕ → Option (Wide × List ℕ)
wide_start_at bytes = do
  a ← literal_at (codes "wide ") bytes
  node ← whole_at a
  row ← number_at (codes " ") node.1
  first ← number_at (codes " ") row.1
  Some (record { node = node.0; row = row.0; first = first.0 }, first.1)

unfoldable pub wide_at : List ℕ → Option ((Wide × List ℤ) × List ℕ)
wide_at bytes = do
  w ← wide_start_at bytes
  more ← numbers_at (codes ",") (length w.1) w.1
  if is_due w.0 more.0 then Some ((w.0, more.0), more.1) else None

abbrev pub refusal : ℕ → What → List ℕ → CertRead
refusal number what bytes = if has_line_end bytes then answers.Line number what else answers.Truncated

-- 2^62 - 1 is the greatest number of a node
abbrev pub is_wide_far : Wide → List ℤ → Bool
is_wide_far w more = int_lt (pos 4_611_686_018_427_387_903) w.node || is_far w.row || list_any is_far (w.first ∷ more)

abbrev pub note_of : Wide → List ℤ → WideNote
note_of w more = record { node = unsigned_abs w.node; basis = map unsigned_abs (w.first ∷ more); row = unsigned_abs w.row }

abbrev pub noted : List ℕ → Option ((Wide × List ℤ) × List ℕ) → Result (WideNote × List ℕ) CertRead
noted bytes None = Err (refusal 3 what.Wide bytes)
noted bytes (Some r) = if is_wide_far r.0.0 r.0.1 then Err (answers.Line 3 what.Range) else Ok (note_of r.0.0 r.0.1, r.1)

unfoldable pub note_at : List ℕ → Result (WideNote × List ℕ) CertRead
note_at bytes = noted bytes (wide_at bytes)

abbrev pub with_note : ℕ → Result (WideNote × List ℕ) CertRead → Result (Head × List ℕ) CertRead
with_note extent (Err e) = Err e
with_note extent (Ok r) = Ok (record { kind = OpenWide; extent = extent; wide = Some r.0 }, r.1)

abbrev pub headed : Kind → ℕ → List ℕ → Result (Head × List ℕ) CertRead
headed Certificate extent rest = Ok (record { kind = Certificate; extent = extent; wide = None }, rest)
headed OpenBudget extent rest = Ok (record { kind = OpenBudget; extent = extent; wide = None }, rest)
headed OpenWide extent rest = with_note extent (note_at rest)

abbrev pub extended : Kind → List ℕ → Option (ℕ × List ℕ) → Result (Head × List ℕ) CertRead
extended kind bytes None = Err (refusal 2 what.Extent bytes)
extended kind bytes (Some x) = headed kind x.0 x.1

abbrev pub begun : Kind → List ℕ → Option (List ℕ) → Result (Head × List ℕ) CertRead
begun kind bytes None = Err (refusal 1 what.Header bytes)
begun kind bytes (Some rest) = extended kind rest (number_line_at (extent_word kind) MOST_GRID rest)

unfoldable pub head_at : Kind → List ℕ → Result (Head × List ℕ) CertRead
head_at kind bytes = begun kind bytes (literal_at (first_line kind) bytes)

abbrev pub before : Kind → ℕ
before Certificate = 2
before OpenBudget = 2
before OpenWide = 3

-- line k of the nodes, counted from 0, is this line of the block
abbrev pub refused : ℕ → Fault → CertRead
refused b (faults.Stopped k stops.Unended) = answers.Truncated
refused b (faults.Stopped k stops.Other) = answers.Line (b + k + 1) what.Node
refused b (faults.Stopped k stops.Range) = answers.Line (b + k + 1) what.Range
refused b (faults.Stopped k stops.Big) = answers.Big (b + k + 1)
refused b (faults.Deep k) = answers.Deep (b + k + 1)
refused b (faults.After k) = answers.Line (b + k + 1) what.After
refused b faults.Unended = answers.Truncated
refused b faults.NoMemory = answers.NoMemory

-- the nodes behind the head aren't read
pub record IsRefusedBehind (bytes : List ℕ) (kind : Kind) (e : CertRead) : Type 0 where
  pub head : Head
  pub rest : List ℕ
  pub read : head_at kind bytes ≡ Ok (head, rest)
  pub fault : Fault
  pub is : IsRefusedAt line_at rest fault
  pub answer : e ≡ refused (before kind) fault

abbrev pub IsRefusedTree : List ℕ → Kind → CertRead → Type 0
IsRefusedTree bytes kind e = (head_at kind bytes ≡ Err e) ⊎ IsRefusedBehind bytes kind e
