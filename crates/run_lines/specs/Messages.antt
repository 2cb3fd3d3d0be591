-- The lines that go to `err`: of refused words, and of each stop.
--
--   words_line why       the line of refused words
--   key_text fault key n a fault of this key in the top table (n = 0) or in listed part n - 1
--   line_text words line what   what a line of a plan or of its tree block should have been
--   plan_text e          why bytes are no plan
--   block_text e         why those behind a plan's lines are no tree block
--   detail_of file c     the end of the line of a refused file
--   line_of a stop       the line
use Rattle.std.specs.Prelude.{ℕ, zero, suc, pos, List, [], ◌++◌, codes}
use Rattle.cert_text.specs.declared.block.CertRead.{CertRead}
use Rattle.cert_text.specs.declared.block.CertRead.TheVariants as Blocks
use Rattle.decimal_lengths.specs.declared.Decimal.{Decimal}
use Rattle.decimal_lengths.specs.declared.Decimal.TheVariants as Decimals
use Rattle.mesh_notes.specs.Notes.{looks_text}
use Rattle.plan_text.specs.declared.reading.PlanRead.{PlanRead}
use Rattle.plan_text.specs.declared.reading.PlanRead.TheVariants as Reads
use Rattle.printer_text.specs.Values.{key_name}
use Rattle.printer_text.specs.declared.Prn.{Prn}
use Rattle.printer_text.specs.declared.Prn.TheVariants as Prns
use Rattle.seq_model.specs.declared.what.What.{What}
use Rattle.seq_model.specs.declared.what.What.TheVariants as Whats
use Rattle.seq_num.specs.Spelling.{spelling}
use Rattle.seq_words.specs.declared.command.Opt.{Opt}
use Rattle.seq_words.specs.declared.command.Words.{Words}
use Rattle.stl_text.specs.Grammar.{text_of}
use Rattle.stl_text.specs.declared.Stl.{Stl}
use Rattle.stl_text.specs.declared.Stl.TheVariants as Stls
use Rattle.run_files.specs.Files.{name_in}
use Rattle.run_files.specs.declared.stop.Cause.{Cause}
use Rattle.run_files.specs.declared.stop.Cause.TheVariants as Causes
use Rattle.run_files.specs.declared.stop.NamedFile.{NamedFile}
use Rattle.run_files.specs.declared.stop.NamedFile.TheVariants.{Printer, Plan, Mesh}
use Rattle.run_files.specs.declared.stop.Stop.{Stop}
use Rattle.run_files.specs.declared.stop.Stop.TheVariants.{Read, Input, Memory}
use Rattle.run_files.specs.declared.words.Asked.{Asked}

abbrev pub memory_line : List ℕ
memory_line = codes "memory\n"

abbrev pub words_line : Words → List ℕ
words_line Words.Unknown = codes "words: unknown command\n"
words_line Words.Usage = codes "words: usage\n"
words_line (Words.BadNumber Opt.Budget) = codes "words: bad number for --budget\n"
words_line (Words.BadNumber Opt.K) = codes "words: bad number for K\n"
words_line (Words.BadNumber Opt.N) = codes "words: bad number for N\n"
words_line Words.TooMany = codes "words: more than 16 meshes\n"
words_line Words.NoMemory = memory_line

-- why a word is no length
abbrev pub decimal_text : Decimal → List ℕ
decimal_text Decimals.Empty = codes "empty"
decimal_text Decimals.TooLong = codes "too long"
decimal_text (Decimals.BadByte place) = codes "bad byte at " ++ spelling (pos place)
decimal_text Decimals.NoDigit = codes "no digit"
decimal_text Decimals.TooFar = codes "too far"

-- the top table, or a listed part
abbrev pub table_text : ℕ → List ℕ
table_text zero = codes "top"
table_text (suc part) = codes "part " ++ spelling (pos part)

unfoldable pub key_text : List ℕ → List ℕ → ℕ → List ℕ
key_text fault key table = fault ++ (key ++ (codes " in " ++ table_text table))

-- why bytes describe no printer; want of memory is told by a line of its own
abbrev pub prn_text : Prn → List ℕ
prn_text Prns.Toml = codes "not TOML"
prn_text (Prns.Missing key table) = key_text (codes "missing ") (key_name key) table
prn_text (Prns.Kind key table) = key_text (codes "kind of ") (key_name key) table
prn_text (Prns.FloatLength key table) = key_text (codes "float for ") (key_name key) table
prn_text (Prns.Number key table) = key_text (codes "number of ") (key_name key) table
prn_text (Prns.Range key table) = key_text (codes "range of ") (key_name key) table
prn_text (Prns.OffGrain key table) = key_text (codes "off grain ") (key_name key) table
prn_text (Prns.Unknown key table) = key_text (codes "unknown key ") key table
prn_text Prns.TooManyParts = codes "more than 12 parts"
prn_text Prns.NoMemory = []

-- why bytes are no mesh; want of memory is told by a line of its own
abbrev pub stl_text : Stl → List ℕ
stl_text Stls.Binary = codes "binary STL"
stl_text (Stls.Expected keyword place) = codes "expected " ++ (text_of keyword ++ (codes " at " ++ spelling (pos place)))
stl_text (Stls.Number place cause) = codes "number at " ++ (spelling (pos place) ++ (codes ": " ++ decimal_text cause))
stl_text Stls.TooManyFacets = codes "more than 200000 facets"
stl_text Stls.NoFacet = codes "no facet"
stl_text Stls.NoMemory = []

-- what a line of a plan should have been
abbrev pub what_text : What → List ℕ
what_text Whats.Header = codes "header"
what_text Whats.State = codes "state"
what_text Whats.Grid = codes "grid"
what_text Whats.Extent = codes "extent"
what_text Whats.Scale = codes "scale"
what_text Whats.Place = codes "place"
what_text Whats.Wide = codes "wide"
what_text Whats.Node = codes "node"
what_text Whats.Range = codes "range"
what_text Whats.After = codes "after the end"

unfoldable pub line_text : List ℕ → ℕ → What → List ℕ
line_text words line what = words ++ (spelling (pos line) ++ (codes ": " ++ what_text what))

-- why bytes are no plan; want of memory is told by a line of its own
abbrev pub plan_text : PlanRead → List ℕ
plan_text (Reads.Line line what) = line_text (codes "plan line ") line what
plan_text Reads.Missing = codes "plan ends early"
plan_text Reads.Trailing = codes "bytes after the plan"
plan_text Reads.NoMemory = []

unfoldable pub refused_line : ℕ → List ℕ → List ℕ
refused_line line fault = codes "tree line " ++ (spelling (pos line) ++ fault)

-- why the bytes behind a plan's lines are no tree block; want of memory is told by a line of its own
abbrev pub block_text : CertRead → List ℕ
block_text (Blocks.Line line what) = line_text (codes "tree line ") line what
block_text (Blocks.Big line) = refused_line line (codes ": big")
block_text (Blocks.Deep line) = refused_line line (codes ": deep")
block_text Blocks.Truncated = codes "tree ends early"
block_text Blocks.NoMemory = []

abbrev pub detail_of : NamedFile → Cause → List ℕ
detail_of Printer Causes.TooLong = codes "longer than 1048576 bytes"
detail_of Plan Causes.TooLong = codes "longer than 268435456 bytes"
detail_of (Mesh k) Causes.TooLong = codes "longer than 67108864 bytes"
detail_of file (Causes.Printer e) = prn_text e
detail_of file (Causes.Plan e) = plan_text e
detail_of file (Causes.Block e) = block_text e
detail_of file (Causes.Stl e) = stl_text e
detail_of file (Causes.NotClosed edges volume) = codes "not a closed outward mesh: " ++ looks_text edges volume
detail_of file Causes.Flat = codes "no facet is left"
detail_of file (Causes.TooTall bands) = codes "more than 200 bands: " ++ spelling (pos bands)

abbrev pub read_line : List ℕ → List ℕ
read_line name = codes "read: " ++ (name ++ codes "\n")

abbrev pub input_line : List ℕ → NamedFile → Cause → List ℕ
input_line name file cause = codes "input: " ++ (name ++ (codes ": " ++ (detail_of file cause ++ codes "\n")))

abbrev pub line_of : Asked → Stop → List ℕ
line_of a (Read file) = read_line (name_in a file)
line_of a (Input file cause) = input_line (name_in a file) file cause
line_of a Memory = memory_line
