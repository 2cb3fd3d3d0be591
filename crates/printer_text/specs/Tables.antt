-- How a table is read by its keys: from the first to the last, so that the first refusal stands; then its other keys.
--
--   Said                         what the keys of a table say
--   nothing, about sizes         before the first key of the top table, and of a part of a printer with these sizes
--   bound said b                 a bound, in µm
--   SaidBy rule, value_by rule   what a value of this kind says, and how it is read
--   with_key rule k x said       what is said, and that key k says x
--   reading rows t said          what the keys of these rows say, after what is said already, or the first refusal
--   said_top, said_first         what the whole top table says, and the first keys of a part
--   names rows                   the keys of these rows
--   first_other keys t           the least key of the table, in byte order, that is none of these
--   next_other keys t            the first that the table lists: the same, since a table lists its keys in byte order
--   prn_of n bad                 the refusal of a key in the top table (n = 0) or in listed part n - 1
--   without_others n keys t x    x, where the table has no other key
use Rattle.std.specs.Prelude.{ℕ, ℤ, pos, ◌*ℤ◌, Bool, false, ◌||◌, List, [], ◌∷◌, Option, Some, None, Result, Ok, Err, if◌then◌else◌, unsigned_abs}
use Rattle.std.specs.Cmp.Lexicographic.{slice_cmp}
use Rattle.std.specs.Ordering.{nat_cmp, is_lt}
use Rattle.std.specs.Str.{bytes_eq}
use Rattle.seq_limits.specs.declared.TheConstants.{MOST_LISTED_PARTS}
use Rattle.seq_model.specs.declared.printer.Spot.{Spot}
use Rattle.toml.specs.Data.{Data, Items, no_items, Members, no_members, member}
use Rattle.printer_text.specs.declared.Key.{Key}
use Rattle.printer_text.specs.declared.Key.TheVariants as key
use Rattle.printer_text.specs.declared.Prn.{Prn}
use Rattle.printer_text.specs.declared.Prn.TheVariants as prn
use Rattle.printer_text.specs.declared.part.Heights.{Heights}
use Rattle.printer_text.specs.declared.top.Sizes.{Sizes}
use Rattle.printer_text.specs.declared.values.Bad.{Bad}
use Rattle.printer_text.specs.declared.values.Cause.{Cause}
use Rattle.printer_text.specs.declared.values.Cause.TheVariants as cause
use Rattle.printer_text.specs.Keys.{Bound, um, grains, value_of_from, value_of_low, Lattice, anywhere, on_grain, Rule, integer, length, two_lengths, corners, name, x_or_y, tables, Row, required, optional}
use Rattle.printer_text.specs.Values.{after, integer_in, length_in, grains_in, pair_in, corners_in, name_in, axis_in, tables_in, key_name, key_at, key_if}

-- the sizes of the printer, in the units of a printer, and its listed parts; and what the keys of a part say:
-- `from` and `to` in µm, `low`, `high` and the corners in grains, and whether a bar is along x
pub record Said : Type 0 where
  pub sizes : Sizes
  pub listed : Items
  pub name : List ℕ
  pub from : ℤ
  pub to : Option ℤ
  pub bar : Option Bool
  pub corners : List Spot
  pub low : ℤ
  pub high : ℤ

abbrev pub about : Sizes → Said
about sizes = record { sizes = sizes; listed = no_items; name = []; from = pos 0; to = None; bar = None; corners = []; low = pos 0; high = pos 0 }

abbrev pub nothing : Said
nothing = about (record { grain = pos 0; width = pos 0; depth = pos 0; step = pos 0; margin = pos 0; grid = 0 })

-- a bound, in µm
abbrev pub bound : Said → Bound → ℤ
bound s (um n) = n
bound s (grains n) = s.sizes.grain *ℤ n
bound s value_of_from = s.from
bound s value_of_low = s.sizes.grain *ℤ s.low

-- what a value of each kind says
abbrev pub SaidBy : Rule → Type 0
SaidBy (integer low high) = ℤ
SaidBy (length low high lattice) = ℤ
SaidBy (two_lengths low high) = Spot
SaidBy (corners least most low high) = List Spot
SaidBy (name least most) = List ℕ
SaidBy x_or_y = Bool
SaidBy (tables most) = Items

abbrev pub length_by : Lattice → ℤ → ℤ → ℤ → Data → Result ℤ Cause
length_by anywhere grain low high = length_in low high
length_by on_grain grain low high = grains_in grain low high

abbrev pub value_by : (rule : Rule) → Said → Data → Result (SaidBy rule) Cause
value_by (integer low high) s = integer_in low high
value_by (length low high lattice) s = length_by lattice s.sizes.grain (bound s low) (bound s high)
value_by (two_lengths low high) s = pair_in s.sizes.grain (bound s low) (bound s high)
value_by (corners least most low high) s = corners_in least most s.sizes.grain (bound s low) (bound s high)
value_by (name least most) s = name_in least most
value_by x_or_y s = axis_in
value_by (tables most) s = tables_in most

abbrev pub with_number : Key → ℤ → Said → Said
with_number key.Grain n s = record s { sizes = record s.sizes { grain = n } }
with_number key.Step n s = record s { sizes = record s.sizes { step = n } }
with_number key.Margin n s = record s { sizes = record s.sizes { margin = n } }
with_number key.Grid n s = record s { sizes = record s.sizes { grid = unsigned_abs n } }
with_number key.From n s = record s { from = n }
with_number key.To n s = record s { to = Some n }
with_number key.Low n s = record s { low = n }
with_number key.High n s = record s { high = n }
with_number _ n s = s

-- what is said with one key more
abbrev pub with_key : (rule : Rule) → Key → SaidBy rule → Said → Said
with_key (integer low high) k n s = with_number k n s
with_key (length low high lattice) k n s = with_number k n s
with_key (two_lengths low high) k spot s = record s { sizes = record s.sizes { width = spot.x; depth = spot.y } }
with_key (corners least most low high) k spots s = record s { corners = spots }
with_key (name least most) k text s = record s { name = text }
with_key x_or_y k along_x s = record s { bar = Some along_x }
with_key (tables most) k listed s = record s { listed = listed }

abbrev pub with_key_if : (rule : Rule) → Key → Option (SaidBy rule) → Said → Said
with_key_if rule k (Some x) s = with_key rule k x s
with_key_if rule k None s = s

-- what the whole top table says, and the first keys of a part
abbrev pub said_top : Sizes → Option Items → Said
said_top sizes listed = with_key_if (tables MOST_LISTED_PARTS) key.Part listed (about sizes)

abbrev pub said_first : Sizes → List ℕ → Heights → Said
said_first sizes text h = record (about sizes) { name = text; from = h.from; to = h.to; bar = h.bar }

abbrev pub reading : List Row → Members → Said → Result Said Bad
reading [] t s = Ok s
reading (required k rule ∷ rows) t s = after (key_at k (value_by rule s) t) (λ x. reading rows t (with_key rule k x s))
reading (optional k rule ∷ rows) t s = after (key_if k (value_by rule s) t) (λ x. reading rows t (with_key_if rule k x s))

-- ---- other keys

abbrev pub names : List Row → List Key
names [] = []
names (required k rule ∷ rows) = k ∷ names rows
names (optional k rule ∷ rows) = k ∷ names rows

abbrev pub is_named : List Key → List ℕ → Bool
is_named [] text = false
is_named (k ∷ ks) text = bytes_eq (key_name k) text || is_named ks text

-- the first by bytes
abbrev pub lesser : List ℕ → Option (List ℕ) → List ℕ
lesser text None = text
lesser text (Some other) = if is_lt (slice_cmp nat_cmp other text) then other else text

abbrev pub first_other : List Key → Members → Option (List ℕ)
first_other keys no_members = None
first_other keys (member text d ms) = if is_named keys text then first_other keys ms else Some (lesser text (first_other keys ms))

-- the same in the order in which a table lists its keys, which is that of bytes
abbrev pub next_other : List Key → Members → Option (List ℕ)
next_other keys no_members = None
next_other keys (member text d ms) = if is_named keys text then next_other keys ms else Some text

-- ---- refusals

abbrev pub prn_by : ℕ → Key → Cause → Prn
prn_by n k cause.Missing = prn.Missing k n
prn_by n k cause.Kind = prn.Kind k n
prn_by n k cause.FloatLength = prn.FloatLength k n
prn_by n k cause.Number = prn.Number k n
prn_by n k cause.Range = prn.Range k n
prn_by n k cause.OffGrain = prn.OffGrain k n
prn_by n k cause.TooMany = prn.TooManyParts

abbrev pub prn_of : ℕ → Bad → Prn
prn_of n bad = prn_by n bad.key bad.cause

abbrev pub numbered : {A : Type 0} → ℕ → Result A Bad → Result A Prn
numbered n (Ok x) = Ok x
numbered n (Err bad) = Err (prn_of n bad)

abbrev pub unless_other : {A : Type 0} → ℕ → Option (List ℕ) → A → Result A Prn
unless_other n None x = Ok x
unless_other n (Some text) x = Err (prn.Unknown text n)

abbrev pub without_others : {A : Type 0} → ℕ → List Key → Members → A → Result A Prn
without_others n keys t x = unless_other n (first_other keys t) x
