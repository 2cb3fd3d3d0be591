-- How the value of one key is read: its kind, then a number that it spells, then its range, then its lattice.
--
--   after r next            next of what r gives; a refusal of r stands
--   within low high n       n, if it lies in the range
--   on_lattice unit um      how many units the length is, if it is a whole number of them
--   length_of d             the length in µm: an integer of millimetres, or a string that spells one
--   integer_in, length_in, grains_in, pair_in, corners_in, name_in, axis_in, tables_in
--                           the value of each kind, in its range and on its lattice
--   key_at k rule t         the value at a key of the table, by a rule; the key has to be there
--   key_if k rule t         the same for a key that may be absent
--   StopsAs r stop, StopsKey r unread  memory is wanting, or r is this refusal
use Rattle.std.specs.Prelude.{◌≡◌, ℕ, ℤ, pos, neg_ℤ, ◌*ℤ◌, ◌+◌, ◌++◌, Bool, true, false, ◌&&◌, ◌||◌, List, [], ◌∷◌, length, Option, Some, None, is_some, Result, Ok, Err, if◌then◌else◌, int_le, int_rem, int_div, nat_le, Float, codes}
use Rattle.std.specs.List.{list_all}
use Rattle.std.specs.Ordering.{int_eq}
use Rattle.std.specs.Str.{bytes_eq}
use Rattle.decimal_lengths.specs.Computed as Decimals
use Rattle.seq_model.specs.Parts.{is_name_byte}
use Rattle.seq_model.specs.declared.printer.Spot.{Spot}
use Rattle.toml.specs.Data.{Data, Items, no_items, item, Members, as_integer, as_str, as_float, as_array, as_table, at, get_member}
use Rattle.printer_text.specs.declared.Key.{Key}
use Rattle.printer_text.specs.declared.Key.TheVariants as key
use Rattle.printer_text.specs.declared.values.Cause.{Cause}
use Rattle.printer_text.specs.declared.values.Cause.TheVariants as cause
use Rattle.printer_text.specs.declared.values.Bad.{Bad}
use Rattle.printer_text.specs.declared.values.Stop.{Stop}
use Rattle.printer_text.specs.declared.values.Stop.TheVariants as stop
use Rattle.printer_text.specs.declared.keys.Unread.{Unread}
use Rattle.printer_text.specs.declared.keys.Unread.TheVariants as unread

abbrev pub after : {A B E : Type 0} → Result A E → (A → Result B E) → Result B E
after (Ok x) next = next x
after (Err e) next = Err e

-- ---- numbers

abbrev pub within : ℤ → ℤ → ℤ → Result ℤ Cause
within low high n = if int_le low n && int_le n high then Ok n else Err cause.Range

abbrev pub on_lattice : ℤ → ℤ → Result ℤ Cause
on_lattice unit um = if int_eq (int_rem um unit) (pos 0) then Ok (int_div um unit) else Err cause.OffGrain

-- whole millimetres, in µm: out of range before anything is multiplied
abbrev pub millimetres : ℤ → Result ℤ Cause
millimetres n = after (within (neg_ℤ (pos 10_000)) (pos 10_000) n) (λ mm. Ok (mm *ℤ pos 1_000))

abbrev pub spelled : Option ℤ → Result ℤ Cause
spelled (Some um) = Ok um
spelled None = Err cause.Number

-- an integer, a string, a float or none of these
abbrev pub length_from : Option ℤ → Option (List ℕ) → Option Float → Result ℤ Cause
length_from (Some n) s x = millimetres n
length_from None (Some s) x = spelled (Decimals.length_of s)
length_from None None (Some x) = Err cause.FloatLength
length_from None None None = Err cause.Kind

abbrev pub length_of : Data → Result ℤ Cause
length_of d = length_from (as_integer d) (as_str d) (as_float d)

abbrev pub integer_from : ℤ → ℤ → Option ℤ → Result ℤ Cause
integer_from low high (Some n) = within low high n
integer_from low high None = Err cause.Kind

-- ---- the kinds

abbrev pub integer_in : ℤ → ℤ → Data → Result ℤ Cause
integer_in low high d = integer_from low high (as_integer d)

-- a length from low to high, in µm
abbrev pub length_in : ℤ → ℤ → Data → Result ℤ Cause
length_in low high d = after (length_of d) (within low high)

-- a length from low to high µm, in grains
abbrev pub grains_in : ℤ → ℤ → ℤ → Data → Result ℤ Cause
grains_in grain low high d = after (length_in low high d) (on_lattice grain)

-- the value is of a kind that may stand for a length
abbrev pub may_be_length : Data → Bool
may_be_length d = is_some (as_integer d) || (is_some (as_str d) || is_some (as_float d))

abbrev pub pair_from : Option Data → Option Data → Option Data → Result (Data × Data) Cause
pair_from (Some a) (Some b) None = if may_be_length a && may_be_length b then Ok (a, b) else Err cause.Kind
pair_from _ _ _ = Err cause.Kind

-- an array of two such values: a third isn't there
abbrev pub pair_of : Data → Result (Data × Data) Cause
pair_of d = pair_from (at 0 d) (at 1 d) (at 2 d)

-- an array of two lengths, one after the other
abbrev pub pair_in : ℤ → ℤ → ℤ → Data → Result Spot Cause
pair_in grain low high d =
    after (pair_of d) (λ two. after (grains_in grain low high two.0) (λ x. after (grains_in grain low high two.1) (λ y.
    Ok (record { x = x; y = y }))))

abbrev pub is_pair : Result (Data × Data) Cause → Bool
is_pair (Ok two) = true
is_pair (Err why) = false

abbrev pub are_pairs : Items → Bool
are_pairs no_items = true
are_pairs (item d ds) = is_pair (pair_of d) && are_pairs ds

abbrev pub are_tables : Items → Bool
are_tables no_items = true
are_tables (item d ds) = is_some (as_table d) && are_tables ds

abbrev pub count : Items → ℕ
count no_items = 0
count (item d ds) = count ds + 1

-- the pairs from the first to the last, behind those that are read
abbrev pub pairs_behind : ℤ → ℤ → ℤ → List Spot → Items → Result (List Spot) Cause
pairs_behind grain low high done no_items = Ok done
pairs_behind grain low high done (item d ds) = after (pair_in grain low high d) (λ spot. pairs_behind grain low high (done ++ spot ∷ []) ds)

-- a count that is out of range refuses an array before its first element is taken
abbrev pub corners_from : ℕ → ℕ → ℤ → ℤ → ℤ → Option Items → Result (List Spot) Cause
corners_from least most grain low high None = Err cause.Kind
corners_from least most grain low high (Some ds) =
    if are_pairs ds then
    if nat_le least (count ds) && nat_le (count ds) most then pairs_behind grain low high [] ds else Err cause.Range
    else Err cause.Kind

-- an array of pairs of lengths
unfoldable pub corners_in : ℕ → ℕ → ℤ → ℤ → ℤ → Data → Result (List Spot) Cause
corners_in least most grain low high d = corners_from least most grain low high (as_array d)

abbrev pub tables_from : ℕ → Option Items → Result Items Cause
tables_from most None = Err cause.Kind
tables_from most (Some ds) = if are_tables ds then if nat_le (count ds) most then Ok ds else Err cause.TooMany else Err cause.Kind

-- an array of tables
unfoldable pub tables_in : ℕ → Data → Result Items Cause
tables_in most d = tables_from most (as_array d)

abbrev pub is_name : ℕ → ℕ → List ℕ → Bool
is_name least most s = nat_le least (length s) && (nat_le (length s) most && list_all is_name_byte s)

abbrev pub name_from : ℕ → ℕ → Option (List ℕ) → Result (List ℕ) Cause
name_from least most None = Err cause.Kind
name_from least most (Some s) = if is_name least most s then Ok s else Err cause.Range

-- a string of so many bytes of a name
unfoldable pub name_in : ℕ → ℕ → Data → Result (List ℕ) Cause
name_in least most d = name_from least most (as_str d)

abbrev pub axis_from : Option (List ℕ) → Result Bool Cause
axis_from None = Err cause.Kind
axis_from (Some s) = if bytes_eq s (codes "x") then Ok true else if bytes_eq s (codes "y") then Ok false else Err cause.Range

-- the string `x` or `y`: whether it is `x`
abbrev pub axis_in : Data → Result Bool Cause
axis_in d = axis_from (as_str d)

-- ---- keys

abbrev pub key_name : Key → List ℕ
key_name key.Format = codes "format"
key_name key.Grain = codes "grain"
key_name key.Plate = codes "plate"
key_name key.Step = codes "step"
key_name key.Margin = codes "margin"
key_name key.Grid = codes "grid"
key_name key.Part = codes "part"
key_name key.Name = codes "name"
key_name key.From = codes "from"
key_name key.To = codes "to"
key_name key.Bar = codes "bar"
key_name key.Corners = codes "corners"
key_name key.Low = codes "low"
key_name key.High = codes "high"

-- the key stands beside the cause
abbrev pub blamed : {A : Type 0} → Key → Result A Cause → Result A Bad
blamed k (Ok x) = Ok x
blamed k (Err why) = Err (record { key = k; cause = why })

abbrev pub present : {A : Type 0} → (Data → Result A Cause) → Option Data → Result A Cause
present rule (Some d) = rule d
present rule None = Err cause.Missing

abbrev pub if_present : {A : Type 0} → (Data → Result A Cause) → Option Data → Result (Option A) Cause
if_present rule (Some d) = after (rule d) (λ x. Ok (Some x))
if_present rule None = Ok None

unfoldable pub key_at : {A : Type 0} → Key → (Data → Result A Cause) → Members → Result A Bad
key_at k rule t = blamed k (present rule (get_member (key_name k) t))

unfoldable pub key_if : {A : Type 0} → Key → (Data → Result A Cause) → Members → Result (Option A) Bad
key_if k rule t = blamed k (if_present rule (get_member (key_name k) t))

-- ---- want of memory

-- memory is wanting, or this is the cause
abbrev pub StopsAs : {A : Type 0} → Result A Cause → Stop → Type 0
StopsAs r stop.NoMemory = Unit {0}
StopsAs r (stop.Cause why) = r ≡ Err why

-- memory is wanting, or this is the refusal
abbrev pub StopsKey : {A : Type 0} → Result A Bad → Unread → Type 0
StopsKey r unread.NoMemory = Unit {0}
StopsKey r (unread.Bad bad) = r ≡ Err bad
