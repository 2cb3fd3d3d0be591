-- The printer of a description.
--
--   outline_of bar said     the corners that a part lists, or those of its bar
--   outline_in sizes bar t  the same, read from a table
--   part_with begun corners the part of these keys with these corners
--   part_in n sizes t       the part that table n lists, 1 + p for listed part p
--   parts_behind n sizes done ds    the listed parts from number n on, behind those that are read
--   top_in t                what the top table says
--   description_in t        the description that a tree states, or the first refusal
--   IsTreeOf bytes t        the bytes are UTF-8 and TOML, and t is their tree
--   DescribedBy bytes d     the bytes state the description d, its parts with their corners as they are listed
--   IsKept part kept        the part with the corners of its hull in place of its corners
--   ArePartsOf sizes listed kept    the parts that are kept of those that are listed
--   PrinterOf bytes p       the bytes describe the printer p, which keeps the hulls of its parts
--   IsRefusedPrinter bytes e    the bytes are refused for this cause
use Rattle.std.specs.Prelude.{◌≡◌, ◌↔◌, ◌⊎◌, ℕ, ◌+◌, Bool, List, [], ◌∷◌, ◌++◌, All, Contains, Option, Some, None, Result, Ok, Err, IsUtf8, option_map}
use Rattle.outline_laws.specs.Corners.{AreCorners}
use Rattle.seq_model.specs.Points.{at_spot, Point}
use Rattle.printer_envelopes.specs.Bands.{first_band, last_band}
use Rattle.printer_envelopes.specs.Bars.{bar}
use Rattle.seq_model.specs.Outlines.{Inner, Within}
use Rattle.seq_model.specs.Parts.{tip, AreParts}
use Rattle.seq_model.specs.Scenes.{Description, description_of}
use Rattle.seq_model.specs.declared.printer.Part.{Part}
use Rattle.seq_model.specs.declared.printer.Printer.{Printer}
use Rattle.seq_model.specs.declared.printer.Spot.{Spot}
use Rattle.toml.specs.Data.{Items, no_items, item, Members, as_table}
use Rattle.toml.specs.Parse.{parse_document}
use Rattle.printer_text.specs.declared.Key.TheVariants as key
use Rattle.printer_text.specs.declared.Prn.{Prn}
use Rattle.printer_text.specs.declared.Prn.TheVariants as prn
use Rattle.printer_text.specs.declared.top.Sizes.{Sizes}
use Rattle.printer_text.specs.declared.values.Bad.{Bad}
use Rattle.printer_text.specs.Keys.{top_keys, part_keys, outline_keys}
use Rattle.printer_text.specs.Tables.{Said, nothing, about, reading, names, numbered, without_others}
use Rattle.printer_text.specs.Values.{after}

-- the corners as they are listed, or the rectangle of the bar
abbrev pub outline_of : Option Bool → Said → List Spot
outline_of None said = said.corners
outline_of (Some along_x) said = bar along_x said.low said.high said.sizes.width said.sizes.depth

unfoldable pub outline_in : Sizes → Option Bool → Members → Result (List Spot) Bad
outline_in sizes axis t = after (reading (outline_keys axis) t (about sizes)) (λ said. Ok (outline_of axis said))

abbrev pub part_with : Said → List Spot → Part
part_with begun corners = record {
  name = begun.name;
  corners = corners;
  lo = first_band begun.from begun.sizes.step;
  hi = option_map (λ to. last_band to begun.sizes.step) begun.to;
}

-- its first keys, then those of its outline, then its other keys
unfoldable pub part_in : ℕ → Sizes → Members → Result Part Prn
part_in n sizes t =
    after (numbered n (reading part_keys t (about sizes))) (λ begun.
    after (numbered n (outline_in sizes begun.bar t)) (λ corners.
    without_others n (names (part_keys ++ outline_keys begun.bar)) t (part_with begun corners)))

-- an element that is no table isn't met: `part` is an array of tables
abbrev pub part_from : ℕ → Sizes → Option Members → Result Part Prn
part_from n sizes (Some t) = part_in n sizes t
part_from n sizes None = Err (prn.Kind key.Part 0)

abbrev pub parts_behind : ℕ → Sizes → List Part → Items → Result (List Part) Prn
parts_behind n sizes done no_items = Ok done
parts_behind n sizes done (item d ds) = after (part_from n sizes (as_table d)) (λ part. parts_behind (n + 1) sizes (done ++ part ∷ []) ds)

abbrev pub description_with : Sizes → List Part → Description
description_with sizes parts = record {
  grain = sizes.grain;
  width = sizes.width;
  depth = sizes.depth;
  step = sizes.step;
  margin = sizes.margin;
  grid = sizes.grid;
  parts = parts;
}

-- the top table and its other keys
unfoldable pub top_in : Members → Result Said Prn
top_in t = after (numbered 0 (reading top_keys t nothing)) (λ said. without_others 0 (names top_keys) t said)

-- the top table, and then each listed part, behind the tip
unfoldable pub description_in : Members → Result Description Prn
description_in t =
    after (top_in t) (λ top.
    after (parts_behind 1 top.sizes (tip ∷ []) top.listed) (λ parts.
    Ok (description_with top.sizes parts)))

pub record IsTreeOf (bytes : List ℕ) (t : Members) : Type 0 where
  pub text : IsUtf8 bytes
  pub parsed : parse_document bytes ≡ Some t

pub record DescribedBy (bytes : List ℕ) (d : Description) : Type 0 where
  pub tree : Members
  pub is_tree : IsTreeOf bytes tree
  pub states : description_in tree ≡ Ok d

-- the same name and bands; of the corners those of their convex hull, counterclockwise from the least: the same inner points
pub record IsKept (part kept : Part) : Type 0 where
  pub name : kept.name ≡ part.name
  pub lo : kept.lo ≡ part.lo
  pub hi : kept.hi ≡ part.hi
  pub corners : AreCorners kept.corners
  pub members : All (Contains part.corners) kept.corners
  pub within : All (λ s. Within kept.corners (at_spot s)) part.corners
  pub inner : (q : Point) → Inner kept.corners q ↔ Inner part.corners q

-- part by part
abbrev pub AreKept : List Part → List Part → Type 0
AreKept [] [] = Unit {0}
AreKept (part ∷ parts) (kept ∷ keeps) = IsKept part kept × AreKept parts keeps
AreKept _ _ = ⊥

-- the parts that a printer keeps of those that its description lists
pub record ArePartsOf (sizes : Sizes) (listed : Items) (kept : List Part) : Type 0 where
  pub parts : List Part
  pub read : parts_behind 1 sizes (tip ∷ []) listed ≡ Ok parts
  pub keeps : AreKept parts kept
  pub sound : AreParts kept

pub record PrinterOf (bytes : List ℕ) (printer : Printer) : Type 0 where
  pub parts : List Part
  pub described : DescribedBy bytes (description_of printer parts)
  pub kept : AreKept parts printer.parts

-- a tree is refused at its first wrong key; other bytes are no TOML
pub record IsRefusedTree (bytes : List ℕ) (e : Prn) : Type 0 where
  pub tree : Members
  pub is_tree : IsTreeOf bytes tree
  pub refused : description_in tree ≡ Err e

pub record IsNoTree (bytes : List ℕ) (e : Prn) : Type 0 where
  pub toml : e ≡ prn.Toml
  pub none : (t : Members) → IsTreeOf bytes t → ⊥

abbrev pub IsRefusedPrinter : List ℕ → Prn → Type 0
IsRefusedPrinter bytes e = IsRefusedTree bytes e ⊎ IsNoTree bytes e
