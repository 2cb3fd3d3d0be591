-- The mesh of a file.
--
--   IsBinary bytes                  they are as long as a binary mesh of as many facets as the number at byte 80 says
--   HasThreeCorners f               no two corners of the facet are equal
--   count found                     how many facets were found: those kept, in the order of the file, and those dropped
--   with_facet f before             one more: kept if it has three corners, else dropped
--   Body bytes at before r          the file from `at` on, inside a solid and behind what was found before, reads r
--   File bytes r                    the whole file reads r
--   MeshOf bytes facets dropped     the bytes are a mesh of these facets, and nothing else
--   IsRefused bytes e               the bytes are refused so, and nothing else
use Rattle.std.specs.Prelude.{◌≡◌, ℕ, ◌+◌, ◌*◌, ◌≤◌, ◌<◌, List, [], ◌∷◌, ◌++◌, length, slice_index, Some, None, Result, Ok, Err}
use Rattle.seq_model.specs.declared.mesh.Facet.{Facet}
use Rattle.stl_text.specs.declared.Stl.{Stl}
use Rattle.stl_text.specs.declared.Stl.TheVariants.{Binary, NoFacet}
use Rattle.stl_text.specs.declared.parts.Part.TheVariants as Parts
use Rattle.stl_text.specs.declared.found.Found.{Found}
use Rattle.stl_text.specs.Reading.{Reading, gives, refuses, ◌>>=◌, choice, ReadsOnly}
use Rattle.stl_text.specs.Grammar.{opening, part}

-- the little-endian number of the bytes 80 to 83
abbrev pub facets_announced : List ℕ → ℕ
facets_announced bytes = slice_index bytes 80 + 256 * slice_index bytes 81 + 65_536 * slice_index bytes 82 + 16_777_216 * slice_index bytes 83

pub record IsBinary (bytes : List ℕ) : Type 0 where
  pub header : 84 ≤ length bytes
  pub facets : length bytes ≡ 84 + 50 * facets_announced bytes

pub record HasThreeCorners (f : Facet) : Type 0 where
  pub a_b : ¬ (f.a ≡ f.b)
  pub b_c : ¬ (f.b ≡ f.c)
  pub c_a : ¬ (f.c ≡ f.a)

abbrev pub nothing : Found
nothing = record { facets = []; dropped = 0 }

abbrev pub count : Found → ℕ
count found = length found.facets + found.dropped

pub data WithFacet (f : Facet) (before after : Found) : Type 0 where
  keeps : HasThreeCorners f → after ≡ record { facets = before.facets ++ f ∷ []; dropped = before.dropped } → WithFacet f before after
  drops : ¬ HasThreeCorners f → after ≡ record { facets = before.facets; dropped = before.dropped + 1 } → WithFacet f before after

pub data Body (bytes : List ℕ) : ℕ → Found → Result Found Stl → Type 0 where
  facet : {at to : ℕ} {f : Facet} {before after : Found} {r : Result Found Stl} → part bytes at (count before) (Ok (Parts.Facet f to)) → WithFacet f before after → Body bytes to after r → Body bytes at before r
  solid : {at to : ℕ} {before : Found} {r : Result Found Stl} → part bytes at (count before) (Ok (Parts.Ending (Some to))) → Body bytes to before r → Body bytes at before r
  end : {at : ℕ} {before : Found} {r : Result Found Stl} → part bytes at (count before) (Ok (Parts.Ending None)) → r ≡ Ok before → Body bytes at before r
  refused : {at : ℕ} {before : Found} {e : Stl} {r : Result Found Stl} → part bytes at (count before) (Err e) → r ≡ Err e → Body bytes at before r

abbrev pub body : List ℕ → ℕ → Found → Reading Found
body bytes at before = Body bytes at before

-- a file needs a facet, be it a dropped one
abbrev pub File : List ℕ → Reading Found
File bytes = choice (IsBinary bytes) (refuses Binary) (
    do
      at ← opening bytes 0
      found ← body bytes at nothing
      choice (0 < count found) (gives found) (refuses NoFacet)
    )

abbrev pub MeshOf : List ℕ → List Facet → ℕ → Type 0
MeshOf bytes facets dropped = ReadsOnly (File bytes) (Ok (record { facets = facets; dropped = dropped }))

abbrev pub IsRefused : List ℕ → Stl → Type 0
IsRefused bytes e = ReadsOnly (File bytes) (Err e)
