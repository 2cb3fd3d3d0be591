-- What made files are to the readers of meshes and of printers.
--
--   facets_at s              how many facets a tower has that is drawn at s: twelve for each layer
--   IsMadeMesh bytes n       the bytes are read as n facets, at least one, of which none is dropped, and which have at most ten bands of 10 mm
--   made_description         what the made description states: a grain of 1 mm, a plate of 200 by 200 grains, bands of 10 mm, and two parts
--                            behind the tip, a nozzle and a gantry that reaches over the plate from band 2 on
use Rattle.std.specs.Prelude.{◌≡◌, ◌≢◌, ℕ, ◌+◌, ◌*◌, ◌≤◌, pos, neg_ℤ, List, [], ◌∷◌, length, codes, None, Ok}
use Rattle.seq_model.specs.Bands.{band_count}
use Rattle.seq_model.specs.Parts.{tip}
use Rattle.seq_model.specs.Scenes.{Description}
use Rattle.seq_model.specs.declared.mesh.Facet.{Facet}
use Rattle.seq_model.specs.declared.printer.Part.{Part}
use Rattle.seq_model.specs.declared.printer.Spot.{Spot}
use Rattle.seq_trial.specs.Towers.{tower_at}
use Rattle.stl_text.specs.Meshes.{File}

abbrev pub facets_at : ℕ → ℕ
facets_at s = 12 * ((tower_at s).higher + 1)

pub record IsMadeMesh (bytes : List ℕ) (n : ℕ) : Type 0 where
  pub facets : List Facet
  pub read : File bytes (Ok (record { facets = facets; dropped = 0 }))
  pub some : facets ≢ []
  pub count : length facets ≡ n
  pub few_bands : band_count facets (pos 10_000) ≤ 10

abbrev rectangle : ℕ → ℕ → List Spot
rectangle x y =
    record { x = neg_ℤ (pos x); y = neg_ℤ (pos y) } ∷ record { x = pos x; y = neg_ℤ (pos y) }
    ∷ record { x = pos x; y = pos y } ∷ record { x = neg_ℤ (pos x); y = pos y } ∷ []

abbrev nozzle : Part
nozzle = record { name = codes "nozzle"; corners = rectangle 2 2; lo = 0; hi = None }

abbrev gantry : Part
gantry = record { name = codes "gantry"; corners = rectangle 201 10; lo = 2; hi = None }

abbrev pub made_description : Description
made_description = record {
  grain = pos 1_000;
  width = pos 200;
  depth = pos 200;
  step = pos 10_000;
  margin = pos 1;
  grid = 100;
  parts = tip ∷ nozzle ∷ gantry ∷ [];
}
