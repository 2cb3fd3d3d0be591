-- The files of a trial: a printer, and one mesh for each object, a tower of layers that draw in.
--
--   Size                          how wide and how deep the lowest layer of a tower is, in mm
--   fits size x, narrowed size x v   a layer drawn in by x on each side is 4 mm wide and deep or more; x and v more, where that fits
--   Vertex, vertex_line v         a corner of a facet, in mm, and its line
--   facet_text a b c              the lines of a facet
--   layer_text size low x         the twelve facets of a layer of 5 mm from `low` on, drawn in by x
--   higher_text left size low x s   the layers above one drawn in by x, so many, each drawn in further by what is drawn at s
--   Tower, tower_at s             the layers and the size of a tower, drawn at s, and the state after its last draw
--   tower_text s, mesh_text o s   its facets, and its mesh under the name of object o
--   meshes_from left o s          the files of so many objects from object o on
--   trial_files objects seed      the printer and the meshes
use Rattle.std.specs.Prelude.{ℕ, zero, suc, ◌+◌, ◌-◌, ◌*◌, pos, Bool, ◌&&◌, nat_le, if◌then◌else◌, List, [], ◌∷◌, ◌++◌, codes}
use Rattle.seq_io.specs.declared.mem_file.MemFile.{MemFile}
use Rattle.seq_num.specs.Spelling.{spelling}
use Rattle.seq_trial.specs.Draws.{next_state, drawn, later}
use Rattle.seq_trial.specs.declared.tower.Size.{Size}
use Rattle.seq_trial.specs.declared.tower.Tower.{Tower}
use Rattle.seq_trial.specs.declared.facets.Vertex.{Vertex}
use Rattle.seq_trial.specs.declared.files.TrialFiles.{TrialFiles}

abbrev pub fits : Size → ℕ → Bool
fits size x = nat_le (2 * x + 4) size.width && nat_le (2 * x + 4) size.depth

abbrev pub narrowed : Size → ℕ → ℕ → ℕ
narrowed size x v = if fits size (x + v) then x + v else x

abbrev pub vertex_line : Vertex → List ℕ
vertex_line v = codes "vertex " ++ (spelling (pos v.x) ++ (codes " " ++ (spelling (pos v.y) ++ (codes " " ++ (spelling (pos v.z) ++ codes "\n")))))

unfoldable pub facet_text : Vertex → Vertex → Vertex → List ℕ
facet_text a b c =
    codes "facet normal 0 0 0\nouter loop\n" ++ (vertex_line a ++ (vertex_line b ++ (vertex_line c ++ codes "endloop\nendfacet\n")))

-- the corners of a layer at a height, counterclockwise
abbrev pub first : Size → ℕ → ℕ → Vertex
first size x z = record { x = x; y = x; z = z }

abbrev pub second : Size → ℕ → ℕ → Vertex
second size x z = record { x = size.width - x; y = x; z = z }

abbrev pub third : Size → ℕ → ℕ → Vertex
third size x z = record { x = size.width - x; y = size.depth - x; z = z }

abbrev pub fourth : Size → ℕ → ℕ → Vertex
fourth size x z = record { x = x; y = size.depth - x; z = z }

-- the bottom, seen from below, and the top, seen from above
unfoldable pub floor_text : Size → ℕ → ℕ → List ℕ
floor_text size x z =
    facet_text (first size x z) (third size x z) (second size x z) ++ facet_text (first size x z) (fourth size x z) (third size x z)

unfoldable pub roof_text : Size → ℕ → ℕ → List ℕ
roof_text size x z =
    facet_text (first size x z) (second size x z) (third size x z) ++ facet_text (first size x z) (third size x z) (fourth size x z)

-- a wall between two corners, seen from outside
unfoldable pub wall_text : Vertex → Vertex → Vertex → Vertex → List ℕ
wall_text a b above_b above_a = facet_text a b above_b ++ facet_text a above_b above_a

unfoldable pub walls_text : Size → ℕ → ℕ → ℕ → List ℕ
walls_text size x low high =
    wall_text (first size x low) (second size x low) (second size x high) (first size x high)
    ++ (wall_text (second size x low) (third size x low) (third size x high) (second size x high)
    ++ (wall_text (third size x low) (fourth size x low) (fourth size x high) (third size x high)
    ++ wall_text (fourth size x low) (first size x low) (first size x high) (fourth size x high)))

unfoldable pub layer_text : Size → ℕ → ℕ → List ℕ
layer_text size low x = floor_text size x low ++ (roof_text size x (low + 5) ++ walls_text size x low (low + 5))

abbrev pub higher_text : ℕ → Size → ℕ → ℕ → ℕ → List ℕ
higher_text zero size low x s = []
higher_text (suc left) size low x s =
    layer_text size low (narrowed size x (drawn 2 s)) ++ higher_text left size (low + 5) (narrowed size x (drawn 2 s)) (next_state s)

-- one layer is always there, and `higher` more
abbrev pub tower_at : ℕ → Tower
tower_at s = record { higher = drawn 20 s; size = record { width = 12 + drawn 13 (later 1 s); depth = 12 + drawn 13 (later 2 s) } }

unfoldable pub tower_text : Tower → ℕ → List ℕ
tower_text t s = layer_text t.size 0 0 ++ higher_text t.higher t.size 5 0 s

unfoldable pub name_of : ℕ → List ℕ
name_of o = codes "o" ++ spelling (pos o)

abbrev pub mesh_text : ℕ → ℕ → List ℕ
mesh_text o s =
    codes "solid " ++ (name_of o ++ (codes "\n" ++ (tower_text (tower_at s) (later 3 s) ++ (codes "endsolid " ++ (name_of o ++ codes "\n")))))

abbrev pub mesh_file : ℕ → ℕ → MemFile
mesh_file o s = record { name = name_of o ++ codes ".stl"; bytes = mesh_text o s }

abbrev pub meshes_from : ℕ → ℕ → ℕ → List MemFile
meshes_from zero o s = []
meshes_from (suc left) o s = mesh_file o s ∷ meshes_from left (o + 1) (later (3 + (tower_at s).higher) s)

abbrev pub printer_text : List ℕ
printer_text = codes "format = 1\ngrain = 1\nplate = [200, 200]\nstep = 10\nmargin = 1\ngrid = 100\n\n[[part]]\nname = \"nozzle\"\nfrom = 0\ncorners = [[-2, -2], [2, -2], [2, 2], [-2, 2]]\n\n[[part]]\nname = \"gantry\"\nfrom = 20\nbar = \"x\"\nlow = -10\nhigh = 10\n"

abbrev pub trial_files : ℕ → ℕ → TrialFiles
trial_files objects seed = record { printer = printer_text; meshes = meshes_from objects 0 seed }
