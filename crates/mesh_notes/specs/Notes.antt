-- What is told of a mesh that is open, inverted or cleaned.
--
--   volume_text v        six times the volume of a mesh
--   looks_text e v       its open edges and six times its volume
--   dropped_text n       its dropped facets, and the end of the line
--   note_line name e v n the line
--   IsNoteOf name e v n notes   the notes are this line where one is due, and else nothing
use Rattle.std.specs.Prelude.{◌≡◌, ℕ, ℤ, pos, List, [], ◌++◌, codes}
use Rattle.mesh_checks.specs.Verdicts.{IsDue}
use Rattle.seq_num.specs.Spelling.{spelling}

unfoldable pub volume_text : ℤ → List ℕ
volume_text volume = codes ", six volume " ++ spelling volume

unfoldable pub looks_text : ℕ → ℤ → List ℕ
looks_text edges volume = codes "open edges " ++ (spelling (pos edges) ++ volume_text volume)

unfoldable pub dropped_text : ℕ → List ℕ
dropped_text dropped = codes ", dropped " ++ (spelling (pos dropped) ++ codes "\n")

abbrev pub note_line : List ℕ → ℕ → ℤ → ℕ → List ℕ
note_line name edges volume dropped = codes "note: " ++ (name ++ (codes ": " ++ (looks_text edges volume ++ dropped_text dropped)))

pub record IsNoteOf (name : List ℕ) (edges : ℕ) (volume : ℤ) (dropped : ℕ) (notes : List ℕ) : Type 0 where
  pub due : IsDue edges volume dropped → notes ≡ note_line name edges volume dropped
  pub none : (IsDue edges volume dropped → ⊥) → notes ≡ []
