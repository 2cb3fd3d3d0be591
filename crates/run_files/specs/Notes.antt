-- What a run notes of its meshes.
--
--   AreNotesOf ms notes        the notes are those due for the meshes, in their order
--   IsNoteFor task m notes     the note that the task gives of one mesh
--   AreNotesFor task ms notes  the notes that it gives of all of them
use Rattle.std.specs.Prelude.{◌≡◌, ℕ, List, [], ◌∷◌, ◌++◌}
use Rattle.mesh_checks.specs.Edges.{open_edges}
use Rattle.mesh_checks.specs.Volumes.{six_volume}
use Rattle.mesh_notes.specs.Notes.{IsNoteOf}
use Rattle.run_files.specs.Files.{NamedMesh}
use Rattle.run_files.specs.declared.words.Task.{Task}
use Rattle.run_files.specs.declared.words.Task.TheVariants as Tasks

abbrev pub IsMeshNote : NamedMesh → List ℕ → Type 0
IsMeshNote m notes = IsNoteOf m.name (open_edges m.facets) (six_volume m.facets) m.dropped notes

-- the note of the first mesh, and those of the others behind it
pub record NotesBegin (P : List ℕ → Type 0) (m : NamedMesh) (notes : List ℕ) : Type 0 where
  pub first : List ℕ
  pub rest : List ℕ
  pub is : notes ≡ first ++ rest
  pub note : IsMeshNote m first
  pub others : P rest

abbrev pub AreNotesOf : List NamedMesh → List ℕ → Type 0
AreNotesOf [] notes = notes ≡ []
AreNotesOf (m ∷ meshes) notes = NotesBegin (AreNotesOf meshes) m notes

-- `arrange` notes what there is to note, and the others nothing
abbrev pub IsNoteFor : Task → NamedMesh → List ℕ → Type 0
IsNoteFor (Tasks.Arrange strict budget) m notes = IsMeshNote m notes
IsNoteFor (Tasks.Least strict budget) m notes = IsMeshNote m notes
IsNoteFor Tasks.Audit m notes = notes ≡ []
IsNoteFor Tasks.Check m notes = notes ≡ []
IsNoteFor Tasks.Slices m notes = notes ≡ []

abbrev pub AreNotesFor : Task → List NamedMesh → List ℕ → Type 0
AreNotesFor (Tasks.Arrange strict budget) meshes notes = AreNotesOf meshes notes
AreNotesFor (Tasks.Least strict budget) meshes notes = AreNotesOf meshes notes
AreNotesFor Tasks.Audit meshes notes = notes ≡ []
AreNotesFor Tasks.Check meshes notes = notes ≡ []
AreNotesFor Tasks.Slices meshes notes = notes ≡ []
