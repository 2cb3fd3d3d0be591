-- A trial: the job of the files that are made from a number, and the lines that tell of it.
--
--   IsMeshOfFile file m                 the file is this mesh, and its name is the file's
--   AreTrialInputs objects seed d ms    the files of so many objects, made from the seed, state this description and these meshes, in
--                                       their order
--   facet_count ms                      how many facets were read of all meshes, those that were dropped among them
--   zone_count objects                  how many zones the objects have together
--   IsTrial objects seed job facets     the job is that of these files, and so many facets were read of them
--   summary_text objects seed facets zones
--
--     trial 1 0
--     objects 1
--     facets 12
--     zones 1
use Rattle.std.specs.Prelude.{◌≡◌, ℕ, ◌+◌, pos, List, ◌++◌, length, codes}
use Rattle.std.specs.List.{AllZip, sum_by}
use Rattle.printer_text.specs.Printers.{DescribedBy}
use Rattle.run_files.specs.Files.{NamedMesh}
use Rattle.run_files.specs.Jobs.{IsJobOf}
use Rattle.seq_io.specs.declared.mem_file.MemFile.{MemFile}
use Rattle.seq_model.specs.Scenes.{Description}
use Rattle.seq_model.specs.declared.job.Job.{Job}
use Rattle.seq_model.specs.declared.job.Object.{Object}
use Rattle.seq_num.specs.Spelling.{spelling}
use Rattle.seq_trial.specs.Towers.{trial_files}
use Rattle.stl_text.specs.Meshes.{MeshOf}
use Rattle.text_lines.specs.Lines.{number_line}

pub record IsMeshOfFile (file : MemFile) (m : NamedMesh) : Type 0 where
  pub named : m.name ≡ file.name
  pub is : MeshOf file.bytes m.facets m.dropped

pub record AreTrialInputs (objects seed : ℕ) (d : Description) (meshes : List NamedMesh) : Type 0 where
  pub printer : DescribedBy (trial_files objects seed).printer d
  pub each : AllZip IsMeshOfFile (trial_files objects seed).meshes meshes

abbrev pub facet_count : List NamedMesh → ℕ
facet_count meshes = sum_by (λ (m : NamedMesh). length m.facets + m.dropped) meshes

abbrev pub zone_count : List Object → ℕ
zone_count objects = sum_by (λ (o : Object). length o.zones) objects

pub record IsTrial (objects seed : ℕ) (job : Job) (facets : ℕ) : Type 0 where
  pub description : Description
  pub meshes : List NamedMesh
  pub inputs : AreTrialInputs objects seed description meshes
  pub is_job : IsJobOf description meshes job
  pub counted : facets ≡ facet_count meshes

-- the two numbers on one line, and then a line for each count
unfoldable pub summary_text : ℕ → ℕ → ℕ → ℕ → List ℕ
summary_text objects seed facets zones =
    (codes "trial " ++ spelling (pos objects)) ++ (number_line (codes " ") (pos seed) ++ (number_line (codes "objects ") (pos objects)
    ++ (number_line (codes "facets ") (pos facets) ++ number_line (codes "zones ") (pos zones))))
