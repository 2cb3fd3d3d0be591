-- What a plan and a tree say of the files that a job was made from.
--
--   no_plan_of_files    where a tree refutes an extent for the job, no plan of the files is valid there, nor at a smaller one
--   none_of_files       and none at all where it is the whole grid
--   least_of_files      a plan of the files at the next extent shows that this is their least one
--   first_of_files      and a plan of the files at the first one does so by itself
use Rattle.std.specs.Prelude.{ℕ, ◌+◌, ◌≤◌, List}
use Rattle.mesh_slices.specs.Agreement.{IsMadeFrom}
use Rattle.mesh_slices.specs.Laws.AgreeingJobs.{same_plans_of_job, same_least_of_job}
use Rattle.search_laws.specs.Laws.Refuting.{least_at_one, least_by_a_tree, refuted_has_none_below, refuted_on_all}
use Rattle.seq_model.specs.Scenes.{Valid, Least, scene_of_files, description_of}
use Rattle.seq_model.specs.Trees.{TreeRefutes}
use Rattle.seq_model.specs.declared.job.Job.{Job}
use Rattle.seq_model.specs.declared.mesh.Facet.{Facet}
use Rattle.seq_model.specs.declared.plan.Plan.{Plan}
use Rattle.seq_model.specs.declared.printer.Part.{Part}
use Rattle.seq_model.specs.declared.tree.Tree.{Tree}

pub no_plan_of_files : (listed : List Part) (meshes : List (List Facet)) (job : Job) → IsMadeFrom listed meshes job
    → (e f : ℕ) (tree : Tree) (plan : Plan) → TreeRefutes job e tree → f ≤ e → e ≤ job.printer.grid
    → Valid (scene_of_files (description_of job.printer listed) meshes) f plan → ⊥
no_plan_of_files listed meshes job made e f tree plan r h g valid =
    refuted_has_none_below job e f tree plan r h g ((same_plans_of_job listed meshes job made f plan).0 valid)

pub none_of_files : (listed : List Part) (meshes : List (List Facet)) (job : Job) → IsMadeFrom listed meshes job
    → (f : ℕ) (tree : Tree) (plan : Plan) → TreeRefutes job job.printer.grid tree
    → Valid (scene_of_files (description_of job.printer listed) meshes) f plan → ⊥
none_of_files listed meshes job made f tree plan r valid =
    refuted_on_all job f tree plan r ((same_plans_of_job listed meshes job made f plan).0 valid)

pub least_of_files : (listed : List Part) (meshes : List (List Facet)) (job : Job) → IsMadeFrom listed meshes job
    → (e : ℕ) (plan : Plan) (tree : Tree) → Valid (scene_of_files (description_of job.printer listed) meshes) (e + 1) plan
    → TreeRefutes job e tree → Least (scene_of_files (description_of job.printer listed) meshes) (e + 1)
least_of_files listed meshes job made e plan tree valid r =
    (same_least_of_job listed meshes job made (e + 1)).1
    (least_by_a_tree job e plan tree ((same_plans_of_job listed meshes job made (e + 1) plan).0 valid) r)

pub first_of_files : (listed : List Part) (meshes : List (List Facet)) (job : Job) → IsMadeFrom listed meshes job
    → (plan : Plan) → Valid (scene_of_files (description_of job.printer listed) meshes) 1 plan
    → Least (scene_of_files (description_of job.printer listed) meshes) 1
first_of_files listed meshes job made plan valid =
    (same_least_of_job listed meshes job made 1).1 (least_at_one job plan ((same_plans_of_job listed meshes job made 1 plan).0 valid))
