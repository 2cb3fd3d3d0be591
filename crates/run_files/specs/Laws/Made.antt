-- The job of the files is made from them, so it has their valid plans.
--
--   parts_same      parts that a printer keeps have the outlines of those that are listed
--   zones_same      objects have the zones of their meshes
--   made_from       the job of a description and its meshes is made from them
--   same_plans      and has the valid plans of the files
--   least_of_files  so its least extent is that of the files
use Rattle.std.proofs.Common.{ℕ, List, [], ◌∷◌, Contains, sym, subst}
use Rattle.std.specs.Prelude.{◌↔◌}
use Rattle.std.specs.List.{AllZip}
use Rattle.integer_laws.specs.Laws.Members.{All-in, All-from_in, In-from_contains}
use Rattle.mesh_slices.specs.Agreement.{HasZonesOf, IsMadeFrom, SamePart}
use Rattle.mesh_slices.specs.Laws.AgreeingJobs.{same_plans_of_job, zones_of}
use Rattle.outline_laws.specs.Laws.Means.{member_within}
use Rattle.printer_text.specs.Printers.{AreKept, IsKept}
use Rattle.seq_model.specs.Jobs.{scene_of_job}
use Rattle.seq_model.specs.Outlines.{Within}
use Rattle.seq_model.specs.Points.{at_spot}
use Rattle.seq_model.specs.Scenes.{Description, Least, Valid, scene_of_files}
use Rattle.seq_model.specs.declared.job.Job.{Job}
use Rattle.seq_model.specs.declared.job.Object.{Object}
use Rattle.seq_model.specs.declared.plan.Plan.{Plan}
use Rattle.seq_model.specs.declared.printer.Part.{Part}
use Rattle.seq_model.specs.declared.printer.Printer.{Printer}
use Rattle.run_files.specs.Files.{NamedMesh, facets_of}
use Rattle.run_files.specs.Jobs.{IsJobOf, IsObjectFor}

part_same : (part kept : Part) → IsKept part kept → SamePart part kept
part_same part kept k = record {
  lo = sym k.lo;
  hi = sym k.hi;
  outline = record {
    inner = λ q. ((k.inner q).1, (k.inner q).0);
    within_second = k.within;
    within_first = All-from_in (λ s. Within part.corners (at_spot s)) kept.corners
        (λ s i. member_within s part.corners (In-from_contains part.corners s (All-in (Contains part.corners) kept.corners s k.members i)));
  };
}

pub parts_same : (parts keeps : List Part) → AreKept parts keeps → AllZip SamePart parts keeps
parts_same [] [] k = tt
parts_same [] (x ∷ keeps) k = absurd k
parts_same (p ∷ parts) [] k = absurd k
parts_same (p ∷ parts) (x ∷ keeps) k = (part_same p x k.0, parts_same parts keeps k.1)

pub zones_same : (printer : Printer) (meshes : List NamedMesh) (objects : List Object) → AllZip (IsObjectFor printer) meshes objects → AllZip (HasZonesOf printer) (facets_of meshes) objects
zones_same printer [] [] z = tt
zones_same printer [] (o ∷ objects) z = absurd z
zones_same printer (m ∷ meshes) [] z = absurd z
zones_same printer (m ∷ meshes) (o ∷ objects) z = (zones_of m.name m.facets printer o z.0, zones_same printer meshes objects z.1)

pub made_from : (d : Description) (meshes : List NamedMesh) (job : Job) → IsJobOf d meshes job → IsMadeFrom d.parts (facets_of meshes) job
made_from d meshes job j = record {
  objects = zones_same job.printer meshes job.objects j.objects;
  parts = parts_same d.parts job.printer.parts j.printer.parts;
}

pub same_plans : (d : Description) (meshes : List NamedMesh) (job : Job) → IsJobOf d meshes job → (e : ℕ) (plan : Plan)
    → Valid (scene_of_files d (facets_of meshes)) e plan ↔ Valid (scene_of_job job) e plan
same_plans d meshes job j e plan =
    subst (λ (x : Description). Valid (scene_of_files x (facets_of meshes)) e plan ↔ Valid (scene_of_job job) e plan) j.printer.numbers
    (same_plans_of_job d.parts (facets_of meshes) job (made_from d meshes job j) e plan)

pub least_of_files : (d : Description) (meshes : List NamedMesh) (job : Job) → IsJobOf d meshes job → (e : ℕ) → Least (scene_of_job job) e → Least (scene_of_files d (facets_of meshes)) e
least_of_files d meshes job j e l = record {
  plan = l.plan;
  valid = (same_plans d meshes job j e l.plan).1 l.valid;
  none = λ f below q valid. l.none f below q ((same_plans d meshes job j f q).0 valid);
}
