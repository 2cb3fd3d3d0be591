-- Files that are told hold one description and one mesh each. So a file that is refused can't be used.
--
--   printer_file-one         a file states one description
--   refused_files-unusable   where one file is refused, not all can be used
--   same_inputs, turned      the files that words name say one thing, where it is known that they state one plan
use Rattle.std.proofs.Common.{◌≡◌, ℕ, zero, suc, ◌<◌, ◌≤◌, ℤ, Bool, List, [], ◌∷◌, length, slice_get, Option, Some, None, IsSome, refl, sym, ap, ◌∙◌, subst, arith}
use Rattle.mesh_checks.specs.Edges.{open_edges}
use Rattle.mesh_checks.specs.Verdicts.{IsClosedOutward}
use Rattle.mesh_checks.specs.Volumes.{six_volume}
use Rattle.mesh_slices.specs.Objects.{IsObjectOf}
use Rattle.printer_text.specs.Laws.Descriptions.{description-one, description-refusal}
use Rattle.printer_text.specs.Printers.{DescribedBy}
use Rattle.seq_io.specs.Files.{bytes_of, GivesFile, LongerThan}
use Rattle.seq_io.specs.declared.mem_file.MemFile.{MemFile}
use Rattle.seq_model.specs.Bands.{band_count}
use Rattle.seq_model.specs.Scenes.{Description}
use Rattle.seq_model.specs.declared.mesh.Facet.{Facet}
use Rattle.seq_model.specs.declared.job.Object.{Object}
use Rattle.seq_model.specs.declared.printer.Printer.{Printer}
use Rattle.std.specs.List.{AllZip}
use Rattle.stl_text.specs.Laws.Meshes.{one_mesh, refused_no_mesh}
use Rattle.stl_text.specs.Meshes.{MeshOf}
use Rattle.run_files.specs.Causes.{IsNoPlanFile, IsRefusedMesh, IsRefusedPlan, IsUnfitFile, Refuses}
use Rattle.run_files.specs.Files.{AreUsable, HasNamedPlan, Inputs, IsOnlyPlan, IsMeshFile, IsPrinterFile, IsUsableMesh, NamedMesh, StatesPlan, facets_of, mesh_limit, name_or, plan_limit, printer_limit}
use Rattle.run_files.specs.Jobs.{IsObjectFor}
use Rattle.run_files.specs.Plans.{IsStatedBy}
use Rattle.run_files.specs.Words.{is_strict}
use Rattle.run_files.specs.declared.plans.GivenPlan.{GivenPlan}
use Rattle.run_files.specs.declared.stop.Cause.{Cause}
use Rattle.run_files.specs.declared.stop.Cause.TheVariants as Causes
use Rattle.run_files.specs.declared.stop.NamedFile.{NamedFile}
use Rattle.run_files.specs.declared.stop.NamedFile.TheVariants as Named
use Rattle.run_files.specs.declared.words.Asked.{Asked}
use Rattle.run_files.specs.declared.words.Task.{Task}

pub printer_file-one : (files : List MemFile) (name : List ℕ) (d e : Description) → IsPrinterFile (Some files) name d → IsPrinterFile (Some files) name e → d ≡ e
printer_file-one files name d e p q = description-one p.bytes d e p.is (subst (λ b. DescribedBy b e) (q.gives ∙ sym p.gives) q.is)

mesh_file-one : (files : List MemFile) (name : List ℕ) (fs gs : List Facet) (m n : ℕ) → IsMeshFile (Some files) name fs m → IsMeshFile (Some files) name gs n → fs ≡ gs
mesh_file-one files name fs gs m n p q = (one_mesh p.bytes fs gs m n p.is (subst (λ b. MeshOf b gs n) (q.gives ∙ sym p.gives) q.is)).0

too_long : (limit : ℕ) (files : List MemFile) (name bytes : List ℕ) → LongerThan limit (Some files) name → GivesFile (Some files) name bytes → length bytes ≤ limit → ⊥
too_long limit files name bytes long gives short =
    let same : length bytes ≡ length (bytes_of files name) = ap length gives in
    absurd (omega (arith, long, same, short))

-- a mesh that can be used can't be refused
module _ (files : List MemFile) (name : List ℕ) (task : Task) (step : ℤ) (m : NamedMesh) (u : IsUsableMesh (Some files) (is_strict task) step name m) where
  unfit : (c : Cause) → IsUnfitFile (Some files) name task step c → ⊥
  unfit Causes.TooLong r = r.unfit
  unfit (Causes.Printer why) r = r.unfit
  unfit (Causes.Plan why) r = r.unfit
  unfit (Causes.Block why) r = r.unfit
  unfit (Causes.Stl why) r = r.unfit
  unfit (Causes.NotClosed edges volume) r =
      let same = mesh_file-one files name r.facets m.facets r.dropped m.dropped r.is u.is in
      let n = r.unfit in
      let count : open_edges m.facets ≡ edges = sym (n.counted ∙ ap open_edges same) in
      let sum : six_volume m.facets ≡ volume = sym (n.summed ∙ ap six_volume same) in
      n.refused (subst (IsClosedOutward edges) sum (subst (λ k. IsClosedOutward k (six_volume m.facets)) count (u.passes.closed n.asked)))
  unfit Causes.Flat r =
      let same = mesh_file-one files name r.facets m.facets r.dropped m.dropped r.is u.is in
      u.slices.some (sym same ∙ r.unfit.1)
  unfit (Causes.TooTall bands) r =
      let same = mesh_file-one files name r.facets m.facets r.dropped m.dropped r.is u.is in
      let count : bands ≡ band_count m.facets step = r.unfit.1.count ∙ ap (λ fs. band_count fs step) same in
      absurd (omega (arith, count, r.unfit.1.many, u.slices.few))

  usable_mesh : (c : Cause) → IsRefusedMesh (Some files) name task step c → ⊥
  usable_mesh Causes.TooLong r = too_long mesh_limit files name u.is.bytes r u.is.gives u.is.short
  usable_mesh (Causes.Printer e) r = r
  usable_mesh (Causes.Plan e) r = r
  usable_mesh (Causes.Block e) r = r
  usable_mesh (Causes.Stl e) r = refused_no_mesh r.bytes e m.facets m.dropped r.refused (subst (λ b. MeshOf b m.facets m.dropped) (u.is.gives ∙ sym r.gives) u.is.is)
  usable_mesh (Causes.NotClosed edges volume) r = unfit (Causes.NotClosed edges volume) r
  usable_mesh Causes.Flat r = unfit Causes.Flat r
  usable_mesh (Causes.TooTall bands) r = unfit (Causes.TooTall bands) r

-- the mesh of a number among those that can be used
record Chosen (R : List ℕ → NamedMesh → Type 0) (names : List (List ℕ)) (k : ℕ) : Type 0 where
  mesh : NamedMesh
  is : R (name_or (slice_get names k)) mesh

chosen : (R : List ℕ → NamedMesh → Type 0) (names : List (List ℕ)) (meshes : List NamedMesh) (k : ℕ) → AllZip R names meshes → k < length names → Chosen R names k
chosen R [] meshes k z h = absurd (omega (arith, h))
chosen R (n ∷ ns) [] k z h = absurd z
chosen R (n ∷ ns) (m ∷ ms) zero z h = record { mesh = m; is = z.0 }
chosen R (n ∷ ns) (m ∷ ms) (suc k) z h = (let later = chosen R ns ms k z.1 (omega (arith, h)) in record { mesh = later.mesh; is = later.is })

-- a plan that a word names can't be refused where it can be used
stated_unusable : (files : List MemFile) (task : Task) (name : List ℕ) (plan : GivenPlan) (c : Cause) → StatesPlan (Some files) task name plan → IsNoPlanFile (Some files) task name c → ⊥
stated_unusable files task name plan c s r = r.refused.none plan (subst (λ b. IsStatedBy task b plan) (s.gives ∙ sym r.gives) s.is)

plan_unusable : (files : List MemFile) (task : Task) (name : List ℕ) (plan : GivenPlan) (c : Cause) → StatesPlan (Some files) task name plan → IsRefusedPlan (Some files) task name c → ⊥
plan_unusable files task name plan Causes.TooLong s r = too_long plan_limit files name s.bytes r s.gives s.short
plan_unusable files task name plan (Causes.Printer e) s r = r
plan_unusable files task name plan (Causes.Plan e) s r = stated_unusable files task name plan (Causes.Plan e) s r
plan_unusable files task name plan (Causes.Block e) s r = stated_unusable files task name plan (Causes.Block e) s r
plan_unusable files task name plan (Causes.Stl e) s r = r
plan_unusable files task name plan (Causes.NotClosed edges volume) s r = r
plan_unusable files task name plan Causes.Flat s r = r
plan_unusable files task name plan (Causes.TooTall bands) s r = r

named_plan_unusable : (files : List MemFile) (task : Task) (named : Option (List ℕ)) (plan : Option GivenPlan) (c : Cause) → IsSome named → HasNamedPlan (Some files) task named plan → IsRefusedPlan (Some files) task (name_or named) c → ⊥
named_plan_unusable files task None plan c is h r = absurd (cc is)
named_plan_unusable files task (Some name) None c is h r = absurd h
named_plan_unusable files task (Some name) (Some plan) c is h r = plan_unusable files task name plan c h r

pub refused_files-unusable : (files : List MemFile) (a : Asked) (inputs : Inputs) (file : NamedFile) (c : Cause) → Refuses (Some files) a file c → AreUsable (Some files) a inputs → ⊥
refused_files-unusable files a inputs file c r x = by file c r
  where
    by : (file : NamedFile) (c : Cause) → Refuses (Some files) a file c → ⊥
    by Named.Printer Causes.TooLong r = too_long printer_limit files a.printer x.printer.bytes r x.printer.gives x.printer.short
    by Named.Printer (Causes.Printer e) r = description-refusal r.bytes inputs.description e (subst (λ b. DescribedBy b inputs.description) (x.printer.gives ∙ sym r.gives) x.printer.is) r.refused
    by Named.Printer (Causes.Plan e) r = r
    by Named.Printer (Causes.Block e) r = r
    by Named.Printer (Causes.Stl e) r = r
    by Named.Printer (Causes.NotClosed edges volume) r = r
    by Named.Printer Causes.Flat r = r
    by Named.Printer (Causes.TooTall bands) r = r
    by Named.Plan c r = named_plan_unusable files a.task a.plan inputs.plan c r.before.named x.plan r.refused
    by (Named.Mesh k) c r =
        let one = printer_file-one files a.printer r.before.description inputs.description r.before.printer x.printer in
        let m = chosen (IsUsableMesh (Some files) (is_strict a.task) inputs.description.step) a.meshes inputs.meshes k x.each r.before.there in
        usable_mesh files (name_or (slice_get a.meshes k)) a.task inputs.description.step m.mesh m.is c
        (subst (λ (d : Description). IsRefusedMesh (Some files) (name_or (slice_get a.meshes k)) a.task d.step c) one r.refused)

-- the same files give the same facets
facets-one : (files : List MemFile) (strict other : Bool) (step width : ℤ) (names : List (List ℕ)) (ms ns : List NamedMesh) → AllZip (IsUsableMesh (Some files) strict step) names ms → AllZip (IsUsableMesh (Some files) other width) names ns → facets_of ms ≡ facets_of ns
facets-one files strict other step width [] [] [] p q = refl
facets-one files strict other step width [] [] (n ∷ ns) p q = absurd q
facets-one files strict other step width [] (m ∷ ms) ns p q = absurd p
facets-one files strict other step width (x ∷ xs) [] ns p q = absurd p
facets-one files strict other step width (x ∷ xs) (m ∷ ms) [] p q = absurd q
facets-one files strict other step width (x ∷ xs) (m ∷ ms) (n ∷ ns) p q =
    ap (λ f. f ∷ facets_of ms) (mesh_file-one files x m.facets n.facets m.dropped n.dropped p.0.is q.0.is) ∙ ap (λ fs. n.facets ∷ fs) (facets-one files strict other step width xs ms ns p.1 q.1)

-- so an object of one is an object of the other
same_object : (files : List MemFile) (strict other : Bool) (step width : ℤ) (name : List ℕ) (m n : NamedMesh) (printer : Printer) (o : Object) → IsUsableMesh (Some files) strict step name m → IsUsableMesh (Some files) other width name n
    → IsObjectFor printer m o → IsObjectFor printer n o
same_object files strict other step width name m n printer o u v is =
    subst (λ x. IsObjectOf x n.facets printer o) (u.named ∙ sym v.named)
    (subst (λ fs. IsObjectOf m.name fs printer o) (mesh_file-one files name m.facets n.facets m.dropped n.dropped u.is v.is) is)

same_objects : (files : List MemFile) (strict other : Bool) (step width : ℤ) (names : List (List ℕ)) (ms ns : List NamedMesh) → AllZip (IsUsableMesh (Some files) strict step) names ms → AllZip (IsUsableMesh (Some files) other width) names ns
    → (printer : Printer) (objects : List Object) → AllZip (IsObjectFor printer) ms objects → AllZip (IsObjectFor printer) ns objects
same_objects files strict other step width [] [] [] p q printer objects z = z
same_objects files strict other step width [] [] (n ∷ ns) p q printer objects z = absurd q
same_objects files strict other step width [] (m ∷ ms) ns p q printer objects z = absurd p
same_objects files strict other step width (x ∷ xs) [] ns p q printer objects z = absurd p
same_objects files strict other step width (x ∷ xs) (m ∷ ms) [] p q printer objects z = absurd q
same_objects files strict other step width (x ∷ xs) (m ∷ ms) (n ∷ ns) p q printer [] z = absurd z
same_objects files strict other step width (x ∷ xs) (m ∷ ms) (n ∷ ns) p q printer (o ∷ objects) z =
    (same_object files strict other step width x m n printer o p.0 q.0 z.0, same_objects files strict other step width xs ms ns p.1 q.1 printer objects z.1)

-- what two say of the same files
pub record SameInputs (x y : Inputs) : Type 0 where
  pub description : x.description ≡ y.description
  pub plan : x.plan ≡ y.plan
  pub facets : facets_of x.meshes ≡ facets_of y.meshes
  pub objects : (printer : Printer) (objects : List Object) → AllZip (IsObjectFor printer) x.meshes objects → AllZip (IsObjectFor printer) y.meshes objects

same_by : (files : List MemFile) (a : Asked) (x y : Inputs) → AreUsable (Some files) a x → AreUsable (Some files) a y → x.plan ≡ y.plan → SameInputs x y
same_by files a x y u v plan = record {
  description = printer_file-one files a.printer x.description y.description u.printer v.printer;
  plan = plan;
  facets = facets-one files (is_strict a.task) (is_strict a.task) x.description.step y.description.step a.meshes x.meshes y.meshes u.each v.each;
  objects = same_objects files (is_strict a.task) (is_strict a.task) x.description.step y.description.step a.meshes x.meshes y.meshes u.each v.each;
}

pub same_inputs : (files : List MemFile) (a : Asked) (x y : Inputs) → AreUsable (Some files) a x → IsOnlyPlan (Some files) a x.plan → AreUsable (Some files) a y → SameInputs x y
same_inputs files a x y u only v = same_by files a x y u v (sym (only.same files refl y.plan v.plan))

pub turned : (files : List MemFile) (a : Asked) (x y : Inputs) → AreUsable (Some files) a x → IsOnlyPlan (Some files) a x.plan → AreUsable (Some files) a y → SameInputs y x
turned files a x y u only v = same_by files a y x v u (only.same files refl y.plan v.plan)
