-- What the loop over the meshes keeps, from the first file to the last.
use Rattle.std.proofs.Common.{◌≡◌, ℕ, zero, suc, ◌+◌, ◌-◌, ◌<◌, ◌≤◌, ◌++◌, List, [], ◌∷◌, All, length, take, slice_get, Option, Some, None, IsSome, true, inr, refl, sym, ap, subst, ◌∙◌, arith, append_assoc, append-nil}
use Rattle.std.proofs.lemmas.List.{take_all}
use Rattle.std.proofs.lemmas.List.Elements.{All-nil, All-cons}
use Rattle.std.specs.List.{AllZip}
use Rattle.seq_io.specs.Counts.{raised}
use Rattle.seq_io.specs.Views.{ShelfView}
use Rattle.seq_model.specs.Scenes.{Description}
use Rattle.seq_model.specs.Soundness.{AreSoundObjects, IsSoundObject}
use Rattle.seq_model.specs.declared.job.Job.{Job}
use Rattle.seq_model.specs.declared.job.Object.{Object}
use Rattle.seq_model.specs.declared.mesh.Facet.{Facet}
use Rattle.seq_model.specs.declared.printer.Printer.{Printer as Machine}
use Rattle.run_files.specs.Causes.{AreUsableBefore, IsRefusedMesh, IsUnfit}
use Rattle.run_files.specs.Files.{HasNamedPlan, IsMeshFile, IsOnlyPlan, IsPrinterFor, IsPrinterOf, IsUsableMesh, NamedMesh, name_in, name_or}
use Rattle.run_files.specs.Jobs.{IsLoaded, IsObjectFor}
use Rattle.run_files.specs.Loading.{IsFitted, Loading, NextPlan, last_before, last_of_head}
use Rattle.run_files.specs.Notes.{AreNotesFor, AreNotesOf, IsMeshNote, IsNoteFor}
use Rattle.run_files.specs.Stops.{Explains, IsNextFile, NextRead, ReadUpTo, WantsMemory, before_meshes, last_of, more, unfit_stop}
use Rattle.run_files.specs.Words.{IsRequest, is_strict}
use Rattle.run_files.specs.declared.plans.GivenPlan.{GivenPlan}
use Rattle.run_files.specs.declared.stop.NamedFile.TheVariants.{Printer, Plan, Mesh}
use Rattle.run_files.specs.declared.stop.Unfit.{Unfit}
use Rattle.run_files.specs.declared.stop.Unfit.TheVariants.{Because, NoMemory}
use Rattle.run_files.specs.declared.words.Asked.{Asked}
use Rattle.run_files.specs.declared.words.Task.{Task}
use Rattle.run_files.specs.declared.words.Task.TheVariants as Tasks
use Rattle.run_files.proofs.ReadLaws.{printer_due, read_due, unfit_mesh}

-- ---- lists
AllZip-more : {A B : Type 0} (R : A → B → Type 0) (xs : List A) (ys : List B) (x : A) (y : B) → AllZip R xs ys → R x y → AllZip R (xs ++ x ∷ []) (ys ++ y ∷ [])
AllZip-more R [] [] x y z r = (r, tt)
AllZip-more R [] (b ∷ ys) x y z r = absurd z
AllZip-more R (a ∷ xs) [] x y z r = absurd z
AllZip-more R (a ∷ xs) (b ∷ ys) x y z r = (z.0, AllZip-more R xs ys x y z.1 r)

AllZip-length : {A B : Type 0} (R : A → B → Type 0) (xs : List A) (ys : List B) → AllZip R xs ys → length xs ≡ length ys
AllZip-length R [] [] z = refl
AllZip-length R [] (b ∷ ys) z = absurd z
AllZip-length R (a ∷ xs) [] z = absurd z
AllZip-length R (a ∷ xs) (b ∷ ys) z = ap suc (AllZip-length R xs ys z.1)

take-suc : (names : List (List ℕ)) (k : ℕ) → k < length names → take (suc k) names ≡ take k names ++ name_or (slice_get names k) ∷ []
take-suc [] k h = absurd (omega (arith, h))
take-suc (n ∷ ns) zero h = refl
take-suc (n ∷ ns) (suc k) h = ap (λ t. n ∷ t) (take-suc ns k (omega (arith, h)))

take-more : (names : List (List ℕ)) (k : ℕ) → k < length names → take (k + 1) names ≡ take k names ++ name_or (slice_get names k) ∷ []
take-more names k h = (let one : suc k ≡ k + 1 = omega arith in subst (λ n. take n names ≡ take k names ++ name_or (slice_get names k) ∷ []) one (take-suc names k h))

-- ---- notes
notes-more : (ms : List NamedMesh) (m : NamedMesh) (notes note : List ℕ) → AreNotesOf ms notes → IsMeshNote m note → AreNotesOf (ms ++ m ∷ []) (notes ++ note)
notes-more [] m notes note are is = record { first = note; rest = []; is = ap (λ n. n ++ note) are ∙ sym (append-nil note); note = is; others = refl }
notes-more (x ∷ ms) m notes note are is = record {
  first = are.first;
  rest = are.rest ++ note;
  is = ap (λ n. n ++ note) are.is ∙ append_assoc are.first are.rest note;
  note = are.note;
  others = notes-more ms m are.rest note are.others is;
}

notes_for-more : (task : Task) (ms : List NamedMesh) (m : NamedMesh) (notes note : List ℕ) → AreNotesFor task ms notes → IsNoteFor task m note → AreNotesFor task (ms ++ m ∷ []) (notes ++ note)
notes_for-more (Tasks.Arrange strict budget) ms m notes note are is = notes-more ms m notes note are is
notes_for-more (Tasks.Least strict budget) ms m notes note are is = notes-more ms m notes note are is
notes_for-more Tasks.Check ms m notes note are is = ap (λ n. n ++ note) are ∙ is
notes_for-more Tasks.Audit ms m notes note are is = ap (λ n. n ++ note) are ∙ is
notes_for-more Tasks.Slices ms m notes note are is = ap (λ n. n ++ note) are ∙ is

no_notes : (task : Task) → AreNotesFor task [] []
no_notes (Tasks.Arrange strict budget) = refl
no_notes (Tasks.Least strict budget) = refl
no_notes Tasks.Check = refl
no_notes Tasks.Audit = refl
no_notes Tasks.Slices = refl

-- ---- the next mesh
abbrev before_mesh : (a : Asked) (printer : Machine) (plan : Option GivenPlan) (k : ℕ) (s s1 : ShelfView) (objects : List Object) (notes : List ℕ) → Loading a printer plan k s s1 objects notes → k < length a.meshes → AreUsableBefore s.files a k
before_mesh a printer plan k s s1 objects notes l there = record {
  there = there;
  description = l.description;
  printer = l.stated;
  plan = plan;
  named_plan = l.is_plan;
  meshes = l.meshes;
  each = l.each;
}

pub mesh_due : (a : Asked) (printer : Machine) (plan : Option GivenPlan) (k : ℕ) (s s1 : ShelfView) (objects : List Object) (notes : List ℕ) → Loading a printer plan k s s1 objects notes → k < length a.meshes → IsNextFile a (Mesh k) s s1
mesh_due a printer plan k s s1 objects notes l there = record {
  files = l.files;
  before = before_mesh a printer plan k s s1 objects notes l there;
  starts = l.starts;
  calm = l.read.calm;
  reached = l.reached;
}

pub loaded_more : (a : Asked) (printer : Machine) (plan : Option GivenPlan) (k : ℕ) (s s1 s' : ShelfView) (objects : List Object) (notes : List ℕ) (object : Object) (note : List ℕ) → Loading a printer plan k s s1 objects notes → k < length a.meshes
    → s'.files ≡ s1.files → NextRead (name_in a (Mesh k)) s1 s' → IsFitted s1.files a.task (name_in a (Mesh k)) printer object note → Loading a printer plan (k + 1) s s' (objects ++ object ∷ []) (notes ++ note)
loaded_more a printer plan k s s1 s' objects notes object note l there same next f =
    let due = mesh_due a printer plan k s s1 objects notes l there in
    let read = read_due a (Mesh k) s s1 s' due next in
    let R = IsUsableMesh s.files (is_strict a.task) l.description.step in
    let name = name_or (slice_get a.meshes k) in
    let usable : R name f.mesh = subst (λ (d : Description). IsUsableMesh s.files (is_strict a.task) d.step name f.mesh) l.fits.numbers (subst (λ fs. IsUsableMesh fs (is_strict a.task) printer.step name f.mesh) l.files f.usable) in
    record {
      files = same ∙ l.files;
      starts = subst (λ n. s'.starts ≡ more n s.starts) (one_more (before_meshes a.plan) k) (next.starts ∙ ap (raised true) l.starts);
      read = subst (λ file. ReadUpTo a file s s') (last_mesh k) read;
      reached = inr (record { file = Mesh k; before = due.before; read = read });
      description = l.description;
      stated = l.stated;
      fits = l.fits;
      is_plan = l.is_plan;
      only_plan = l.only_plan;
      meshes = l.meshes ++ f.mesh ∷ [];
      each = subst (λ names. AllZip R names (l.meshes ++ f.mesh ∷ [])) (sym (take-more a.meshes k there)) (AllZip-more R (take k a.meshes) l.meshes name f.mesh l.each usable);
      are_objects = AllZip-more (IsObjectFor printer) l.meshes objects f.mesh object l.are_objects f.object;
      are_notes = notes_for-more a.task l.meshes f.mesh notes note l.are_notes f.note;
    }
  where
    one_more : (b k : ℕ) → suc (b + k) ≡ b + (k + 1)
    one_more b k = omega arith

    last_mesh : (k : ℕ) → Mesh k ≡ last_before a (k + 1)
    last_mesh k = subst (λ n. Mesh k ≡ last_before a n) (plus_one k) refl
      where
        plus_one : (k : ℕ) → suc k ≡ k + 1
        plus_one k = omega arith

-- a mesh that was read and can't be used
pub unfit_stops : (a : Asked) (printer : Machine) (plan : Option GivenPlan) (k : ℕ) (s s1 s' : ShelfView) (objects : List Object) (notes : List ℕ) (facets : List Facet) (dropped : ℕ) (why : Unfit) → Loading a printer plan k s s1 objects notes → k < length a.meshes
    → NextRead (name_in a (Mesh k)) s1 s' → IsMeshFile s1.files (name_in a (Mesh k)) facets dropped → IsUnfit a.task facets printer.step why → Explains a s s' (unfit_stop (Mesh k) why)
unfit_stops a printer plan k s s1 s' objects notes facets dropped (Because c) l there next is u =
    let due = mesh_due a printer plan k s s1 objects notes l there in
    let same : IsMeshFile s.files (name_in a (Mesh k)) facets dropped = subst (λ fs. IsMeshFile fs (name_in a (Mesh k)) facets dropped) l.files is in
    record {
      refused = record {
        before = before_mesh a printer plan k s s1 objects notes l there;
        refused = subst (λ (d : Description). IsRefusedMesh s.files (name_in a (Mesh k)) a.task d.step c) l.fits.numbers (unfit_mesh s.files (name_in a (Mesh k)) a.task printer.step facets dropped c same u);
      };
      read = read_due a (Mesh k) s s1 s' due next;
    }
unfit_stops a printer plan k s s1 s' objects notes facets dropped NoMemory l there next is u =
    let due = mesh_due a printer plan k s s1 objects notes l there in
    inr (record { file = Mesh k; before = due.before; read = read_due a (Mesh k) s s1 s' due next })

-- memory was wanting once a mesh was read
pub unkept_mesh : (a : Asked) (printer : Machine) (plan : Option GivenPlan) (k : ℕ) (s s1 s' : ShelfView) (objects : List Object) (notes : List ℕ) → Loading a printer plan k s s1 objects notes → k < length a.meshes → NextRead (name_in a (Mesh k)) s1 s' → WantsMemory a s s'
unkept_mesh a printer plan k s s1 s' objects notes l there next =
    let due = mesh_due a printer plan k s s1 objects notes l there in
    inr (record { file = Mesh k; before = due.before; read = read_due a (Mesh k) s s1 s' due next })

-- ---- before the first mesh
pub plan_due : (a : Asked) (printer : Machine) (s s1 : ShelfView) → s1.files ≡ s.files → IsPrinterOf s.files a.printer printer → NextRead a.printer s s1 → IsSome a.plan → IsNextFile a Plan s s1
plan_due a printer s s1 files p r named = record {
  files = files;
  before = record { named = named; description = p.description; printer = p.is };
  starts = r.starts;
  calm = r.calm;
  reached = inr (record { file = Printer; before = tt; read = read_due a Printer s s s1 (printer_due a s) r });
}

pub none_loaded : (a : Asked) (printer : Machine) (plan : Option GivenPlan) (s s1 s2 : ShelfView) → s1.files ≡ s.files → IsPrinterOf s.files a.printer printer → NextRead a.printer s s1 → s2.files ≡ s1.files → HasNamedPlan s1.files a.task a.plan plan → IsOnlyPlan s1.files a plan → NextPlan a.plan s1 s2
    → Loading a printer plan zero s s2 [] []
none_loaded a printer plan s s1 s2 files p r more_files h only next = by a.plan refl
  where
    first : ReadUpTo a Printer s s1
    first = read_due a Printer s s s1 (printer_due a s) r

    has : HasNamedPlan s.files a.task a.plan plan
    has = subst (λ fs. HasNamedPlan fs a.task a.plan plan) files h

    only_one : IsOnlyPlan s.files a plan
    only_one = subst (λ fs. IsOnlyPlan fs a plan) files only

    by : (named : Option (List ℕ)) → a.plan ≡ named → Loading a printer plan zero s s2 [] []
    by None e =
        let same : s2 ≡ s1 = subst (λ n. NextPlan n s1 s2) e next in
        record {
          files = more_files ∙ files;
          starts = subst (λ n. s2.starts ≡ more (before_meshes n + 0) s.starts) (sym e) (ap (λ (v : ShelfView). v.starts) same ∙ r.starts);
          read = subst (λ n. ReadUpTo a (last_of_head n) s s2) (sym e) (subst (λ v. ReadUpTo a Printer s v) (sym same) first);
          reached = inr (record { file = Printer; before = tt; read = subst (λ v. ReadUpTo a Printer s v) (sym same) first });
          description = p.description;
          stated = p.is;
          fits = p.fits;
          is_plan = has;
          only_plan = only_one;
          meshes = [];
          each = tt;
          are_objects = tt;
          are_notes = no_notes a.task;
        }
    by (Some name) e =
        let named : IsSome a.plan = subst (λ (n : Option (List ℕ)). IsSome n) (sym e) refl in
        let due = plan_due a printer s s1 files p r named in
        let is_read : NextRead (name_in a Plan) s1 s2 = subst (λ n. NextRead (name_or n) s1 s2) (sym e) (subst (λ n. NextPlan n s1 s2) e next) in
        let read = read_due a Plan s s1 s2 due is_read in
        record {
          files = more_files ∙ files;
          starts = subst (λ n. s2.starts ≡ more (before_meshes n + 0) s.starts) (sym e) (is_read.starts ∙ ap (raised true) r.starts);
          read = subst (λ n. ReadUpTo a (last_of_head n) s s2) (sym e) read;
          reached = inr (record { file = Plan; before = due.before; read = read });
          description = p.description;
          stated = p.is;
          fits = p.fits;
          is_plan = has;
          only_plan = only_one;
          meshes = [];
          each = tt;
          are_objects = tt;
          are_notes = no_notes a.task;
        }

-- ---- behind the last mesh
last_read : (a : Asked) (n : ℕ) → 1 ≤ n → last_before a n ≡ Mesh (n - 1)
last_read a zero h = absurd (omega (arith, h))
last_read a (suc n) h = ap Mesh (omega arith)

pub all_read : (a : Asked) (printer : Machine) (plan : Option GivenPlan) (s s' : ShelfView) (objects : List Object) (notes : List ℕ) → IsRequest a → Loading a printer plan (length a.meshes) s s' objects notes → ReadUpTo a (last_of a) s s'
all_read a printer plan s s' objects notes r l = subst (λ file. ReadUpTo a file s s') (last_read a (length a.meshes) r.some) l.read

pub are_sound : (a : Asked) (printer : Machine) (plan : Option GivenPlan) (s s' : ShelfView) (objects : List Object) (notes : List ℕ) → IsRequest a → Loading a printer plan (length a.meshes) s s' objects notes → AreSoundObjects objects
are_sound a printer plan s s' objects notes r l =
    let as_many : length (take (length a.meshes) a.meshes) ≡ length l.meshes = AllZip-length (IsUsableMesh s.files (is_strict a.task) l.description.step) (take (length a.meshes) a.meshes) l.meshes l.each in
    let all : take (length a.meshes) a.meshes ≡ a.meshes = take_all (length a.meshes) a.meshes (omega arith) in
    let count : length objects ≡ length a.meshes = sym (AllZip-length (IsObjectFor printer) l.meshes objects l.are_objects) ∙ sym as_many ∙ ap length all in
    record { some = subst (λ n. 1 ≤ n) (sym count) r.some; few = subst (λ n. n ≤ 16) (sym count) r.few; each = each l.meshes objects l.are_objects }
  where
    each : (meshes : List NamedMesh) (objects : List Object) → AllZip (IsObjectFor printer) meshes objects → All IsSoundObject objects
    each meshes [] z = All-nil IsSoundObject
    each [] (o ∷ objects) z = absurd z
    each (m ∷ meshes) (o ∷ objects) z = All-cons IsSoundObject o objects z.0.sound (each meshes objects z.1)

pub is_loaded : (a : Asked) (printer : Machine) (plan : Option GivenPlan) (s s' : ShelfView) (objects : List Object) (notes : List ℕ) (job : Job) → Loading a printer plan (length a.meshes) s s' objects notes → job.printer ≡ printer → job.objects ≡ objects → IsLoaded s.files a job plan notes
is_loaded a printer plan s s' objects notes job l same_printer same_objects = record {
  inputs = record { description = l.description; plan = plan; meshes = l.meshes };
  usable = record {
    printer = l.stated;
    plan = l.is_plan;
    each = subst (λ names. AllZip (IsUsableMesh s.files (is_strict a.task) l.description.step) names l.meshes) (take_all (length a.meshes) a.meshes (omega arith)) l.each;
  };
  is_job = record {
    printer = subst (IsPrinterFor l.description) (sym same_printer) l.fits;
    objects = subst (λ (p : Machine). AllZip (IsObjectFor p) l.meshes job.objects) (sym same_printer) (subst (AllZip (IsObjectFor printer) l.meshes) (sym same_objects) l.are_objects);
  };
  is_plan = refl;
  only_plan = l.only_plan;
  are_notes = l.are_notes;
}
