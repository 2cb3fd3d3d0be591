-- A description and its meshes have one job: the hulls of the parts are one each, and so are the objects.
use Rattle.std.proofs.Common.{◌≡◌, ℕ, List, [], ◌∷◌, Option, refl, sym, ap, ap₂, subst, ◌∙◌}
use Rattle.std.proofs.Props.{props}
use Rattle.std.specs.List.{AllZip}
use Rattle.mesh_slices.specs.Laws.Unique.{one_outline}
use Rattle.mesh_slices.specs.Objects.{IsObjectOf, IsOutlineOf}
use Rattle.printer_text.specs.Printers.{AreKept, IsKept}
use Rattle.seq_model.specs.Bounds.{IsPrinter}
use Rattle.seq_model.specs.Parts.{AreParts}
use Rattle.seq_model.specs.Scenes.{Description, description_of}
use Rattle.seq_model.specs.Soundness.{AreSoundObjects}
use Rattle.seq_model.specs.declared.job.Job.{Job}
use Rattle.seq_model.specs.declared.job.Object.{Object}
use Rattle.seq_model.specs.declared.mesh.Facet.{Facet}
use Rattle.seq_model.specs.declared.printer.Part.{Part}
use Rattle.seq_model.specs.declared.printer.Printer.{Printer}
use Rattle.seq_model.specs.declared.printer.Spot.{Spot}
use Rattle.run_files.specs.Files.{NamedMesh}
use Rattle.run_files.specs.Jobs.{IsJobOf, IsObjectFor}

-- ---- parts
outline_of : (part kept : Part) → IsKept part kept → IsOutlineOf part.corners kept.corners
outline_of part kept k = record { corners = k.corners; members = k.members; within = k.within; inner = k.inner }

one_part : (part a b : Part) → IsKept part a → IsKept part b → a ≡ b
one_part part a b p q =
    same a.name b.name a.corners b.corners a.lo b.lo a.hi b.hi (p.name ∙ sym q.name) (one_outline part.corners a.corners b.corners (outline_of part a p) (outline_of part b q)) (p.lo ∙ sym q.lo) (p.hi ∙ sym q.hi)
  where
    same : (n m : List ℕ) (c d : List Spot) (l k : ℕ) (h i : Option ℕ) → n ≡ m → c ≡ d → l ≡ k → h ≡ i
        → (let x : Part = record { name = n; corners = c; lo = l; hi = h } in x) ≡ record { name = m; corners = d; lo = k; hi = i }
    same n m c d l k h i e f g j = cc

one_parts : (parts xs ys : List Part) → AreKept parts xs → AreKept parts ys → xs ≡ ys
one_parts [] [] [] p q = refl
one_parts [] [] (y ∷ ys) p q = absurd q
one_parts [] (x ∷ xs) ys p q = absurd p
one_parts (part ∷ parts) [] ys p q = absurd p
one_parts (part ∷ parts) (x ∷ xs) [] p q = absurd q
one_parts (part ∷ parts) (x ∷ xs) (y ∷ ys) p q = ap₂ (λ z zs. z ∷ zs) (one_part part x y p.0 q.0) (one_parts parts xs ys p.1 q.1)

-- ---- the printer
abbrev IsRanged : Description → Type 0
IsRanged d = IsPrinter d.grain d.width d.depth d.step d.margin d.grid

abbrev printer_with : (d : Description) (parts : List Part) → IsRanged d → AreParts parts → Printer
printer_with d parts r a = record {
  grain = d.grain;
  width = d.width;
  depth = d.depth;
  step = d.step;
  margin = d.margin;
  grid = d.grid;
  parts = parts;
  ranged = r;
  parts_are = a;
}

same_printer : (d : Description) (parts : List Part) (r s : IsRanged d) (a b : AreParts parts) → printer_with d parts r a ≡ printer_with d parts s b
same_printer d parts r s a b = ap (λ x. printer_with d parts x a) (ranged r s) ∙ ap (λ x. printer_with d parts s x) (sound a b)
  where
    ranged : IsProp (IsRanged d)
    ranged = hlevel props

    sound : IsProp (AreParts parts)
    sound = hlevel props

one_printer : (d e : Description) (ps qs : List Part) → d ≡ e → ps ≡ qs → (r : IsRanged d) (s : IsRanged e) (a : AreParts ps) (b : AreParts qs) → printer_with d ps r a ≡ printer_with e qs s b
one_printer d e ps qs same parts =
    subst (λ (x : Description). (r : IsRanged d) (s : IsRanged x) (a : AreParts ps) (b : AreParts qs) → printer_with d ps r a ≡ printer_with x qs s b) same
    (subst (λ (xs : List Part). (r s : IsRanged d) (a : AreParts ps) (b : AreParts xs) → printer_with d ps r a ≡ printer_with d xs s b) parts (same_printer d ps))

-- ---- the job
abbrev IsOneObject : Type 0
IsOneObject = (name : List ℕ) (facets : List Facet) (printer : Printer) (o q : Object) → IsObjectOf name facets printer o → IsObjectOf name facets printer q → o ≡ q

one_objects : IsOneObject → (printer : Printer) (meshes : List NamedMesh) (os qs : List Object) → AllZip (IsObjectFor printer) meshes os → AllZip (IsObjectFor printer) meshes qs → os ≡ qs
one_objects one printer [] [] [] p q = refl
one_objects one printer [] [] (y ∷ ys) p q = absurd q
one_objects one printer [] (x ∷ xs) ys p q = absurd p
one_objects one printer (m ∷ meshes) [] ys p q = absurd p
one_objects one printer (m ∷ meshes) (x ∷ xs) [] p q = absurd q
one_objects one printer (m ∷ meshes) (x ∷ xs) (y ∷ ys) p q = ap₂ (λ z zs. z ∷ zs) (one m.name m.facets printer x y p.0 q.0) (one_objects one printer meshes xs ys p.1 q.1)

abbrev job_with : (printer : Printer) (objects : List Object) → AreSoundObjects objects → Job
job_with printer objects s = record { printer = printer; objects = objects; sound = s }

same_job : (printer : Printer) (objects : List Object) (s t : AreSoundObjects objects) → job_with printer objects s ≡ job_with printer objects t
same_job printer objects s t = ap (job_with printer objects) (sound s t)
  where
    sound : IsProp (AreSoundObjects objects)
    sound = hlevel props

job_of_same : (p q : Printer) (os xs : List Object) → p ≡ q → os ≡ xs → (s : AreSoundObjects os) (t : AreSoundObjects xs) → job_with p os s ≡ job_with q xs t
job_of_same p q os xs same objects =
    subst (λ (x : Printer). (s : AreSoundObjects os) (t : AreSoundObjects xs) → job_with p os s ≡ job_with x xs t) same
    (subst (λ (ys : List Object). (s : AreSoundObjects os) (t : AreSoundObjects ys) → job_with p os s ≡ job_with p ys t) objects (same_job p os))

pub one_job : IsOneObject → (d : Description) (meshes : List NamedMesh) (job other : Job) → IsJobOf d meshes job → IsJobOf d meshes other → other ≡ job
one_job one d meshes job other p q =
    job_of_same other.printer job.printer other.objects job.objects printer (one_objects one job.printer meshes other.objects job.objects objects p.objects) other.sound job.sound
  where
    parts : other.printer.parts ≡ job.printer.parts
    parts = one_parts d.parts other.printer.parts job.printer.parts q.printer.parts p.printer.parts

    printer : other.printer ≡ job.printer
    printer =
        one_printer (description_of other.printer d.parts) (description_of job.printer d.parts) other.printer.parts job.printer.parts
        (q.printer.numbers ∙ sym p.printer.numbers) parts other.printer.ranged job.printer.ranged other.printer.parts_are job.printer.parts_are

    objects : AllZip (IsObjectFor job.printer) meshes other.objects
    objects = subst (λ (x : Printer). AllZip (IsObjectFor x) meshes other.objects) printer q.objects
