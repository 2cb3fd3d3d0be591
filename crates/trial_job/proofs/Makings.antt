-- What made files give to the readers.
--
--   usable_from        made meshes are usable files, as many as are asked for
--   usable_at          and so is each of them
--   only_memory        a made mesh is refused for want of memory alone; so is the made description (`printer_memory`)
--   slices             it can be sliced
--   made_printer       the printer of the made description
--   made_more          one file more
--   all_sound          the objects of a trial are sound
use Rattle.std.proofs.Common.{◌≡◌, ℕ, zero, suc, ◌+◌, ◌<◌, ◌≤◌, pos, List, [], ◌∷◌, ◌++◌, length, get_or, take, All, refl, sym, ap, ◌∙◌, subst, arith, ◌⊎◌, inl, inr, Result, Ok}
use Rattle.std.proofs.lemmas.List.{take_more}
use Rattle.std.proofs.lemmas.List.Elements.{All-cons, All-nil}
use Rattle.std.proofs.lemmas.List.Sums.{sum_by-append}
use Rattle.std.proofs.lemmas.Slice.Zip.{AllZip-long}
use Rattle.std.specs.List.{AllZip}
use Rattle.mesh_slices.specs.Objects.{CanBeSliced}
use Rattle.printer_text.specs.Laws.Descriptions.{description-one, description-refusal}
use Rattle.printer_text.specs.Printers.{DescribedBy, IsRefusedPrinter, PrinterOf}
use Rattle.printer_text.specs.declared.Prn.{Prn}
use Rattle.printer_text.specs.declared.Prn.TheVariants as Prns
use Rattle.run_files.specs.Files.{NamedMesh}
use Rattle.run_files.specs.Jobs.{IsObjectFor}
use Rattle.seq_io.specs.declared.mem_file.MemFile.{MemFile}
use Rattle.seq_model.specs.Bands.{band_count}
use Rattle.seq_model.specs.Soundness.{AreSoundObjects, IsSoundObject}
use Rattle.seq_model.specs.Scenes.{Description, description_of}
use Rattle.seq_model.specs.declared.job.Object.{Object}
use Rattle.seq_model.specs.declared.mesh.Facet.{Facet}
use Rattle.seq_model.specs.declared.printer.Printer.{Printer}
use Rattle.seq_trial.specs.Draws.{later}
use Rattle.seq_trial.specs.Towers.{meshes_from, printer_text, tower_at}
use Rattle.stl_text.specs.Meshes.{IsRefused, MeshOf}
use Rattle.stl_text.specs.declared.Stl.{Stl}
use Rattle.stl_text.specs.declared.Stl.TheVariants as Stls
use Rattle.stl_text.specs.declared.found.Found.{Found}
use Rattle.trial_job.specs.Making.{AreMadeObjects, AreUsableFiles, IsMadeObject, IsMadePrinter, IsUsableFile}
use Rattle.trial_job.specs.Trials.{IsMeshOfFile}
use Rattle.trial_laws.specs.Laws.Files.{mesh_made}
use Rattle.trial_laws.specs.Laws.Descriptions.{described}
use Rattle.trial_laws.specs.Made.{IsMadeMesh, facets_at, made_description}

pub usable_from : (left o s : ℕ) → o + left ≤ 10_000 → AreUsableFiles (meshes_from left o s)
usable_from zero o s h = tt
usable_from (suc left) o s h = (record { count = facets_at s; is = mesh_made o s (omega (arith, h)) }, usable_from left (o + 1) (later (3 + (tower_at s).higher) s) (omega (arith, h)))

pub length_from : (left o s : ℕ) → length (meshes_from left o s) ≡ left
length_from zero o s = refl
length_from (suc left) o s = ap suc (length_from left (o + 1) (later (3 + (tower_at s).higher) s))

pub usable_at : (files : List MemFile) (k : ℕ) (d : MemFile) → AreUsableFiles files → k < length files → IsUsableFile (get_or files k d)
usable_at [] k d all h = absurd (omega (arith, h))
usable_at (file ∷ files) zero d all h = all.0
usable_at (file ∷ files) (suc k) d all h = usable_at files k d all.1 (omega (arith, h))

-- ---- one mesh
abbrev ok : Found → Result Found Stl
ok x = Ok x

never_refused : (bytes : List ℕ) (n : ℕ) (e : Stl) → IsMadeMesh bytes n → IsRefused bytes e → ⊥
never_refused bytes n e m r = (let same = r.only (ok (record { facets = m.facets; dropped = 0 })) m.read in absurd cc)

pub only_memory : (bytes other : List ℕ) (n : ℕ) (e : Stl) → IsMadeMesh bytes n → other ≡ bytes → (e ≡ Stls.NoMemory) ⊎ IsRefused other e → e ≡ Stls.NoMemory
only_memory bytes other n e m same (inl is) = is
only_memory bytes other n e m same (inr refused) = absurd (never_refused bytes n e m (subst (λ b. IsRefused b e) same refused))

same_facets : (x y : Found) → ok x ≡ ok y → x.facets ≡ y.facets
same_facets x y e = (let same : x ≡ y = cc in ap (λ (z : Found). z.facets) same)

pub slices : (bytes other : List ℕ) (n : ℕ) (fs : List Facet) (dropped : ℕ) → IsMadeMesh bytes n → other ≡ bytes → MeshOf other fs dropped → CanBeSliced fs (pos 10_000)
slices bytes other n fs dropped m at given =
    let is : MeshOf bytes fs dropped = subst (λ b. MeshOf b fs dropped) at given in
    let same : m.facets ≡ fs = same_facets (record { facets = m.facets; dropped = 0 }) (record { facets = fs; dropped = dropped }) (is.only (Ok (record { facets = m.facets; dropped = 0 })) m.read) in
    let few : band_count fs (pos 10_000) ≤ 10 = subst (λ l. band_count l (pos 10_000) ≤ 10) same m.few_bands in
    record { some = λ e. m.some (same ∙ e); few = omega (arith, few) }

-- ---- the printer
pub printer_memory : (bytes : List ℕ) (e : Prn) → bytes ≡ printer_text → (e ≡ Prns.NoMemory) ⊎ IsRefusedPrinter bytes e → e ≡ Prns.NoMemory
printer_memory bytes e at (inl is) = is
printer_memory bytes e at (inr refused) = absurd (description-refusal printer_text made_description e described (subst (λ b. IsRefusedPrinter b e) at refused))

pub made_printer : (bytes : List ℕ) (printer : Printer) → bytes ≡ printer_text → PrinterOf bytes printer → IsMadePrinter printer
made_printer bytes printer at is =
    let d = description_of printer is.parts in
    let stated : DescribedBy printer_text d = subst (λ b. DescribedBy b d) at is.described in
    let same : d ≡ made_description = description-one printer_text d made_description stated described in
    record { description = d; described = stated; fits = record { numbers = refl; parts = is.kept }; step = ap (λ (x : Description). x.step) same }

-- ---- all objects
zip_push : {A B : Type 0} (R : A → B → Type 0) (xs : List A) (ys : List B) (x : A) (y : B) → AllZip R xs ys → R x y → AllZip R (xs ++ x ∷ []) (ys ++ y ∷ [])
zip_push R [] [] x y z r = (r, tt)
zip_push R [] (b ∷ ys) x y z r = absurd z
zip_push R (a ∷ xs) [] x y z r = absurd z
zip_push R (a ∷ xs) (b ∷ ys) x y z r = (z.0, zip_push R xs ys x y z.1 r)

pub made_more : (printer : Printer) (files : List MemFile) (k : ℕ) (d : MemFile) (objects : List Object) (o : Object) (n m : ℕ) → k < length files
    → AreMadeObjects printer (take k files) objects n → IsMadeObject printer (get_or files k d) o m → AreMadeObjects printer (take (k + 1) files) (objects ++ o ∷ []) (n + m)
made_more printer files k d objects o n m h all one =
    let count = λ (x : NamedMesh). length x.facets + x.dropped in
    subst (λ fs. AreMadeObjects printer fs (objects ++ o ∷ []) (n + m)) (sym (take_more files k d h)) (record {
      meshes = all.meshes ++ one.mesh ∷ [];
      each = zip_push IsMeshOfFile (take k files) all.meshes (get_or files k d) one.mesh all.each one.is;
      objects_are = zip_push (IsObjectFor printer) all.meshes objects one.mesh o all.objects_are one.object;
      counted = omega (arith, all.counted, one.counted, sum_by-append count all.meshes (one.mesh ∷ []));
    })

each_sound : (printer : Printer) (meshes : List NamedMesh) (objects : List Object) → AllZip (IsObjectFor printer) meshes objects → All IsSoundObject objects
each_sound printer meshes [] z = All-nil IsSoundObject
each_sound printer [] (o ∷ objects) z = absurd z
each_sound printer (m ∷ meshes) (o ∷ objects) z = All-cons IsSoundObject o objects z.0.sound (each_sound printer meshes objects z.1)

pub all_sound : (printer : Printer) (files : List MemFile) (objects : List Object) (facets : ℕ) → 1 ≤ length files → length files ≤ 16 → AreMadeObjects printer files objects facets → AreSoundObjects objects
all_sound printer files objects facets some few all =
    let meshes = AllZip-long IsMeshOfFile files all.meshes all.each in
    let same = AllZip-long (IsObjectFor printer) all.meshes objects all.objects_are in
    record { some = omega (arith, some, meshes, same); few = omega (arith, few, meshes, same); each = each_sound printer all.meshes objects all.objects_are }
