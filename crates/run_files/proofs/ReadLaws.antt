-- What comes of reading one file after another.
use Rattle.std.proofs.Common.{◌≡◌, ℕ, ℤ, List, Option, true, inl, inr, refl, ap, subst, ◌∙◌}
use Rattle.seq_io.specs.Counts.{raised}
use Rattle.seq_io.specs.Files.{LongerThan}
use Rattle.seq_io.specs.Views.{ShelfView}
use Rattle.seq_io.specs.declared.mem_file.MemFile.{MemFile}
use Rattle.seq_io.specs.declared.shelf.ReadAll.{ReadAll}
use Rattle.seq_io.specs.declared.shelf.ReadAll.TheVariants as Unread
use Rattle.seq_model.specs.declared.mesh.Facet.{Facet}
use Rattle.run_files.specs.Causes.{IsRefusedMesh, IsUnfitFor, Reaches, Refuses}
use Rattle.run_files.specs.Files.{IsMeshFile, limit_of, name_in}
use Rattle.run_files.specs.Stops.{Explains, IsNextFile, IsUnread, IsUntouched, NextRead, ReadUpTo, WantsMemory, stop_of}
use Rattle.run_files.specs.declared.stop.Cause.{Cause}
use Rattle.run_files.specs.declared.stop.Cause.TheVariants as Causes
use Rattle.run_files.specs.declared.stop.NamedFile.{NamedFile}
use Rattle.run_files.specs.declared.stop.NamedFile.TheVariants.{Printer, Plan, Mesh}
use Rattle.run_files.specs.declared.stop.Stop.TheVariants.{Memory}
use Rattle.run_files.specs.declared.stop.Unfit.TheVariants.{NoMemory}
use Rattle.run_files.specs.declared.words.Asked.{Asked}
use Rattle.run_files.specs.declared.words.Task.{Task}

-- the first file is due from the start
pub printer_due : (a : Asked) (s : ShelfView) → IsNextFile a Printer s s
printer_due a s = record { files = refl; before = tt; starts = refl; calm = refl; reached = inl (record { named = refl; starts = refl; calm = refl }) }

-- a file that is due and was read
pub read_due : (a : Asked) (file : NamedFile) (s s1 s' : ShelfView) → IsNextFile a file s s1 → NextRead (name_in a file) s1 s' → ReadUpTo a file s s'
read_due a file s s1 s' due next = record {
  started = record { named = next.named; starts = next.starts ∙ ap (raised true) due.starts };
  calm = next.calm ∙ due.calm;
}

still : (a : Asked) (s s1 s' : ShelfView) → WantsMemory a s s1 → IsUntouched s1 s' → WantsMemory a s s'
still a s s1 s' (inl w) u = inl (record { named = u.named ∙ w.named; starts = u.starts ∙ w.starts; calm = u.calm ∙ w.calm })
still a s s1 s' (inr w) u = inr (record {
  file = w.file;
  before = w.before;
  read = record { started = record { named = u.named ∙ w.read.started.named; starts = u.starts ∙ w.read.started.starts }; calm = u.calm ∙ w.read.calm };
})

longer : (limit : ℕ) (name : List ℕ) (files other : Option (List MemFile)) → other ≡ files → LongerThan limit other name → LongerThan limit files name
longer limit name files other same h = subst (λ fs. LongerThan limit fs name) same h

-- a file that is longer than its limit is refused for it
too_long : (a : Asked) (file : NamedFile) (files : Option (List MemFile)) → Reaches files a file → LongerThan (limit_of file) files (name_in a file) → Refuses files a file Causes.TooLong
too_long a Printer files before h = h
too_long a Plan files before h = record { before = before; refused = h }
too_long a (Mesh k) files before h = record { before = before; refused = h }

-- a file that is due and wasn't read
pub unread : (a : Asked) (file : NamedFile) (s s1 s' : ShelfView) (why : ReadAll) → IsNextFile a file s s1 → IsUnread (limit_of file) (name_in a file) s1 s' why → Explains a s s' (stop_of file why)
unread a file s s1 s' Unread.ReadFault due x = record {
  before = due.before;
  started = record { named = x.named; starts = x.starts ∙ ap (raised true) due.starts };
  broken = x.broken;
  failed = x.failed ∙ ap (raised true) due.calm;
}
unread a file s s1 s' Unread.TooLong due x = record {
  refused = too_long a file s.files due.before (longer (limit_of file) (name_in a file) s.files s1.files due.files x.longer);
  read = read_due a file s s1 s' due x.read;
}
unread a file s s1 s' Unread.NoMemory due (inl u) = still a s s1 s' due.reached u
unread a file s s1 s' Unread.NoMemory due (inr r) = inr (record { file = file; before = due.before; read = read_due a file s s1 s' due r })

-- memory was wanting once a file was read
pub unkept : (a : Asked) (file : NamedFile) (s s1 s' : ShelfView) → IsNextFile a file s s1 → NextRead (name_in a file) s1 s' → Explains a s s' Memory
unkept a file s s1 s' due r = inr (record { file = file; before = due.before; read = read_due a file s s1 s' due r })

pub unfit_mesh : (files : Option (List MemFile)) (name : List ℕ) (task : Task) (step : ℤ) (facets : List Facet) (dropped : ℕ) (c : Cause) → IsMeshFile files name facets dropped → IsUnfitFor task facets step c → IsRefusedMesh files name task step c
unfit_mesh files name task step facets dropped Causes.TooLong is u = absurd u
unfit_mesh files name task step facets dropped (Causes.Printer e) is u = absurd u
unfit_mesh files name task step facets dropped (Causes.Plan e) is u = absurd u
unfit_mesh files name task step facets dropped (Causes.Block e) is u = absurd u
unfit_mesh files name task step facets dropped (Causes.Stl e) is u = absurd u
unfit_mesh files name task step facets dropped (Causes.NotClosed edges volume) is u = record { facets = facets; dropped = dropped; is = is; unfit = u }
unfit_mesh files name task step facets dropped Causes.Flat is u = record { facets = facets; dropped = dropped; is = is; unfit = u }
unfit_mesh files name task step facets dropped (Causes.TooTall bands) is u = record { facets = facets; dropped = dropped; is = is; unfit = u }
