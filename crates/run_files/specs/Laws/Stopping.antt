-- What is told of a stop explains the run as the stop does.
use Rattle.std.proofs.Common.{Option, List, inl, inr, sym, subst}
use Rattle.seq_io.specs.Views.{ShelfView}
use Rattle.seq_io.specs.declared.mem_file.MemFile.{MemFile}
use Rattle.run_files.specs.Causes.{Reaches, Refuses}
use Rattle.run_files.specs.Stops.{Explains, IsToldAs}
use Rattle.run_files.specs.declared.stop.Cause.{Cause}
use Rattle.run_files.specs.declared.stop.NamedFile.{NamedFile}
use Rattle.run_files.specs.declared.stop.NamedFile.TheVariants.{Printer, Plan, Mesh}
use Rattle.run_files.specs.declared.stop.Stop.{Stop}
use Rattle.run_files.specs.declared.stop.Stop.TheVariants.{Read, Input, Memory}
use Rattle.run_files.specs.declared.words.Asked.{Asked}

reaches : (files : Option (List MemFile)) (a : Asked) (file : NamedFile) (c : Cause) → Refuses files a file c → Reaches files a file
reaches files a Printer c r = tt
reaches files a Plan c r = r.before
reaches files a (Mesh k) c r = r.before

pub told_explains : (a : Asked) (s s' : ShelfView) (stop told : Stop) → IsToldAs stop told → Explains a s s' stop → Explains a s s' told
told_explains a s s' (Read file) told t why = subst (Explains a s s') (sym t) why
told_explains a s s' (Input file c) told (inl t) why = subst (Explains a s s') (sym t) why
told_explains a s s' (Input file c) told (inr t) why = subst (Explains a s s') (sym t) (inr (record { file = file; before = reaches s.files a file c why.refused; read = why.read }))
told_explains a s s' Memory told t why = subst (Explains a s s') (sym t) why
