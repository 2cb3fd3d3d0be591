-- The file at a place, and what is left of it.
use Rattle.std.proofs.Common.{◌≡◌, ℕ, zero, suc, ◌+◌, ◌<◌, ◌≤◌, List, [], ◌∷◌, length, get_or, drop, true, ◌||◌, cond, refl, sym, ap, ◌∙◌, arith}
use Rattle.std.proofs.lemmas.List.{drop_all, drop_more}
use Rattle.std.specs.Str.{bytes_eq}
use Rattle.seq_io.specs.declared.mem_file.MemFile.{MemFile}
use Rattle.seq_io.specs.Files.{has_file, bytes_of}
use Rattle.seq_io.specs.OpenFiles.{bytes_at}

pub bytes_at_is : (files : List MemFile) (i : ℕ) (f : MemFile) → i < length files → f ≡ get_or files i f → bytes_at files i ≡ f.bytes
bytes_at_is [] i f h e = absurd (omega arith)
bytes_at_is (x ∷ xs) zero f h e = ap (λ y. y.bytes) (sym e)
bytes_at_is (x ∷ xs) (suc i) f h e = bytes_at_is xs i f (omega arith) e

bytes_at_past : (files : List MemFile) (i : ℕ) → length files ≤ i → bytes_at files i ≡ []
bytes_at_past [] i h = refl
bytes_at_past (x ∷ xs) zero h = absurd (omega arith)
bytes_at_past (x ∷ xs) (suc i) h = bytes_at_past xs i (omega arith)

pub drop_none : (files : List MemFile) (i given : ℕ) → length files ≤ i → drop given (bytes_at files i) ≡ []
drop_none files i given h = ap (drop given) (bytes_at_past files i h) ∙ drop_all given [] (omega arith)

-- the file at a place has the name, and none before it
pub record FoundAt (files : List MemFile) (i : ℕ) (name : List ℕ) : Type 0 where
  pub bytes : bytes_at files i ≡ bytes_of files name
  pub has : has_file files name ≡ true

pub found_at : (files : List MemFile) (i : ℕ) (f : MemFile) (name : List ℕ) → i < length files → f ≡ get_or files i f → bytes_eq f.name name ≡ true → bytes_of (drop i files) name ≡ bytes_of files name → has_file (drop i files) name ≡ has_file files name → FoundAt files i name
found_at files i f name h is named bytes has =
    let first : bytes_of (drop i files) name ≡ cond (bytes_eq (get_or files i f).name name) (get_or files i f).bytes (bytes_of (drop (i + 1) files) name) = ap (λ l. bytes_of l name) (drop_more files i f h) in
    let there : has_file (drop i files) name ≡ (bytes_eq (get_or files i f).name name || has_file (drop (i + 1) files) name) = ap (λ l. has_file l name) (drop_more files i f h) in
    let test : bytes_eq (get_or files i f).name name ≡ true = ap (λ g. bytes_eq g.name name) (sym is) ∙ named in
    record {
      bytes = bytes_at_is files i f h is ∙ ap (λ g. g.bytes) is ∙ sym (rw test at first) ∙ bytes;
      has = sym has ∙ rw test at there;
    }
