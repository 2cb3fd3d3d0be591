use Rattle.std.proofs.Common.{◌≡◌, drop}
use Rattle.seq_io.specs.Files.{has_file, bytes_of}
use Rattle.seq_io.proofs.open_files.place_of.Given as goal

abbrev pub invariant-loop-at : goal.invariant-loop-at
invariant-loop-at l =
    record {
      bytes : bytes_of (drop l.at l.files) l.name ≡ bytes_of l.files l.name;
      has : has_file (drop l.at l.files) l.name ≡ has_file l.files l.name;
    }
