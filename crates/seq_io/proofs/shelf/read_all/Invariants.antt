use Rattle.std.proofs.Common.{◌≡◌, ◌≤◌, ◌-◌, true, false, Some, string_bytes, take, vec_len}
use Rattle.std.specs.Io.KnownBytes.{Consumes}
use Rattle.seq_io.specs.Counts.{raised}
use Rattle.seq_io.proofs.shelf.read_all.Given as goal

abbrev pub invariant-loop-bytes : goal.invariant-loop-bytes
invariant-loop-bytes g l =
    let s = g.S.Shelf in
    record {
      files : (s.shows l.shelf).files ≡ (s.shows l.fn.shelf).files;
      read : Consumes (s.shows l.initial.shelf).rest (s.shows l.shelf).rest (take l.filled l.bytes.items);
      filled : l.filled ≤ vec_len l.bytes;
      within : l.filled ≤ l.limit;
      faults : (s.shows l.shelf).faults ≡ (s.shows l.fn.shelf).faults;
      whole : (s.shows l.shelf).broken ≡ false;
      named : (s.shows l.shelf).named ≡ Some (string_bytes l.fn.name);
      starts : (s.shows l.shelf).starts ≡ raised true (s.shows l.fn.shelf).starts;
    }

abbrev pub decreases-loop-bytes : goal.decreases-loop-bytes
decreases-loop-bytes g l = l.limit - l.filled
