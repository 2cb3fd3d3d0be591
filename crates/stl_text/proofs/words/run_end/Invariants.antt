use Rattle.std.proofs.Common.{◌≡◌, ℕ, ◌≤◌, ◌<◌, ◌-◌, false, length, slice_index}
use Rattle.stl_text.specs.Words.{stops}
use Rattle.stl_text.proofs.words.run_end.Given as goal

abbrev pub invariant-loop-at : goal.invariant-loop-at
invariant-loop-at l = record {
  forward : l.from ≤ l.at;
  within : l.at ≤ length l.bytes;
  before : (k : ℕ) → l.from ≤ k → k < l.at → stops l.stop (slice_index l.bytes k) ≡ false;
}

abbrev pub decreases-loop-at : goal.decreases-loop-at
decreases-loop-at l = length l.bytes - l.at
