use Rattle.std.proofs.Common.{◌≡◌, ◌≤◌, ◌-◌, length}
use Rattle.std.specs.Option.{option_map}
use Rattle.cert_text.specs.Lines.{pairs_at}
use Rattle.cert_text.specs.Laws.Pairs.{behind}
use Rattle.cert_text.proofs.pairs.all_pairs.Given as goal

abbrev pub invariant-loop-found : goal.invariant-loop-found
invariant-loop-found l = record {
  answer : option_map (behind l.found.items) (pairs_at (33 - length l.found.items) l.rest) ≡ pairs_at 33 l.fn.bytes;
  few : length l.found.items ≤ 33;
}

abbrev pub decreases-loop-found : goal.decreases-loop-found
decreases-loop-found l = length l.rest
