use Rattle.std.proofs.Common.{◌≢◌, ◌<◌, ◌^◌, get_or, length}
use Rattle.seq_num.specs.Laws.Digits.{Front}
use Rattle.seq_num.proofs.whole_numbers.read_digits.Given as goal

abbrev pub invariant-loop-b : goal.invariant-loop-b
invariant-loop-b l = record {
  below : l.n < 2 ^ 100;
  some : 0 < length l.bytes;
  first : get_or l.bytes 0 0 ≢ 48;
  front : Front l.bytes l.b-index l.n;
}
