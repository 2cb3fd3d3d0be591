use Rattle.std.proofs.Common.{◌≡◌, All, length}
use Rattle.seq_model.specs.Soundness.{IsSoundObject}
use Rattle.bench_contacts.proofs.objects.Given as goal

abbrev pub invariant-loop-number : goal.invariant-loop-number
invariant-loop-number l = record {
  many : length l.objects ≡ l.number;
  sound : All IsSoundObject l.objects;
}
