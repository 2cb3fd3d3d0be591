use Rattle.std.proofs.Common.{◌≡◌, All, length}
use Rattle.seq_model.specs.Soundness.{IsSoundObject}
use Rattle.bench_certificates.proofs.objects.Given as goal

abbrev pub invariant-loop : goal.invariant-loop
invariant-loop l = record {
  many : length l.objects ≡ l.counter;
  sound : All IsSoundObject l.objects;
}
