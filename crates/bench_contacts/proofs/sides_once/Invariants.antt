use Rattle.pair_constraints.specs.KeptSides.{AreKeptSides}
use Rattle.bench_contacts.proofs.sides_once.Given as goal

abbrev pub invariant-loop-contact : goal.invariant-loop-contact
invariant-loop-contact l = AreKeptSides l.job l.kept
