use Rattle.pair_constraints.specs.KeptSides.{AreKeptSides}
use Rattle.bench_contacts.proofs.time_sides.Given as goal

abbrev pub invariant-loop : goal.invariant-loop
invariant-loop l = AreKeptSides l.job l.kept
