use Rattle.pair_constraints.specs.KeptSides.{AreKeptSides}
use Rattle.examples_contacts.proofs.tests.all_have_sides.Given as goal

abbrev pub invariant-loop-contact : goal.invariant-loop-contact
invariant-loop-contact l = AreKeptSides l.job l.kept
