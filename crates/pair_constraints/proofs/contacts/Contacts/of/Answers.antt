use Rattle.pair_constraints.specs.Laws.Maximal.{contacts_maximal}
use Rattle.pair_constraints.specs.Laws.Rows.{contacts_are, contacts_enough}
use Rattle.pair_constraints.proofs.contacts.Contacts.of.Goals as goal

pub returns-clause-kept : goal.returns-clause-kept
returns-clause-kept c = contacts_are c.args.job.now (record { rows = c.in_ok-rows.rows }) c.in_ok-rows.ensures

pub returns-clause-enough : goal.returns-clause-enough
returns-clause-enough c = contacts_enough c.args.job.now (record { rows = c.in_ok-rows.rows }) c.in_ok-rows.ensures

pub returns-clause-maximal : goal.returns-clause-maximal
returns-clause-maximal c = contacts_maximal c.args.job.now (record { rows = c.in_ok-rows.rows }) c.in_ok-rows.ensures
