use Rattle.examples_model.proofs.WideLaws.{entry, entry_below, entry_of_this_size, constant, constant_below, denominator, denominator_below, of_no_line}
use Rattle.examples_model.proofs.walks.wide_from_two_to_the_62.Goals as goal

pub returns-clause-entry : goal.returns-clause-entry
returns-clause-entry c = entry

pub returns-clause-entry_below : goal.returns-clause-entry_below
returns-clause-entry_below c = entry_below

pub returns-clause-entry_of_this_size : goal.returns-clause-entry_of_this_size
returns-clause-entry_of_this_size c = entry_of_this_size

pub returns-clause-constant : goal.returns-clause-constant
returns-clause-constant c = constant

pub returns-clause-constant_below : goal.returns-clause-constant_below
returns-clause-constant_below c = constant_below

pub returns-clause-denominator : goal.returns-clause-denominator
returns-clause-denominator c = denominator

pub returns-clause-denominator_below : goal.returns-clause-denominator_below
returns-clause-denominator_below c = denominator_below

pub returns-clause-of_no_line : goal.returns-clause-of_no_line
returns-clause-of_no_line c = of_no_line
