use Rattle.row_dictionary.proofs.narrow.lowest.Goals as goal

pub lowest_by-requires-clause-whole : goal.lowest_by-requires-clause-whole
lowest_by-requires-clause-whole c = c.requires.whole c.in-Some.p c.in-Some.is
