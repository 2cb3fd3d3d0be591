use Rattle.search_laws.specs.Laws.SideCounts.{sides_of_contact, three_at_contact}
use Rattle.search_laws.specs.Laws.FewSides.{few_at_contact}
use Rattle.search_laws.proofs.sides.a_contact_has_sides.Goals as goal

pub returns : goal.returns
returns c = record { some = sides_of_contact; three = three_at_contact; few = few_at_contact }
