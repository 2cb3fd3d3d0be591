use Rattle.search_laws.specs.Laws.RowSizes.{listed_side_size, contact_side_size}
use Rattle.search_laws.proofs.rows.a_side_is_small.Goals as goal

pub returns : goal.returns
returns c = record { of_a_list = listed_side_size; of_a_contact = contact_side_size }
