use Rattle.search_laws.specs.Laws.Shares.{full_is_enough, spent_below_full}
use Rattle.search_laws.proofs.budgets.full_is_enough_for_any_search.Goals as goal

pub returns : goal.returns
returns c = record { tree = full_is_enough; spent = spent_below_full }
