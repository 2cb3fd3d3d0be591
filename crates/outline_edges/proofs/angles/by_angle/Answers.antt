use Rattle.std.proofs.Common.{rules}
use Rattle.std.proofs.lemmas.List.Sorted.{answers_always}
use Rattle.outline_laws.specs.Laws.InOrder.{comes_first, angle_order}
use Rattle.outline_edges.proofs.angles.by_angle.Goals as goal

pub returns-clause-sorted : goal.returns-clause-sorted
returns-clause-sorted c = c.sort_unstable_by.ensures.sorted comes_first angle_order (answers_always _ _ _ (λ f a r g h. search rules))
