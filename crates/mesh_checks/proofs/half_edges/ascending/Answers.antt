use Rattle.std.proofs.Common.{rules}
use Rattle.std.proofs.lemmas.List.Sorted.{answers_always}
use Rattle.mesh_checks.proofs.Ends.{is_lower, lower_order, ascending_from_sorted}
use Rattle.mesh_checks.proofs.half_edges.ascending.Goals as goal

pub returns-clause-ascending : goal.returns-clause-ascending
returns-clause-ascending c = ascending_from_sorted c.sort_unstable_by.new.self.items (c.sort_unstable_by.ensures.sorted is_lower lower_order (answers_always _ _ _ (λ f a r g h. search rules)))
