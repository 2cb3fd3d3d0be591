use Rattle.std.proofs.Common.{◌∙◌, ap, sym, ◌++◌, ◌∷◌, []}
use Rattle.row_dictionary.proofs.Seats.{range_zero, joined_next}
use Rattle.std.specs.List.{range_with_len}
use Rattle.row_dictionary.proofs.variables.first_places.Goals as goal

pub loop-z-preserved : goal.loop-z-preserved
loop-z-preserved c = c.in_ok-push.ensures.items ∙ ap (λ t. t ++ c.loop-z.z ∷ []) c.loop-z.invariant ∙ sym (range_zero c.loop-z.z)

pub loop-r-preserved : goal.loop-r-preserved
loop-r-preserved c = c.in_ok-push-2.ensures.items ∙ ap (λ t. t ++ c.loop-r.r ∷ []) c.loop-r.invariant ∙ joined_next (range_with_len 0 c.args.vars) c.loop-r.r
