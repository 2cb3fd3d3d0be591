use Rattle.std.proofs.Common.{ℕ, List, sym, subst, ◌++◌}
use Rattle.std.specs.List.{range_with_len}
use Rattle.row_dictionary.specs.Seen.{IsPlaced}
use Rattle.row_dictionary.proofs.Seats.{placed_first}
use Rattle.row_dictionary.proofs.variables.Variables.of.Goals as goal

pub invariant_of-result : goal.invariant_of-result
invariant_of-result c =
    subst (λ (t : List ℕ). IsPlaced t c.in_ok-range.field-0.items c.in_ok-range-2.field-0.items) (sym c.in_ok-first_places.ensures)
    (subst (λ (t : List ℕ). IsPlaced (range_with_len 0 c.args.vars ++ range_with_len 0 c.args.count) t c.in_ok-range-2.field-0.items) (sym c.in_ok-range.ensures)
    (subst (λ (t : List ℕ). IsPlaced (range_with_len 0 c.args.vars ++ range_with_len 0 c.args.count) (range_with_len c.args.vars c.args.count) t) (sym c.in_ok-range-2.ensures)
    (placed_first c.args.vars c.args.count)))
