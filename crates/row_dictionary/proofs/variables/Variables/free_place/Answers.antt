use Rattle.std.proofs.Common.{ℕ, List, sym, subst}
use Rattle.row_dictionary.specs.Seen.{ArePlaces}
use Rattle.row_dictionary.proofs.variables.Variables.free_place.Goals as goal

pub kept_place-requires : goal.kept_place-requires
kept_place-requires c =
    subst (λ (t : List ℕ). ArePlaces t c.as_slice-2.result.now) (sym c.as_slice.ensures.value)
    (subst (λ (t : List ℕ). ArePlaces c.self.inside.places.items t) (sym c.as_slice-2.ensures.value) c.self.invariant.of_free)
