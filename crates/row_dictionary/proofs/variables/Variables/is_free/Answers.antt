use Rattle.std.proofs.Common.{◌↔◌, ◌∙◌, ℕ, List, ap, sym, subst, IsTrue, Contains}
use Rattle.row_dictionary.specs.Seen.{ArePlaces, Standing}
use Rattle.row_dictionary.proofs.variables.Variables.is_free.Goals as goal

pub is_among-requires : goal.is_among-requires
is_among-requires c =
    subst (λ (t : List ℕ). ArePlaces t c.as_slice-2.result.now) (sym c.as_slice.ensures.value)
    (subst (λ (t : List ℕ). ArePlaces c.self.inside.places.items t) (sym c.as_slice-2.ensures.value) c.self.invariant.of_free)

pub returns : goal.returns
returns c =
    subst (λ (t : List ℕ). IsTrue c.is_among.result ↔ Contains t c.args.z) (c.as_slice-2.ensures.value ∙ ap (λ (t : Standing). t.free) c.self.view_is) c.is_among.ensures
