use Rattle.std.proofs.Common.{◌≡◌, ◌∙◌, ap, subst, sym, rules, FitsSigned, to_z-of_z}
use Rattle.std.specs.Int.{w128}
use Rattle.seq_model.specs.Contacts.{difference}
use Rattle.seq_model.specs.Outlines.{Inner}
use Rattle.pair_constraints.specs.Laws.Places.{gap, overlap_at_places}
use Rattle.pair_constraints.proofs.overlaps.overlap.Goals as goal

pub returns : goal.returns
returns c =
    let S = difference c.args.a.now c.args.b.now c.args.f.now in
    let law = overlap_at_places c.args.a.now c.args.b.now c.args.f.now c.args.scale c.args.earlier.now c.args.later.now c.requires.places.one in
    let inner = c.strictly_in.ensures.inner in
    let fits : FitsSigned w128 c.args.scale = search rules in
    let e : c.gap_of.result ≡ gap c.args.scale c.args.earlier.now c.args.later.now = c.gap_of.ensures.value ∙ ap (λ s. gap s c.args.earlier.now c.args.later.now) (to_z-of_z fits) in
    (λ t. law.1 (subst (Inner S) e (inner.0 t)), λ o. inner.1 (subst (Inner S) (sym e) (law.0 o)))
