use Rattle.std.proofs.Common.{rules, ◌≡◌, ◌∙◌, ◌<◌, sym, subst, length, get_or, set}
use Rattle.row_laws.specs.Laws.OneForm.{any_default}
use Rattle.row_pivots.specs.Laws.Pivoting.{get_or-In}
use Rattle.row_dictionary.specs.Seen.{Standing, IsPlaced}
use Rattle.row_dictionary.proofs.Seats.{exchanged}
use Rattle.row_dictionary.proofs.variables.Variables.exchange.Goals as goal

pub index_mut-requires-3 : goal.index_mut-requires-3
index_mut-requires-3 c =
    let basic = c.self.inside.basic.items in
    let in_r : c.args.r < length c.self.inside.basic.items = subst (λ (t : Standing). c.args.r < length t.basic) (sym c.self.view_is) c.requires.r in
    let is : c.index-out.result.now ≡ get_or c.self.inside.basic.items c.args.r 0 = c.index-out.ensures ∙ any_default basic c.args.r c.index-out.result.now 0 in_r in
    let h : c.index-out.result.now < length c.self.inside.places.items = subst (λ t. t < length c.self.inside.places.items) (sym is) (c.self.invariant.of_basic (get_or basic c.args.r 0) (get_or-In basic c.args.r 0 in_r)).0 in
    search rules

pub index_mut-requires-4 : goal.index_mut-requires-4
index_mut-requires-4 c =
    let free = c.self.inside.free.items in
    let in_s : c.args.s < length c.self.inside.free.items = subst (λ (t : Standing). c.args.s < length t.free) (sym c.self.view_is) c.requires.s in
    let is : c.index-into.result.now ≡ get_or c.self.inside.free.items c.args.s 0 = c.index-into.ensures ∙ any_default free c.args.s c.index-into.result.now 0 in_s in
    let h : c.index-into.result.now < length c.self.inside.places.items = subst (λ t. t < length c.self.inside.places.items) (sym is) (c.self.invariant.of_free (get_or free c.args.s 0) (get_or-In free c.args.s 0 in_s)).0 in
    search rules

pub invariant_of-self : goal.invariant_of-self
invariant_of-self c =
    let places = c.self.inside.places.items in
    let basic = c.self.inside.basic.items in
    let free = c.self.inside.free.items in
    let in_r : c.args.r < length c.self.inside.basic.items = subst (λ (t : Standing). c.args.r < length t.basic) (sym c.self.view_is) c.requires.r in
    let in_s : c.args.s < length c.self.inside.free.items = subst (λ (t : Standing). c.args.s < length t.free) (sym c.self.view_is) c.requires.s in
    let out_is : c.index-out.result.now ≡ get_or c.self.inside.basic.items c.args.r 0 = c.index-out.ensures ∙ any_default basic c.args.r c.index-out.result.now 0 in_r in
    let into_is : c.index-into.result.now ≡ get_or c.self.inside.free.items c.args.s 0 = c.index-into.ensures ∙ any_default free c.args.s c.index-into.result.now 0 in_s in
    subst (λ o. IsPlaced (set (set places o c.args.s) c.index-into.result.now c.args.r) (set basic c.args.r c.index-into.result.now) (set free c.args.s o)) (sym out_is)
    (subst (λ i. IsPlaced (set (set places (get_or basic c.args.r 0) c.args.s) i c.args.r) (set basic c.args.r i) (set free c.args.s (get_or basic c.args.r 0))) (sym into_is)
    (exchanged places basic free c.args.r c.args.s c.self.invariant in_r in_s))
