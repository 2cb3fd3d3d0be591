use Rattle.std.proofs.Common.{rules, ◌∙◌, SFits, w64, to_z-of_z, subst, sym}
use Rattle.row_pivots.specs.Ends.{Small}
use Rattle.row_dictionary.proofs.Lowering.{lowered_is}
use Rattle.row_dictionary.proofs.narrow.lowest_by.Goals as goal

pub returns : goal.returns
returns c =
    let m = c.args.mix.now in
    let d : SFits w64 m.d = search rules in
    let p : SFits w64 c.args.p.now = search rules in
    let q : SFits w64 c.lowered.result = search rules in
    lowered_is m _ _ _ (to_z-of_z d) (to_z-of_z p ∙ c.requires.whole.is) (to_z-of_z q ∙ c.lowered.ensures.is) (subst Small (sym (to_z-of_z p)) c.requires.whole.size) (subst Small (sym (to_z-of_z q)) c.lowered.ensures.size) c.requires.g (c.is_factor.ensures c.if-not-is_factor.false) c.requires.whole.divides
