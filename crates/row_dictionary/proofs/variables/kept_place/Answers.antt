use Rattle.std.proofs.Common.{◌∙◌, sym, subst}
use lib.Dec.{T}
use Rattle.row_dictionary.proofs.Seats.{kept, kept_none}
use Rattle.row_dictionary.proofs.variables.kept_place.Goals as goal

pub returns-then-stands_at-clause-is : goal.returns-then-stands_at-clause-is
returns-then-stands_at-clause-is c = kept c.args.places.now c.args.list.now c.args.z c.noted_place-at.result c.requires c.noted_place-at.ensures (c.stands_at.ensures.0 c.if-stands_at.true)

pub returns-clause-is : goal.returns-clause-is
returns-clause-is c = kept_none c.args.places.now c.args.list.now c.args.z c.noted_place-at.result c.requires c.noted_place-at.ensures (λ s. absurd (subst T (sym (c.stands_at.ensures.1 s) ∙ c.if-stands_at.false) tt))
