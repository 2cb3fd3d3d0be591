use Rattle.row_dictionary.proofs.Seats.{kept_among}
use Rattle.row_dictionary.proofs.variables.is_among.Goals as goal

pub returns : goal.returns
returns c =
    let k = kept_among c.args.places.now c.args.list.now c.args.z c.noted_place.result c.requires c.noted_place.ensures in
    (λ t. k.0 (c.stands_at.ensures.0 t), λ m. c.stands_at.ensures.1 (k.1 m))
