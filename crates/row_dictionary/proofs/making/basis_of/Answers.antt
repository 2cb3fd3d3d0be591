use Rattle.std.proofs.Common.{arith}
use Rattle.integer_laws.specs.Laws.Members.{In-from_contains}
use Rattle.row_pivots.specs.Laws.Measure.{place_is}
use Rattle.row_dictionary.proofs.making.basis_of.Goals as goal

pub index_mut-requires : goal.index_mut-requires
index_mut-requires c =
    let e = c.place_of.ensures in
    let h = (place_is c.args.out c.args.list.now (In-from_contains c.args.list.now c.args.out c.requires)).0 in
    let l = c.in_ok-next.ensures.len in
    omega (arith, e, h, l)
