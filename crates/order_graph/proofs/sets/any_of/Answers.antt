use Rattle.std.proofs.Common.{arith, ◌<◌}
use Rattle.std.specs.Int.{w16}
use Rattle.std.proofs.lemmas.Nat.Bits.{bit_at-trailing_zeros}
use Rattle.order_graph.proofs.sets.any_of.Goals as goal

pub returns : goal.returns
returns c =
    let some : 0 < c.args.set = omega (arith, c.if-set-eq0.false) in
    let place = bit_at-trailing_zeros w16 c.args.set some c.ranges.set.fits in
    (place.0, place.1)
