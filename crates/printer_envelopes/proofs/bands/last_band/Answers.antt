use Rattle.std.proofs.Common.{rules, FitsSigned, to_z-of_z, arith}
use Rattle.std.specs.Int.{w128}
use Rattle.std.proofs.lemmas.Int.{ints}
use Rattle.printer_envelopes.proofs.BandLaws.{ceil_near}
use Rattle.printer_envelopes.proofs.bands.last_band.Goals as goal

pub returns-clause-near : goal.returns-clause-near
returns-clause-near c =
    let fits : FitsSigned w128 c.ceil_div.result = search rules in
    let near = ceil_near c.args.to c.args.step c.ceil_div.result (search rules) (search rules) (search rules) (search rules) in
    simp to_z-of_z (omega (arith, ints, near.low, near.high))
