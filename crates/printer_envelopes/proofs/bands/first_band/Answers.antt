use Rattle.std.proofs.Common.{rules, FitsSigned, to_z-of_z, arith}
use Rattle.std.specs.Int.{w128}
use Rattle.std.proofs.lemmas.Int.{ints}
use Rattle.printer_envelopes.proofs.BandLaws.{floor_near}
use Rattle.printer_envelopes.proofs.bands.first_band.Goals as goal

pub returns-clause-near : goal.returns-clause-near
returns-clause-near c =
    let fits : FitsSigned w128 c.floor_div.result = search rules in
    let near = floor_near c.args.from c.args.step c.floor_div.result (search rules) (search rules) (search rules) (search rules) in
    simp to_z-of_z (omega (arith, ints, near.low, near.high))
