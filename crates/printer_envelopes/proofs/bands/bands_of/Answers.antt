use Rattle.std.proofs.Common.{◌≡◌, rules, FitsSigned, w64, to_z-of_z, arith}
use Rattle.std.proofs.lemmas.Int.{ints}
use Rattle.printer_envelopes.specs.Bands.{first_band, last_band}
use Rattle.printer_envelopes.proofs.BandLaws.{in_order}
use Rattle.printer_envelopes.proofs.bands.bands_of.Goals as goal

pub last_band-requires-clause-low : goal.last_band-requires-clause-low
last_band-requires-clause-low c =
    let within = c.requires.to c.in-Some.to c.in-Some.is in
    omega (arith, ints, within.0)

pub returns-in-Some-clause-order : goal.returns-in-Some-clause-order
returns-in-Some-clause-order c =
    let within = c.requires.to c.in-Some.to c.in-Some.is in
    let fits_to : FitsSigned w64 c.in-Some.to = search rules in
    let fits_from : FitsSigned w64 c.args.from = search rules in
    let fits_step : FitsSigned w64 c.args.step = search rules in
    let lo : c.first_band-lo.result ≡ first_band c.args.from c.args.step = simp to_z-of_z at c.first_band-lo.ensures.value in
    let hi : c.last_band.result ≡ last_band c.in-Some.to c.args.step = simp to_z-of_z at c.last_band.ensures.value in
    rw (lo, hi) (in_order c.args.from c.in-Some.to c.args.step (search rules) (search rules) within.0 within.1)
