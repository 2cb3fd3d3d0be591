use Rattle.std.proofs.Common.{arith}
use Rattle.decimal_lengths.proofs.SizeLaws.{half_up-unit, half_up-far, ten_pow_pos}
use Rattle.decimal_lengths.proofs.sizing.lowered.Goals as goal

pub returns-then-by-gt19 : goal.returns-then-by-gt19
returns-then-by-gt19 c = (half_up-far c.args.kept c.args.by c.requires.fits c.if-by-gt19.true, omega arith)

pub nonzero_div-kept : goal.nonzero_div-kept
nonzero_div-kept c = omega (arith, ten_pow_pos c.args.by)

pub returns : goal.returns
returns c = rw (half_up-unit c.args.kept c.args.by c.requires.some, ← c.pow-unit.ensures) c.up_to_greatest.ensures
