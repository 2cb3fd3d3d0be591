use Rattle.std.proofs.Common.{arith}
use Rattle.std.proofs.lemmas.Int.{to_z-of_z}
use Rattle.seq_num.proofs.Rounding.{ceil_rounds}
use Rattle.seq_num.proofs.division.ceil_div.Goals as goal

pub returns-clause-rounds : goal.returns-clause-rounds
returns-clause-rounds c = grind (arith, to_z-of_z, ceil_rounds c.args.a c.args.d c.requires.positive)
