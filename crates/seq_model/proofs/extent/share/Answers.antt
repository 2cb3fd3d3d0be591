use Rattle.std.proofs.Common.{arith}
use Rattle.std.proofs.lemmas.Int.{to_z-of_z, ints}
use Rattle.seq_model.proofs.Shares.{share_of-le}
use Rattle.seq_model.proofs.extent.share.Goals as goal

pub returns-clause-high : goal.returns-clause-high
returns-clause-high c =
    let s = share_of-le c.args.size c.args.grid c.args.extent c.requires.at_least c.requires.within in
    grind (arith, ints, to_z-of_z)
