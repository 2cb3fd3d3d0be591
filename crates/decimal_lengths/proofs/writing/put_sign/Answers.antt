use Rattle.std.proofs.Common.{pos, ◌<ℤ◌, arith}
use Rattle.std.proofs.lemmas.Int.{ints}
use Rattle.decimal_lengths.proofs.SpellingLaws.{sign_put}
use Rattle.decimal_lengths.proofs.writing.put_sign.Goals as goal

pub returns-then-um-lt0-clause-spelled : goal.returns-then-um-lt0-clause-spelled
returns-then-um-lt0-clause-spelled c =
    let below : c.args.um <ℤ pos 0 = grind (arith, ints) in
    sign_put c.args.um c.args.to.now c.requires below
