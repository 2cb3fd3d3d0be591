use Rattle.std.proofs.Common.{◌%◌, ◌<◌, arith}
use Rattle.std.proofs.lemmas.Nat.{mod_below}
use Rattle.std.proofs.lemmas.Nat.Gcd.{IsGcd-from_zero, IsGcd-from_mod}
use Rattle.seq_num.proofs.divisors.gcd_of_sizes.Goals as goal

pub loop-b-preserved : goal.loop-b-preserved
loop-b-preserved c =
    let rest : c.loop-b.a % c.loop-b.b < c.loop-b.b = mod_below c.loop-b.a c.loop-b.b (omega arith) in
    record { is = λ g h. c.loop-b.invariant.is g (IsGcd-from_mod _ _ g h); size = omega arith }

pub returns-clause-is : goal.returns-clause-is
returns-clause-is c = c.loop-b.invariant.is _ (IsGcd-from_zero _ _ (omega arith))
