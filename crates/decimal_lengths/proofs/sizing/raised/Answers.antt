use Rattle.std.proofs.Common.{arith, inl, inr}
use Rattle.decimal_lengths.proofs.SizeLaws.{far_above}
use Rattle.decimal_lengths.proofs.sizing.raised.Goals as goal
use Rattle.decimal_lengths.proofs.sizing.raised.Goals.{then-kept-from-via-then-kept-from, then-kept-from-via-else-kept-from+then-by-gt7}

pub returns-then-kept-from : goal.returns-then-kept-from
returns-then-kept-from c =
    far_above c.args.kept c.args.by (omega arith)
    (elim c.then-kept-from.branch [
      | then-kept-from-via-then-kept-from w ↦ inl (omega arith)
      | then-kept-from-via-else-kept-from+then-by-gt7 w ↦ inr (omega arith)
    ])
