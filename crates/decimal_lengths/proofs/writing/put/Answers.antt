use Rattle.std.proofs.Common.{◌+◌, ◌-◌, length, arith}
use Rattle.std.proofs.lemmas.Slice.{drop-put_mid}
use Rattle.decimal_lengths.proofs.writing.put.Goals as goal

pub returns-clause-rest : goal.returns-clause-rest
returns-clause-rest c =
    λ k h.
    let at = c.args.at in
    drop-put_mid at (at + length c.args.bytes.now - at) c.args.to.now c.copy_from_slice.new.self k (omega arith) (omega arith) (omega arith)
