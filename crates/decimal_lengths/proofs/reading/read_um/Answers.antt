use Rattle.std.proofs.Common.{◌≡◌, ◌<◌, length, Ok, Err, rules, arith}
use Rattle.std.proofs.lemmas.List.{nil_from_length}
use Rattle.decimal_lengths.specs.declared.Decimal.TheVariants.{Empty, TooLong}
use Rattle.decimal_lengths.proofs.Computing.{value_of}
use Rattle.decimal_lengths.proofs.Refusing.{exact}
use Rattle.decimal_lengths.proofs.reading.read_um.Goals as goal

pub returns-clause-length : goal.returns-clause-length
returns-clause-length c = λ um. exact c.args.bytes.now c.read_short.result (Ok um) c.read_short.ensures

pub returns-clause-refused : goal.returns-clause-refused
returns-clause-refused c = λ cause. exact c.args.bytes.now c.read_short.result (Err cause) c.read_short.ensures

pub returns-then-is_empty-clause-value : goal.returns-then-is_empty-clause-value
returns-then-is_empty-clause-value c =
    let none : length c.args.bytes.now ≡ 0 = grind (arith, rules) in
    value_of c.args.bytes.now (Err Empty) (nil_from_length c.args.bytes.now none)

pub returns-then-bytes-gt-MOST_BYTES-clause-value : goal.returns-then-bytes-gt-MOST_BYTES-clause-value
returns-then-bytes-gt-MOST_BYTES-clause-value c =
    let long : 64 < length c.args.bytes.now = omega arith in
    value_of c.args.bytes.now (Err TooLong) long

pub returns-clause-value : goal.returns-clause-value
returns-clause-value c = value_of c.args.bytes.now c.read_short.result c.read_short.ensures
