use Rattle.std.proofs.Common.{◌≡◌, ◌/◌, ◌∙◌, length, take, ap, arith, rules}
use Rattle.std.proofs.lemmas.Int.{ints}
use Rattle.std.proofs.lemmas.Fmt.{length-decimal-le}
use Rattle.std.proofs.lemmas.List.{length-take}
use Rattle.decimal_lengths.specs.Spelling.{millimetres}
use Rattle.decimal_lengths.proofs.SpellingLaws.{spelled_reads}
use Rattle.decimal_lengths.proofs.writing.write_um.Goals as goal

pub put_thousandths-requires-clause-room : goal.put_thousandths-requires-clause-room
put_thousandths-requires-clause-room c =
    let whole = c.unsigned_abs-size.result / 1000 in
    let digits = length-decimal-le 16 whole (omega arith) (omega (arith, ints)) (omega (arith, ints)) in
    omega (arith, ap length (c.as_bytes.ensures.value ∙ c.format.ensures.text))

pub returns-clause-read_back : goal.returns-clause-read_back
returns-clause-read_back c =
    let spelled : take c.put_thousandths.result c.put_thousandths.new.to ≡ millimetres c.args.um = search rules in
    λ near. rw spelled (spelled_reads c.args.um near (omega (arith, ap length spelled, length-take c.put_thousandths.result c.put_thousandths.new.to)))
