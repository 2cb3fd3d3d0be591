use Rattle.std.proofs.Common.{◌≡◌, List, ℕ, ℤ, FitsSigned, rules}
use Rattle.std.proofs.lemmas.Int.{to_z-of_z}
use Rattle.std.specs.Option.{option_map}
use Rattle.seq_num.specs.Laws.Spelling.{number_is}
use Rattle.text_lines.specs.Laws.Reading.{whole_from}
use Rattle.text_lines.specs.Reading.{whole_at}
use Rattle.text_lines.proofs.reading.whole.Goals as goal

pub returns-in_err-n : goal.returns-in_err-n
returns-in_err-n c =
    let rest = c.split_at.result.1.now in
    let number = number_is c.read_int.result c.split_at.result.0.now c.read_int.ensures.found c.read_int.ensures.none in
    let whole : option_map {U = ℤ × List ℕ} (λ n. (n, rest)) c.read_int.result ≡ whole_at c.args.bytes.now = whole_from c.args.bytes.now _ rest _ _ c.whole_len.ensures.value c.split_at.ensures.front c.split_at.ensures.back number in
    rw c.from_residual.ensures (rw c.in_err-n.was at whole)

pub returns : goal.returns
returns c =
    let rest = c.split_at.result.1.now in
    let number = number_is c.read_int.result c.split_at.result.0.now c.read_int.ensures.found c.read_int.ensures.none in
    let whole : option_map {U = ℤ × List ℕ} (λ n. (n, rest)) c.read_int.result ≡ whole_at c.args.bytes.now = whole_from c.args.bytes.now _ rest _ _ c.whole_len.ensures.value c.split_at.ensures.front c.split_at.ensures.back number in
    let fits : FitsSigned mir.Syntax.w128 c.in_ok-n.n = search rules in
    rw (to_z-of_z mir.Syntax.w128 c.in_ok-n.n fits) (rw c.in_ok-n.was at whole)
