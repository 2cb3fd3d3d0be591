use Rattle.std.proofs.Common.{drop, ap, sym, ◌∙◌}
use Rattle.std.proofs.lemmas.List.{drop_all, take_rest}
use Rattle.seq_io.proofs.Places.{bytes_at_is, drop_none}
use Rattle.seq_io.proofs.open_files.left_of.Goals as goal

pub returns-in_default-get-clause-left : goal.returns-in_default-get-clause-left
returns-in_default-get-clause-left c = rw c.in-Some.is (sym (drop_none c.args.files.now c.in-Some.at c.args.given (c.in_default-get.ensures.lookup.3)))

pub returns-then-given-bytes-clause-left : goal.returns-then-given-bytes-clause-left
returns-then-given-bytes-clause-left c =
    let a = c.in-Some-get.ensures.lookup in
    let b = bytes_at_is c.args.files.now c.in-Some.at c.in-Some-get.file.now a.3.0 a.1 in
    rw c.in-Some.is (take_rest c.as_slice-bytes.result.now c.args.given ∙ ap (drop c.args.given) (c.as_slice-bytes.ensures ∙ sym b))

pub returns-else-given-bytes-clause-left : goal.returns-else-given-bytes-clause-left
returns-else-given-bytes-clause-left c =
    let a = c.in-Some-get.ensures.lookup in
    let b = bytes_at_is c.args.files.now c.in-Some.at c.in-Some-get.file.now a.3.0 a.1 in
    rw c.in-Some.is (sym (ap (drop c.args.given) (b ∙ sym c.as_slice-bytes.ensures) ∙ drop_all c.args.given c.as_slice-bytes.result.now c.if-given-bytes.false))
