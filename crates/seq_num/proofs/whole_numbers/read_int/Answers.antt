use Rattle.std.proofs.Common.{◌∙◌, ◌∷◌, ap, decimal}
use Rattle.seq_num.proofs.Signs.{minus_none, minus_zero}
use Rattle.seq_num.proofs.whole_numbers.read_int.Goals as goal

pub returns-in_err-n-clause-none : goal.returns-in_err-n-clause-none
returns-in_err-n-clause-none c =
    let some = c.in-Some-eq45-default in
    rw c.from_residual.ensures (minus_none c.args.bytes.now some.digits.now (some.ensures.cases.0 ∙ ap (λ x. x ∷ some.digits.now) some.field-0-0-test) c.in_err-n.ensures.none)

pub returns-then-n-eq0-clause-none : goal.returns-then-n-eq0-clause-none
returns-then-n-eq0-clause-none c =
    let some = c.in-Some-eq45-default in
    minus_zero c.args.bytes.now some.digits.now (some.ensures.cases.0 ∙ ap (λ x. x ∷ some.digits.now) some.field-0-0-test) (c.in_ok-n.ensures.found.1 ∙ ap decimal c.if-n-eq0.true)
