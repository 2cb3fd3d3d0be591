use Rattle.std.proofs.Common.{◌≡◌, ◌+◌, length, get_or, arith}
use Rattle.std.proofs.lemmas.Fmt.{decimal_digit}
use Rattle.std.proofs.lemmas.List.{take_more, take_all}
use Rattle.std.proofs.lemmas.Grind.{common_steps}
use Rattle.seq_num.specs.Laws.Digits.{front_more, front_at_most, each_digit, no_leading_zero, not_empty}
use Rattle.seq_num.proofs.whole_numbers.read_digits.Goals as goal

pub returns-then-is_empty-clause-none : goal.returns-then-is_empty-clause-none
returns-then-is_empty-clause-none c = λ n small e. let h = not_empty _ n (omega arith) e in grind (arith, common_steps)

pub returns-then-bytes-eq1-clause-found : goal.returns-then-bytes-eq1-clause-found
returns-then-bytes-eq1-clause-found c = (omega arith, (let d = decimal_digit 0 (omega arith) in let t = take_more c.args.bytes.now 0 0 (omega arith) in let a = take_all 1 c.args.bytes.now (omega arith) in grind (arith, common_steps)))

pub returns-else-bytes-eq1-clause-none : goal.returns-else-bytes-eq1-clause-none
returns-else-bytes-eq1-clause-none c = λ n small e. let h : get_or c.args.bytes.now 0 0 ≡ 48 → length c.args.bytes.now ≡ 1 = no_leading_zero _ n (omega arith) e in grind (arith, common_steps)

pub returns-then-not-is_ascii_digit-clause-none : goal.returns-then-not-is_ascii_digit-clause-none
returns-then-not-is_ascii_digit-clause-none c = λ n small e. let h = each_digit _ n c.loop-b.b-index (omega arith) e (omega arith) in grind (arith, common_steps, c.is_ascii_digit.ensures.value)

pub returns-then-n-clause-none : goal.returns-then-n-clause-none
returns-then-n-clause-none c =
    λ n small e.
    let more = front_more c.args.bytes.now c.loop-b.b-index c.loop-b.n c.from.result (omega arith) (omega arith) c.if-not-is_ascii_digit.ensures.cases c.loop-b.invariant.first (omega arith) c.loop-b.invariant.front in
    let at_most = front_at_most c.args.bytes.now (c.loop-b.b-index + 1) _ n (omega arith) (omega arith) (omega arith) more e in
    omega arith

pub loop-b-preserved : goal.loop-b-preserved
loop-b-preserved c =
    record {
      below = omega arith;
      some = omega arith;
      first = c.loop-b.invariant.first;
      front = front_more c.args.bytes.now c.loop-b.b-index c.loop-b.n c.from.result (omega arith) (omega arith) c.if-not-is_ascii_digit.ensures.cases c.loop-b.invariant.first (omega arith) c.loop-b.invariant.front;
    }
