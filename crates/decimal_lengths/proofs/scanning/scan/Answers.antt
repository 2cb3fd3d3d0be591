use Rattle.std.proofs.Common.{refl, sym, ◌∙◌, arith}
use Rattle.std.proofs.lemmas.List.{take_all}
use Rattle.decimal_lengths.specs.Scanning.{nothing}
use Rattle.decimal_lengths.proofs.Running.{stops_here, comes_on, stops_short}
use Rattle.decimal_lengths.proofs.scanning.scan.Goals as goal

pub loop-place-init : goal.loop-place-init
loop-place-init c = record { numbers = nothing; came = refl; keeps = c.zero-number.ensures.keeps; counted = c.zero-number.ensures.counted }

pub returns-in_default-clause-refused : goal.returns-in_default-clause-refused
returns-in_default-clause-refused c =
    let loop = c.loop-place in
    stops_here c.args.bytes.now loop.place _ _ _ (omega arith) loop.invariant c.kind_of-kind.ensures (sym c.next.ensures ∙ c.in_default.is)

pub loop-place-preserved : goal.loop-place-preserved
loop-place-preserved c =
    let loop = c.loop-place in
    comes_on c.args.bytes.now loop.place _ _ _ _ _ (omega arith) loop.invariant c.kind_of-kind.ensures (sym c.next.ensures ∙ c.in-Some.is) c.with-number.ensures.keeps c.with-number.ensures.counted

pub returns-else-is_complete-clause-refused : goal.returns-else-is_complete-clause-refused
returns-else-is_complete-clause-refused c =
    let loop = c.loop-place in
    stops_short c.args.bytes.now loop.place _ _ _ (take_all loop.place c.args.bytes.now (omega arith)) loop.invariant (λ h. c.is_complete.ensures.1 h) c.if-is_complete.false
