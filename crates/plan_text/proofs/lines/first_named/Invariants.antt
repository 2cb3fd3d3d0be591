use Rattle.std.proofs.Common.{◌≡◌, drop}
use Rattle.plan_text.specs.Lines.{first_named}
use Rattle.plan_text.proofs.lines.first_named.Given as goal

abbrev pub invariant-loop-state : goal.invariant-loop-state
invariant-loop-state l = first_named (drop l.state-index l.states) l.bytes ≡ first_named l.states l.bytes
