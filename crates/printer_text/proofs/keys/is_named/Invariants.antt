use Rattle.std.proofs.Common.{◌≡◌, drop}
use Rattle.printer_text.specs.Tables.{is_named}
use Rattle.printer_text.proofs.keys.is_named.Given as goal

abbrev pub invariant-loop-key : goal.invariant-loop-key
invariant-loop-key l = is_named (drop l.key-index l.keys) l.fn.text ≡ is_named l.fn.keys l.fn.text
