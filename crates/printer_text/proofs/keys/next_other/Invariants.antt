use Rattle.std.proofs.Common.{◌≡◌}
use Rattle.toml.specs.View.{members_view, table_view}
use Rattle.printer_text.specs.Tables.{next_other}
use Rattle.printer_text.proofs.keys.next_other.Given as goal

abbrev pub invariant-loop-text : goal.invariant-loop-text
invariant-loop-text l =
    (goal.iterator-loop-text).can_next l.text-iterator ×
    (goal.iterator-loop-text).is_finite l.text-iterator ×
    (next_other l.fn.keys (members_view l.text-iterator) ≡ next_other l.fn.keys (table_view l.fn.table))
