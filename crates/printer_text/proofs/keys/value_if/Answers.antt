use Rattle.toml.proofs.Views.{table_get}
use Rattle.printer_text.proofs.keys.value_if.Goals as goal

pub returns : goal.returns
returns c =
    let found = table_get c.get.result c.key_text.result.now c.args.table.now.entries c.get.ensures.value in
    record { value = rw (← c.key_text.ensures) found }
