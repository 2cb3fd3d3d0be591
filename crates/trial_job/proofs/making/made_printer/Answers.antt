use Rattle.trial_job.proofs.Makings.{made_printer, printer_memory}
use Rattle.trial_job.proofs.making.made_printer.Goals as goal

pub unreachable-requires : goal.unreachable-requires
unreachable-requires c = c.in_default.not-NoMemory (printer_memory c.args.bytes.now c.in-Err.why c.requires c.in-Err.ensures.err)

pub returns-in-Ok : goal.returns-in-Ok
returns-in-Ok c = made_printer c.args.bytes.now c.in-Ok.printer c.requires c.in-Ok.ensures.ok
