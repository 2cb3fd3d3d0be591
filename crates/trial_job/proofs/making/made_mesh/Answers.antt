use Rattle.trial_job.proofs.Makings.{only_memory, slices}
use Rattle.trial_job.proofs.making.made_mesh.Goals as goal

pub unreachable-requires : goal.unreachable-requires
unreachable-requires c = c.in_default.not-NoMemory (only_memory c.args.file.now.bytes c.as_slice.result.now c.requires.count c.in-Err.why c.requires.is c.as_slice.ensures c.in-Err.ensures.refused)

pub returns-in-Ok-clause-slices : goal.returns-in-Ok-clause-slices
returns-in-Ok-clause-slices c = slices c.args.file.now.bytes c.as_slice.result.now c.requires.count c.in-Ok.mesh.facets c.in-Ok.mesh.dropped c.requires.is c.as_slice.ensures c.in-Ok.ensures.mesh
