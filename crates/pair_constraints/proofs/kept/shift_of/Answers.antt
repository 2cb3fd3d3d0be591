use Rattle.std.proofs.Common.{arith, subst, sym}
use Rattle.outline_laws.specs.Corners.{IsNarrow}
use Rattle.search_laws.specs.Laws.RowSizes.{extremes_near}
use Rattle.seq_model.specs.Jobs.{object_at}
use Rattle.seq_model.specs.declared.job.Job.{Job}
use Rattle.std.proofs.Common.{ℕ, ◌<◌, length}
use Rattle.pair_constraints.proofs.kept.shift_of.Goals as goal

low_narrow : (job : Job) (i : ℕ) → i < length job.objects → IsNarrow (object_at job i).low
low_narrow job i l = let near = (extremes_near job i l).0 in let x = near.x in let y = near.y in (omega (arith, x), omega (arith, y))

pub low_apart-requires-clause-earlier : goal.low_apart-requires-clause-earlier
low_apart-requires-clause-earlier c = subst IsNarrow (sym c.low_of.ensures) (low_narrow c.args.job.now c.args.contact.now.i c.requires.contact.i_in)

pub low_apart-requires-clause-later : goal.low_apart-requires-clause-later
low_apart-requires-clause-later c = subst IsNarrow (sym c.low_of-2.ensures) (low_narrow c.args.job.now c.args.contact.now.j c.requires.contact.j_in)
