use Rattle.std.proofs.Common.{sym, subst}
use Rattle.search_laws.specs.Laws.Refuting.{refuted_has_none_below}
use Rattle.cert_checker.proofs.Verdicts.{checked_as, fails_exactly, passes_exactly}
use Rattle.cert_checker.specs.Wholes.{AreWhole}
use Rattle.cert_checker.proofs.checking.check.Goals as goal

pub walk-requires-clause-whole : goal.walk-requires-clause-whole
walk-requires-clause-whole c = subst AreWhole (sym c.as_slice-nodes.ensures) c.requires.whole

pub returns-clause-passes : goal.returns-clause-passes
returns-clause-passes c = passes_exactly c.args.job.now c.args.extent c.args.tree.now.nodes c.walk.result (checked_as _ _ _ _ _ _ c.in_ok-kept.ensures.extent c.as_slice-nodes.ensures c.walk.ensures)

pub returns-clause-fails : goal.returns-clause-fails
returns-clause-fails c = fails_exactly c.args.job.now c.args.extent c.args.tree.now.nodes c.walk.result (checked_as _ _ _ _ _ _ c.in_ok-kept.ensures.extent c.as_slice-nodes.ensures c.walk.ensures)

pub returns-clause-sound : goal.returns-clause-sound
returns-clause-sound c = λ p e plan below valid.
    refuted_has_none_below c.args.job.now c.args.extent e c.args.tree.now plan
    ((passes_exactly c.args.job.now c.args.extent c.args.tree.now.nodes c.walk.result (checked_as _ _ _ _ _ _ c.in_ok-kept.ensures.extent c.as_slice-nodes.ensures c.walk.ensures)).0 p) below c.requires.to_grid valid
