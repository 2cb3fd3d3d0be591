use Rattle.mesh_slices.proofs.Running.{ended, near_low, near_high}
use Rattle.mesh_slices.proofs.extremes.extremes_of.Goals as goal

pub returns-clause-low_near : goal.returns-clause-low_near
returns-clause-low_near c =
    let l = c.loop-f in
    near_low c.args.facets.now l.found.low l.found.high c.requires.some c.requires.near (ended c.args.facets.now l.f-index l.found.low l.found.high c.loop-f-test.false l.invariant)

pub returns-clause-high_near : goal.returns-clause-high_near
returns-clause-high_near c =
    let l = c.loop-f in
    near_high c.args.facets.now l.found.low l.found.high c.requires.some c.requires.near (ended c.args.facets.now l.f-index l.found.low l.found.high c.loop-f-test.false l.invariant)
