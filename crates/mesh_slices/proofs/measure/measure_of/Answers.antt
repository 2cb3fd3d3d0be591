use Rattle.mesh_slices.proofs.Reached.{spans_of}
use Rattle.mesh_slices.proofs.measure.measure_of.Goals as goal

pub returns-clause-spans : goal.returns-clause-spans
returns-clause-spans c =
    let found = c.extremes_of-found.result in
    let e = c.extremes_of-found.ensures in
    let low = c.low_spot-low.ensures in
    let high = c.high_spot-high.ensures in
    spans_of c.args.printer.now c.args.facets.now found.low found.high c.low_spot-low.result c.high_spot-high.result c.args.printer.now.ranged c.requires.some
    (record {
      x = record { low_so_far = e.low_x; high_so_far = e.high_x };
      y = record { low_so_far = e.low_y; high_so_far = e.high_y };
      z = record { low_so_far = e.low_z; high_so_far = e.high_z };
    })
    low.x low.y high.x high.y
