use Rattle.std.proofs.Common.{rules, FitsSigned, to_z-of_z}
use Rattle.std.specs.Int.{w64}
use Rattle.printer_text.proofs.RangeLaws.{sizes_ranged}
use Rattle.printer_text.proofs.top.read_top.Goals as goal

pub returns-clause-ranged : goal.returns-clause-ranged
returns-clause-ranged c =
    let fits_grain : FitsSigned w64 c.in_ok-grain.grain = search rules in
    let fits_width : FitsSigned w64 c.in_ok-plate.plate.x = search rules in
    let fits_depth : FitsSigned w64 c.in_ok-plate.plate.y = search rules in
    let fits_step : FitsSigned w64 c.in_ok-step.step = search rules in
    let fits_margin : FitsSigned w64 c.in_ok-margin.margin = search rules in
    let fits_grid : FitsSigned w64 c.in_ok-grid.grid = search rules in
    simp to_z-of_z (sizes_ranged c.in_ok-grain.grain c.in_ok-plate.plate.x c.in_ok-plate.plate.y c.in_ok-step.step c.in_ok-margin.margin c.in_ok-grid.grid
    (search rules) (search rules) (search rules) (search rules) (search rules) (search rules))
