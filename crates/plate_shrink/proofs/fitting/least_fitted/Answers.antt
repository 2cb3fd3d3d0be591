use Rattle.std.proofs.Common.{◌≡◌, ◌≤◌, ◌∙◌, ap, sym, subst, arith}
use Rattle.plan_laws.specs.Inside.{region_at}
use Rattle.plate_shrink.proofs.Rooms.{moved_found, narrow_there, no_lower, shift_near}
use Rattle.plate_shrink.specs.Edges.{shift_of}
use Rattle.plate_shrink.specs.Fitting.{IsSmallShift}
use Rattle.seq_model.specs.declared.plate.Region.{Region}
use Rattle.plate_shrink.proofs.fitting.least_fitted.Goals as goal

pub least_fit-fit-requires-clause-narrow : goal.least_fit-fit-requires-clause-narrow
least_fit-fit-requires-clause-narrow c = narrow_there c.args.job.now c.args.extent c.args.plan c.span_of-all.result c.span_of-all.ensures.span c.requires.found.valid

pub moved_plan-requires-clause-near : goal.moved_plan-requires-clause-near
moved_plan-requires-clause-near c =
    let job = c.args.job.now in
    let fit = c.least_fit-fit.result in
    let all = c.span_of-all.result in
    let low : fit ≤ job.printer.grid = omega (arith, c.least_fit-fit.ensures.high, c.requires.to_grid) in
    let is : c.shift_to-shift.result ≡ shift_of all (region_at job fit).low = c.shift_to-shift.ensures ∙ ap (λ (r : Region). shift_of all r.low) c.region.ensures in
    subst IsSmallShift (sym is) (shift_near job c.args.extent fit c.args.plan all c.requires.to_grid low c.requires.found.valid c.span_of-all.ensures.span c.least_fit-fit.ensures.narrow)

pub returns-clause-least : goal.returns-clause-least
returns-clause-least c = no_lower c.args.job.now c.least_fit-fit.result c.args.plan c.span_of-all.result c.span_of-all.ensures.span c.requires.found.scale_low c.least_fit-fit.ensures.least

pub returns-clause-fitted : goal.returns-clause-fitted
returns-clause-fitted c =
    let job = c.args.job.now in
    let fit = c.least_fit-fit.result in
    let all = c.span_of-all.result in
    let is : c.shift_to-shift.result ≡ shift_of all (region_at job fit).low = c.shift_to-shift.ensures ∙ ap (λ (r : Region). shift_of all r.low) c.region.ensures in
    record {
      low = c.least_fit-fit.ensures.low;
      high = c.least_fit-fit.ensures.high;
      found = moved_found job c.args.extent fit c.args.plan c.in_ok-moved.moved all c.shift_to-shift.result c.requires.to_grid c.least_fit-fit.ensures.low c.least_fit-fit.ensures.high c.requires.found
          c.span_of-all.ensures.span c.least_fit-fit.ensures.narrow is c.in_ok-moved.ensures;
    }
