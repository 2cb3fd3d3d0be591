use Rattle.std.proofs.Common.{◌<◌, ◌≤◌, List, length, get_or, sym, ap, subst, ◌∙◌, arith, unsigned_abs}
use Rattle.node_looks.proofs.RegionLaws.{object_is, low_near, high_near}
use Rattle.node_looks.proofs.RowLaws.{bounds_more, wide_near, deep_near}
use Rattle.seq_model.specs.declared.job.Object.{Object}
use Rattle.seq_model.specs.declared.plate.Region.{Region}
use Rattle.node_looks.proofs.system.bound_rows.Goals as goal

pub push_bounds-requires-clause-w : goal.push_bounds-requires-clause-w
push_bounds-requires-clause-w c = subst (λ (r : Region). unsigned_abs r.w ≤ 20_000) (sym c.region-region.ensures) (wide_near c.args.job.now c.args.extent c.requires.high)

pub push_bounds-requires-clause-h : goal.push_bounds-requires-clause-h
push_bounds-requires-clause-h c = subst (λ (r : Region). unsigned_abs r.h ≤ 20_000) (sym c.region-region.ensures) (deep_near c.args.job.now c.args.extent c.requires.high)

pub push_bounds-requires-clause-variable : goal.push_bounds-requires-clause-variable
push_bounds-requires-clause-variable c = omega (arith, c.loop-o-test.true, ap length c.as_slice-objects.ensures)

pub push_bounds-requires-clause-low : goal.push_bounds-requires-clause-low
push_bounds-requires-clause-low c =
    let l : c.loop-o.o < length c.args.job.now.objects = omega (arith, c.loop-o-test.true, ap length c.as_slice-objects.ensures) in
    low_near c.args.job.now c.loop-o.o c.index-objects-o.result l (object_is c.args.job.now c.loop-o.o c.as_slice-objects.result.now c.index-objects-o.result l c.as_slice-objects.ensures c.index-objects-o.is)

pub push_bounds-requires-clause-high : goal.push_bounds-requires-clause-high
push_bounds-requires-clause-high c =
    let l : c.loop-o.o < length c.args.job.now.objects = omega (arith, c.loop-o-test.true, ap length c.as_slice-objects.ensures) in
    high_near c.args.job.now c.loop-o.o c.index-objects-o.result l (object_is c.args.job.now c.loop-o.o c.as_slice-objects.result.now c.index-objects-o.result l c.as_slice-objects.ensures c.index-objects-o.is)

pub loop-o-preserved : goal.loop-o-preserved
loop-o-preserved c =
    let o = c.loop-o.o in
    let obj = c.index-objects-o.result in
    let l : o < length c.args.job.now.objects = omega (arith, c.loop-o-test.true, ap length c.as_slice-objects.ensures) in
    let is = sym (c.index-objects-o.is ∙ ap (λ (xs : List Object). get_or xs o obj) c.as_slice-objects.ensures) in
    record {
      same = bounds_more c.args.job.now c.args.extent o c.loop-o.rows.items c.push_bounds.new.rows.items obj c.region-region.result.w c.region-region.result.h _ l is
          (ap (λ (r : Region). r.w) c.region-region.ensures) (ap (λ (r : Region). r.h) c.region-region.ensures) c.in_ok-push_bounds.ensures c.loop-o.invariant.same;
    }
