use Rattle.std.proofs.Common.{◌≤◌, ◌<◌, length, refl, arith}
use Rattle.cert_checker.proofs.Trails.{fit_cut, rows_of_cut, all_kept, fit_same}
use Rattle.cert_checker.proofs.trail.Trail.cut.Goals as goal

pub returns-then-depth-len-clause-fit : goal.returns-then-depth-len-clause-fit
returns-then-depth-len-clause-fit c =
    let long : length c.args.self.now.marks.items ≤ c.args.depth = omega (arith, c.if-depth-len.true, c.len.ensures) in
    fit_same c.args.self.now _ c.requires.fit (all_kept c.args.self.now.path.items _ c.args.self.now.marks.items c.args.depth c.requires.fit.marked long c.truncate.ensures.items) refl refl refl

pub returns-clause-fit : goal.returns-clause-fit
returns-clause-fit c =
    let short : c.args.depth < length c.args.self.now.marks.items = omega (arith, c.if-depth-len.false, c.len.ensures) in
    fit_cut c.args.self.now _ c.args.depth _ _ c.requires.fit short c.index.ensures c.truncate-4.ensures.items c.truncate-3.ensures.items c.truncate-2.ensures.items refl

pub returns-clause-rows : goal.returns-clause-rows
returns-clause-rows c = λ job has.
    (let short : c.args.depth < length c.args.self.now.marks.items = omega (arith, c.if-depth-len.false, c.len.ensures) in
    rows_of_cut job c.args.self.now.path.items _ c.args.self.now.marks.items c.args.self.now.rows.items _ c.args.depth _ _ c.requires.fit.marked short c.index.ensures c.truncate-4.ensures.items c.truncate-2.ensures.items has)
