use Rattle.std.proofs.Common.{◌≡◌, ℕ, ◌*◌, ◌∙◌, [], length, sym, ap, subst, arith}
use Rattle.node_looks.proofs.RowLaws.{rows_of, rows_small, rows_few}
use Rattle.node_looks.proofs.TrailLaws.{path_none}
use Rattle.row_pivots.specs.Tables.{AreRowsOf}
use Rattle.warm_rows.specs.Warming.{Warmth}
use Rattle.node_looks.proofs.trail.warm_bounds.Goals as goal

pub add_all-requires-clause-long : goal.add_all-requires-clause-long
add_all-requires-clause-long c =
    let job = c.args.job.now in
    let vars : c.in_ok-warm.warm.vars ≡ 2 * length job.objects = ap (λ (w : Warmth). w.vars) c.in_ok-warm.ensures ∙ ap (λ n. 2 * n) c.len.ensures in
    subst (λ (n : ℕ). AreRowsOf n c.args.rows.now) (sym vars) (rows_of job c.args.extent [] c.args.rows.now c.requires.rows c.requires.high (path_none job))

pub add_all-requires-clause-small : goal.add_all-requires-clause-small
add_all-requires-clause-small c = rows_small c.args.job.now c.args.extent [] c.args.rows.now c.requires.rows c.requires.high (path_none c.args.job.now)

pub add_all-requires-clause-count : goal.add_all-requires-clause-count
add_all-requires-clause-count c =
    let job = c.args.job.now in
    let vars : c.in_ok-warm.warm.vars ≡ 2 * length job.objects = ap (λ (w : Warmth). w.vars) c.in_ok-warm.ensures ∙ ap (λ n. 2 * n) c.len.ensures in
    omega (arith, rows_few job c.args.extent [] c.args.rows.now c.requires.rows (omega arith), vars)
