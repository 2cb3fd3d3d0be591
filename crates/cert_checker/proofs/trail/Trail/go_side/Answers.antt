use Rattle.std.proofs.Common.{◌≡◌, ◌++◌, ◌∷◌, [], length, arith, refl, ap, ◌∙◌}
use Rattle.cert_checker.proofs.Marks.{side_count-le}
use Rattle.cert_checker.proofs.Trails.{fit_side, rows_by_side}
use Rattle.cert_checker.proofs.trail.Trail.go_side.Goals as goal

pub put-requires-2 : goal.put-requires-2
put-requires-2 c =
    let few = side_count-le c.args.self.now.path.items in
    omega (arith, few, c.requires.fit.many_rows, c.requires.room.rows)

pub returns-clause-fit : goal.returns-clause-fit
returns-clause-fit c = λ contact dir e.
    (let many : c.len.result ≡ length c.args.self.now.rows.items = omega arith in
    fit_side c.args.self.now _ contact dir _ c.requires.fit (c.put-3.ensures.items ∙ ap (λ x. c.args.self.now.path.items ++ x ∷ []) e)
    (c.put.ensures.items ∙ ap (λ n. c.args.self.now.marks.items ++ n ∷ []) many) c.put-2.ensures.items refl)

pub returns-clause-rows : goal.returns-clause-rows
returns-clause-rows c = λ job contact dir e has is.
    rows_by_side job c.args.self.now.path.items _ c.args.self.now.rows.items _ _ contact dir _ c.put-3.ensures.items c.put-2.ensures.items e has is
