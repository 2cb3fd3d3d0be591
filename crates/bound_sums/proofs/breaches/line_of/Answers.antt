use Rattle.std.proofs.Common.{◌≡◌, ◌+◌, ◌-◌, pos, length, get_or, refl, sym, subst, arith, rules, FitsSigned}
use Rattle.std.proofs.lemmas.Int.{to_z-of_z}
use Rattle.bound_sums.proofs.RowLaws.{room_line, side_line, no_line}
use Rattle.bound_sums.specs.Bounding.{IsLine}
use Rattle.bound_sums.specs.Sparse.{rows_of}
use Rattle.bound_sums.specs.declared.rows.Line.TheVariants as Lines
use Rattle.bound_sums.proofs.breaches.line_of.Goals as goal

pub returns-then-row-rooms : goal.returns-then-row-rooms
returns-then-row-rooms c =
    let room = get_or c.args.rooms.now c.args.mult.now.row (pos 0) in
    let fits : FitsSigned mir.Syntax.w64 room = search rules in
    subst (λ z. IsLine (rows_of c.args.rooms.now c.args.sides.now) (length c.args.rooms.now) c.args.mult.now.row (Lines.Bound c.args.mult.now.row z)) (sym (to_z-of_z mir.Syntax.w64 room fits))
    (room_line c.args.rooms.now c.args.sides.now c.args.mult.now.row (pos 0) c.requires.rooms c.if-row-rooms.true)

pub returns-then-at-sides : goal.returns-then-at-sides
returns-then-at-sides c =
    let at : c.args.mult.now.row ≡ length c.args.rooms.now + (c.args.mult.now.row - length c.args.rooms.now) = omega (arith, c.if-row-rooms.false) in
    side_line c.args.rooms.now c.args.sides.now c.args.mult.now.row (c.args.mult.now.row - length c.args.rooms.now) _ _ c.requires.sides at c.if-at-sides.true refl

pub returns : goal.returns
returns c =
    let at : c.args.mult.now.row ≡ length c.args.rooms.now + (c.args.mult.now.row - length c.args.rooms.now) = omega (arith, c.if-row-rooms.false) in
    no_line c.args.rooms.now c.args.sides.now c.args.mult.now.row (c.args.mult.now.row - length c.args.rooms.now) at c.if-at-sides.false
