use Rattle.std.proofs.Common.{◌+◌, ◌^◌, arith, refl, rules, FitsSigned}
use Rattle.bound_sums.proofs.Settled.{settled}
use Rattle.bound_sums.proofs.Sums.{sides_added}
use Rattle.bound_sums.proofs.rows.add_push.Goals as goal

pub add_at-requires-3-clause-room : goal.add_at-requires-3-clause-room
add_at-requires-3-clause-room c = λ k d h.
    (let room = c.add_at-2.ensures.size (2 ^ 99 + 2 ^ 84) (c.add_at.ensures.size (2 ^ 99) c.requires.room) k d h in
    omega (arith, room))

pub add_at-requires-4-clause-room : goal.add_at-requires-4-clause-room
add_at-requires-4-clause-room c = λ k d h.
    (let room = c.add_at-3.ensures.size (2 ^ 99 + 2 ^ 84 + 2 ^ 84) (c.add_at-2.ensures.size (2 ^ 99 + 2 ^ 84) (c.add_at.ensures.size (2 ^ 99) c.requires.room)) k d h in
    omega (arith, room))

pub returns-clause-added : goal.returns-clause-added
returns-clause-added c =
    let fits_a : FitsSigned mir.Syntax.w128 c.back_x.result = search rules in
    let fits_b : FitsSigned mir.Syntax.w128 c.back_y.result = search rules in
    let fits_c : FitsSigned mir.Syntax.w128 c.along_x.result = search rules in
    let fits_d : FitsSigned mir.Syntax.w128 c.along_y.result = search rules in
    sides_added _ _ _ _ _ _ _ _ _ _ _ _ _ _ _ refl c.requires.line.i_in c.requires.line.j_in c.requires.line.apart c.back_x.ensures.value c.back_y.ensures.value c.along_x.ensures.value c.along_y.ensures.value
    (settled _ _ _ _ c.add_at.ensures.value fits_a) (settled _ _ _ _ c.add_at-2.ensures.value fits_b) (settled _ _ _ _ c.add_at-3.ensures.value fits_c) (settled _ _ _ _ c.add_at-4.ensures.value fits_d)

pub returns-clause-size : goal.returns-clause-size
returns-clause-size c = λ b all k d h.
    (let size = c.add_at-4.ensures.size (b + 2 ^ 84 + 2 ^ 84 + 2 ^ 84) (c.add_at-3.ensures.size (b + 2 ^ 84 + 2 ^ 84) (c.add_at-2.ensures.size (b + 2 ^ 84) (c.add_at.ensures.size b all))) k d h in
    omega (arith, size))
