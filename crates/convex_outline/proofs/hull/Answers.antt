use Rattle.std.proofs.Common.{◌<◌, ◌≤◌, length, sym, subst, arith}
use Rattle.outline_laws.specs.Laws.Area.{three_of_area}
use Rattle.outline_laws.specs.Hulls.{Hull}
use Rattle.outline_laws.specs.Laws.Within.{ends_of_line}
use Rattle.convex_outline.proofs.Nearness.{near_hull, alone_hull, members_of_hull, within_hull, inner_hull, narrow_hull}
use Rattle.convex_outline.proofs.hull.Goals as goal

pub returns-then-len-lt2 : goal.returns-then-len-lt2
returns-then-len-lt2 c =
    let S = c.args.spots.now in
    let v = c.in_ok-sorted.sorted.items in
    let short : length v < 2 = omega arith in
    let h = alone_hull S v c.in_ok-sorted.ensures.members short in
    record { corners = h.corners; near = narrow_hull S v h c.requires; members = members_of_hull S v h; within = within_hull S v h; inner = inner_hull S v h; area = three_of_area S v h; ends = ends_of_line S v h }

pub returns : goal.returns
returns c =
    let S = c.args.spots.now in
    let v = c.in_ok-sorted.sorted.items in
    let long : 2 ≤ length v = omega arith in
    let h = subst (Hull S) (sym c.in_ok-corners_of.ensures) (near_hull S v c.in_ok-sorted.ensures.members c.in_ok-sorted.ensures.near c.in_ok-sorted.ensures.rising long) in
    let C = c.in_ok-corners_of.field-0.items in
    record { corners = h.corners; near = narrow_hull S C h c.requires; members = members_of_hull S C h; within = within_hull S C h; inner = inner_hull S C h; area = three_of_area S C h; ends = ends_of_line S C h }
