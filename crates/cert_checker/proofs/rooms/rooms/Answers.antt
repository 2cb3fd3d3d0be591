use Rattle.std.proofs.Common.{◌++◌, ◌∷◌, [], refl, ap, ◌∙◌, rules, FitsSigned}
use Rattle.std.proofs.lemmas.Int.{to_z-of_z}
use Rattle.cert_checker.proofs.RoomLaws.{object_near, small_height, no_rooms, rooms_more, rooms_all}
use Rattle.cert_checker.proofs.rooms.rooms.Goals as goal

pub room_along_x-requires-clause-low : goal.room_along_x-requires-clause-low
room_along_x-requires-clause-low c = (object_near c.args.job.now _ _ _ c.as_slice-object-items.ensures c.loop-object-test.true c.object-item.is).low

pub room_along_x-requires-clause-high : goal.room_along_x-requires-clause-high
room_along_x-requires-clause-high c = (object_near c.args.job.now _ _ _ c.as_slice-object-items.ensures c.loop-object-test.true c.object-item.is).high

pub room_along_y-requires-clause-height : goal.room_along_y-requires-clause-height
room_along_y-requires-clause-height c = small_height c.args.job.now c.args.extent _ c.requires.to_grid c.region-region.ensures

pub room_along_y-requires-clause-low : goal.room_along_y-requires-clause-low
room_along_y-requires-clause-low c = (object_near c.args.job.now _ _ _ c.as_slice-object-items.ensures c.loop-object-test.true c.object-item.is).low

pub room_along_y-requires-clause-high : goal.room_along_y-requires-clause-high
room_along_y-requires-clause-high c = (object_near c.args.job.now _ _ _ c.as_slice-object-items.ensures c.loop-object-test.true c.object-item.is).high

pub loop-object-init : goal.loop-object-init
loop-object-init c = no_rooms c.args.job.now c.args.extent c.args.job.now.objects c.new-rooms.result.items c.new-rooms.ensures.items

pub loop-object-preserved : goal.loop-object-preserved
loop-object-preserved c =
    let fits_x : FitsSigned mir.Syntax.w64 c.room_along_x.result = search rules in
    let fits_y : FitsSigned mir.Syntax.w64 c.room_along_y.result = search rules in
    rooms_more c.args.job.now c.args.extent c.as_slice-object-items.result.now c.args.job.now.objects _ c.object-item.result c.region-region.result _ _ _ _ _ c.as_slice-object-items.ensures c.loop-object-test.true c.object-item.is
    c.region-region.ensures c.loop-object.invariant c.room_along_x.ensures.value c.room_along_y.ensures.value c.room_along_x.ensures.size c.room_along_y.ensures.size
    (c.in_ok-push.ensures.items ∙ ap (λ z. c.loop-object.rooms.items ++ z ∷ []) (to_z-of_z mir.Syntax.w64 c.room_along_x.result fits_x))
    (c.in_ok-push-2.ensures.items ∙ ap (λ z. c.push.new.self.items ++ z ∷ []) (to_z-of_z mir.Syntax.w64 c.room_along_y.result fits_y))

pub returns-clause-value : goal.returns-clause-value
returns-clause-value c = rooms_all c.args.job.now c.args.extent c.as_slice-object-items.result.now c.args.job.now.objects _ _ c.as_slice-object-items.ensures refl c.loop-object-test.false c.loop-object.invariant

pub returns-clause-short : goal.returns-clause-short
returns-clause-short c = c.loop-object.invariant.short
