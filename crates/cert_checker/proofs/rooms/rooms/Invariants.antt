use Rattle.cert_checker.proofs.RoomLaws.{Making}
use Rattle.cert_checker.proofs.rooms.rooms.Given as goal

abbrev pub invariant-loop-object : goal.invariant-loop-object
invariant-loop-object l = Making l.job l.extent l.job.objects l.object-index l.rooms.items
