use Rattle.std.proofs.Common.{◌≡◌, ◌++◌, drop}
use Rattle.slice_text.specs.SlicesText.{zones_text}
use Rattle.slice_text.proofs.writing.put_zones.Given as goal

abbrev pub invariant-loop-zone : goal.invariant-loop-zone
invariant-loop-zone l = l.to.items ++ zones_text (drop l.zone-index l.zones) ≡ l.initial.to.items ++ zones_text l.zones
