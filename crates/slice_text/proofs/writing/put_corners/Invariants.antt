use Rattle.std.proofs.Common.{◌≡◌, ◌++◌, drop}
use Rattle.slice_text.specs.SlicesText.{corners_text}
use Rattle.slice_text.proofs.writing.put_corners.Given as goal

abbrev pub invariant-loop-corner : goal.invariant-loop-corner
invariant-loop-corner l = l.to.items ++ corners_text (drop l.corner-index l.corners) ≡ l.initial.to.items ++ corners_text l.corners
