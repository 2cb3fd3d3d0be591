use Rattle.std.proofs.Common.{◌≡◌, ◌++◌, drop, All, None}
use Rattle.outline_laws.specs.Directions.{IsShort}
use Rattle.outline_laws.specs.Laws.InOrder.{walk}
use Rattle.outline_edges.proofs.angles.each_once.Given as goal

abbrev pub invariant-loop-dir : goal.invariant-loop-dir
invariant-loop-dir l = record {
  walk : l.reduced.items ++ walk l.last (drop l.dir-index l.dirs) ≡ walk None l.dirs;
  short : All IsShort l.reduced.items;
}
