use Rattle.std.proofs.Common.{◌≡◌, All, drop, []}
use Rattle.std.specs.Prelude.{reverse}
use Rattle.outline_laws.specs.Corners.{IsNarrow}
use Rattle.outline_laws.specs.Chains.{grown}
use Rattle.convex_outline.proofs.chain_of.Given as goal

abbrev pub invariant-loop-spot : goal.invariant-loop-spot
invariant-loop-spot l = record {
  grown : grown (reverse l.chain.items) (drop l.spot-index l.spots) ≡ grown [] l.spots;
  near : All IsNarrow l.chain.items;
}
