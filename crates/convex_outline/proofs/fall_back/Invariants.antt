use Rattle.std.proofs.Common.{◌≡◌, length, All}
use Rattle.std.specs.Prelude.{reverse}
use Rattle.outline_laws.specs.Corners.{IsNarrow}
use Rattle.outline_laws.specs.Chains.{fallen}
use Rattle.convex_outline.proofs.fall_back.Given as goal

abbrev pub invariant-loop-chain : goal.invariant-loop-chain
invariant-loop-chain l = record {
  fallen : fallen l.to (reverse l.chain.items) ≡ fallen l.to (reverse l.initial.chain.items);
  near : All IsNarrow l.chain.items;
}

abbrev pub decreases-loop-chain : goal.decreases-loop-chain
decreases-loop-chain l = length l.chain.items
