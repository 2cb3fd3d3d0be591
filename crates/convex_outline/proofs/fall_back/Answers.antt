use Rattle.std.proofs.Common.{◌-◌, arith, ◌∙◌, pos, ◌≤ℤ◌, ◌<ℤ◌}
use Rattle.std.specs.Prelude.{vec_len}
use Rattle.std.proofs.lemmas.List.Elements.{All-pop}
use Rattle.std.proofs.lemmas.Int.{ints}
use Rattle.outline_laws.specs.Corners.{turn, IsNarrow}
use Rattle.convex_outline.proofs.Reading.{falls, stays}
use Rattle.convex_outline.proofs.fall_back.Goals as goal

pub loop-chain-preserved : goal.loop-chain-preserved
loop-chain-preserved c =
    let p = c.args.to.now in
    let xs = c.loop-chain.chain.items in
    let e = c.turn_of.ensures in
    let b = c.if-turn_of-le0.true in
    let x = c.index.result.now in
    let y = c.index-in-loop-chain.result.now in
    let t : turn x y p ≤ℤ pos 0 = omega (arith, ints) in
    record {
      fallen = falls p x y xs c.pop.new.self.items (c.len-in-loop-chain.result - 2) (c.len-in-loop-chain-2.result - 1) (vec_len c.loop-chain.chain - 1) (omega arith) (omega arith) (omega arith) c.index.ensures c.index-in-loop-chain.ensures t c.pop.ensures.rest ∙ c.loop-chain.invariant.fallen;
      near = (All-pop IsNarrow xs c.pop.new.self.items c.pop.result c.pop.ensures.items c.loop-chain.invariant.near).0;
    }

pub returns-else-turn_of-le0-clause-fallen : goal.returns-else-turn_of-le0-clause-fallen
returns-else-turn_of-le0-clause-fallen c =
    let p = c.args.to.now in
    let xs = c.loop-chain.chain.items in
    let e = c.turn_of.ensures in
    let b = c.if-turn_of-le0.false in
    let x = c.index.result.now in
    let y = c.index-in-loop-chain.result.now in
    let t : pos 0 <ℤ turn x y p = omega (arith, ints) in
    stays p x y xs (c.len-in-loop-chain.result - 2) (c.len-in-loop-chain-2.result - 1) (omega arith) (omega arith) c.index.ensures c.index-in-loop-chain.ensures t ∙ c.loop-chain.invariant.fallen
