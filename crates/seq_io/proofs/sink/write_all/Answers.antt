use Rattle.std.proofs.Common.{arith, rules}
use Rattle.std.proofs.lemmas.List.{take_rest}
use Rattle.seq_io.proofs.Pieces.{grew_more}
use Rattle.seq_io.proofs.sink.write_all.Goals as goal

pub loop-at-preserved : goal.loop-at-preserved
loop-at-preserved g c =
    record {
      within = omega (arith, c.in-Ok.ensures.most);
      taken = grew_more _ _ _ c.args.bytes.now c.loop-at.at c.in-Ok.count c.loop-at.invariant.taken (simp take_rest at c.in-Ok.ensures.taken);
      count = search rules;
    }
