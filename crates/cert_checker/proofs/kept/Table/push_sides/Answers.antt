use Rattle.std.proofs.Common.{refl, sym, append-nil}
use Rattle.cert_checker.proofs.Tables.{sides_more, sides_all}
use Rattle.cert_checker.proofs.kept.Table.push_sides.Goals as goal

pub loop-dir-init : goal.loop-dir-init
loop-dir-init c = record { choices = sym (append-nil _); rows = λ h. h }

pub loop-dir-preserved : goal.loop-dir-preserved
loop-dir-preserved c = record {
  choices = sides_more _ _ _ _ _ _ _ _ c.loop-dir-test.true c.loop-dir.invariant.choices refl c.in_ok-push.ensures.choices;
  rows = λ h. c.in_ok-push.ensures.rows _ (c.loop-dir.invariant.rows h) c.row_of-row.ensures;
}

pub returns-clause-choices : goal.returns-clause-choices
returns-clause-choices c = sides_all _ _ _ _ _ c.loop-dir-test.false c.loop-dir.invariant.choices

pub returns-clause-rows : goal.returns-clause-rows
returns-clause-rows c = c.loop-dir.invariant.rows
