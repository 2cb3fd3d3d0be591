use Rattle.std.proofs.Common.{rules, ◌<◌, length, get_or, pos, ◌∙◌, arith, SFits, w64, to_z-of_z}
use Rattle.row_dictionary.proofs.Crossing.{one_crossed, one_left, all_crossed, all_narrow, kept_crossing}
use Rattle.row_dictionary.proofs.narrow.cross_kept.Goals as goal
use Rattle.row_dictionary.proofs.narrow.cross_kept.Goals.{then-not-is_zero, else-not-is_zero}

pub loop-i-preserved : goal.loop-i-preserved
loop-i-preserved c =
    let m = c.args.mix.now in
    let zs = c.args.line.now in
    let ys = c.args.by.now in
    let i = c.loop-i.i in
    let within : i < length zs = omega arith in
    elim c.if-not-is_zero.branch [
      | then-not-is_zero w ↦
          let fits : SFits w64 w.new_crossed-x.result = search rules in
          let both = w.and_narrow-narrow.ensures in
          one_crossed m zs ys i c.loop-i.line c.loop-i.narrow _ _ _ _ c.requires.len within c.loop-i.invariant (to_z-of_z fits ∙ w.new_crossed-x.ensures) both.all both.one w.line-is w.narrow-is
      | else-not-is_zero w ↦
          let k = c.is_zero.ensures w.if-not-is_zero.false in
          one_left m zs ys i c.loop-i.line c.loop-i.narrow _ _ c.requires.len within c.loop-i.invariant c.requires.line (kept_crossing m.p m.q m.g (get_or c.loop-i.line i (pos 0)) (get_or ys i (pos 0)) k c.requires.kept c.requires.some) w.line-is w.narrow-is
    ]

pub returns-clause-is : goal.returns-clause-is
returns-clause-is c = all_crossed c.args.mix.now c.args.line.now c.args.by.now c.loop-i.i c.loop-i.line c.loop-i.narrow c.requires.len (omega arith) c.loop-i.invariant

pub returns-clause-narrow : goal.returns-clause-narrow
returns-clause-narrow c = all_narrow c.args.mix.now c.args.line.now c.args.by.now c.loop-i.i c.loop-i.line c.loop-i.narrow c.requires.len (omega arith) c.loop-i.invariant
