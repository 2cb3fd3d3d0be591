use Rattle.std.proofs.Common.{rules, refl, ◌≡◌, ◌<◌, length, get_or, pos, ap, sym, ◌∙◌, arith, SFits, w64, to_z-of_z, ℤ, ◌-ℤ◌, ◌*ℤ◌, int_div}
use Rattle.row_dictionary.proofs.Crossing.{one_crossed, all_crossed, all_narrow}
use Rattle.row_dictionary.proofs.Lowering.{by_one}
use Rattle.row_dictionary.proofs.narrow.cross_whole.Goals as goal

pub loop-i-preserved : goal.loop-i-preserved
loop-i-preserved c =
    let m = c.args.mix.now in
    let zs = c.args.line.now in
    let ys = c.args.by.now in
    let i = c.loop-i.i in
    let within : i < length zs = omega arith in
    let x = m.p *ℤ get_or c.loop-i.line i (pos 0) -ℤ m.q *ℤ get_or ys i (pos 0) in
    let whole : x ≡ int_div x m.g = sym (ap (λ (g : ℤ). int_div x g) c.requires.g ∙ by_one x) in
    let fits : SFits w64 c.narrow_crossed-x.result = search rules in
    let both = c.and_narrow-narrow.ensures in
    one_crossed m zs ys i c.loop-i.line c.loop-i.narrow _ _ _ _ c.requires.len within c.loop-i.invariant (to_z-of_z fits ∙ c.narrow_crossed-x.ensures.value ∙ whole) both.all both.one refl refl

pub returns-clause-is : goal.returns-clause-is
returns-clause-is c = all_crossed c.args.mix.now c.args.line.now c.args.by.now c.loop-i.i c.loop-i.line c.loop-i.narrow c.requires.len (omega arith) c.loop-i.invariant

pub returns-clause-narrow : goal.returns-clause-narrow
returns-clause-narrow c = all_narrow c.args.mix.now c.args.line.now c.args.by.now c.loop-i.i c.loop-i.line c.loop-i.narrow c.requires.len (omega arith) c.loop-i.invariant
