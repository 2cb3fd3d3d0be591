use Rattle.std.proofs.Common.{rules, w64, ◌<◌, ◌^◌, ◌+◌, length, pos, sym, subst, arith, SFits, to_z, to_z-of_z, unsigned_abs, take}
use Rattle.row_dictionary.specs.Mixing.{mixed_numbers, IsCommon}
use Rattle.row_dictionary.proofs.Keeping.{multiples_common}
use Rattle.row_dictionary.proofs.Numbers.{number_is, long_numbers, common_none, common_more, common_settled, common_all}
use Rattle.row_dictionary.proofs.narrow.narrow_divisor.Goals as goal

pub loop-i-init : goal.loop-i-init
loop-i-init c =
    let fits : SFits w64 c.args.start.now = search rules in
    subst (λ t. IsCommon c.args.start.now (take 0 (mixed_numbers c.args.mix.now c.args.line.now c.args.by.now)) t × (unsigned_abs t < 2 ^ 63)) (sym (to_z-of_z fits))
    (common_none c.args.start.now (mixed_numbers c.args.mix.now c.args.line.now c.args.by.now), c.requires.start)

pub returns-then-is_settled-clause-divisors : goal.returns-then-is_settled-clause-divisors
returns-then-is_settled-clause-divisors c =
    let m = c.args.mix.now in
    let t = c.if-is_settled.true in
    common_settled c.args.start.now (mixed_numbers m c.args.line.now c.args.by.now) c.loop-i.i (to_z w64 c.loop-i.found-bits) c.loop-i.invariant.0
    (multiples_common m c.args.line.now c.args.by.now (to_z w64 c.loop-i.found-bits) c.requires.len (c.is_settled.ensures.q t) (c.is_settled.ensures.p t))

pub loop-i-preserved : goal.loop-i-preserved
loop-i-preserved c =
    let m = c.args.mix.now in
    let zs = c.args.line.now in
    let ys = c.args.by.now in
    let i = c.loop-i.i in
    let long = long_numbers m zs ys c.requires.len in
    let within : i < length zs = omega arith in
    let fits : SFits w64 c.narrow_divisor_with-found.result = search rules in
    subst (λ t. IsCommon c.args.start.now (take (i + 1) (mixed_numbers m zs ys)) t × (unsigned_abs t < 2 ^ 63)) (sym (to_z-of_z fits))
    (common_more c.args.start.now (mixed_numbers m zs ys) i (to_z w64 c.loop-i.found-bits) _ c.narrow_divisor_with-found.result (omega (arith, long, within)) c.loop-i.invariant.0 (number_is m zs ys i (pos 0) c.requires.len within) c.narrow_divisor_with-found.ensures.is, c.narrow_divisor_with-found.ensures.size)

pub returns-clause-divisors : goal.returns-clause-divisors
returns-clause-divisors c =
    let long = long_numbers c.args.mix.now c.args.line.now c.args.by.now c.requires.len in
    common_all c.args.start.now (mixed_numbers c.args.mix.now c.args.line.now c.args.by.now) c.loop-i.i (to_z w64 c.loop-i.found-bits) (omega (arith, long)) c.loop-i.invariant.0
