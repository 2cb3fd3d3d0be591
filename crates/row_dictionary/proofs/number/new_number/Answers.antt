use Rattle.std.proofs.Common.{rules, ◌∙◌, sym, SFits, w64, to_z-of_z}
use Rattle.row_dictionary.proofs.Keeping.{kept_number}
use Rattle.row_dictionary.proofs.number.new_number.Goals as goal

pub returns-then-is_kept : goal.returns-then-is_kept
returns-then-is_kept c =
    let k = c.is_kept.ensures c.if-is_kept.true in
    let fits : SFits w64 c.args.z.now = search rules in
    to_z-of_z fits ∙ sym (kept_number c.args.mix.now c.args.i c.args.z.now c.args.y.now k.0 k.1 k.2 c.requires.g)
