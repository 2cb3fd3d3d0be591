use Rattle.std.proofs.Common.{rules, ℤ, sym, subst, SFits, to_z-of_z}
use Rattle.std.specs.Int.{w128}
use Rattle.row_dictionary.specs.Mixing.{IsCommon}
use Rattle.row_dictionary.specs.Tables.{step_numbers}
use Rattle.row_dictionary.proofs.table.counted_divisor.Goals as goal

pub returns-clause-variable : goal.returns-clause-variable
returns-clause-variable c =
    let fits : SFits w128 c.line_divisor.result = search rules in
    λ h. subst (λ (g : ℤ). IsCommon c.args.found.now (step_numbers c.args.step.now c.args.by.now c.args.line.now) g) (sym (to_z-of_z fits)) c.line_divisor.ensures.divisors
