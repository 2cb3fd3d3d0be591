use Rattle.std.proofs.Common.{◌≡◌, sym, ap, ◌∙◌, subst}
use Rattle.row_dictionary.specs.Mixing.{DividesExactly}
use Rattle.row_dictionary.specs.Tables.{mix_of}
use Rattle.row_dictionary.specs.declared.number.Mix.{Mix}
use Rattle.row_dictionary.proofs.Skipping.{skipped}
use Rattle.row_dictionary.proofs.line.Line.pivot.Goals as goal

pub returns-then-only_scales : goal.returns-then-only_scales
returns-then-only_scales c =
    let zs : c.as_slice.result.now ≡ c.args.self.now = c.as_slice.ensures.value ∙ c.self.view_is in
    let m : c.mix_of-mix.result ≡ mix_of c.args.step.now c.args.self.now = c.mix_of-mix.ensures ∙ ap (mix_of c.args.step.now) zs in
    let both = c.only_scales.ensures c.if-only_scales.true in
    skipped c.args.step.now c.args.by.now c.args.self.now c.requires.line.0 (sym (ap (λ (m : Mix). m.q) m) ∙ both.0) (sym (ap (λ (m : Mix). m.p) m) ∙ both.1 ∙ ap (λ (m : Mix). m.g) m) c.requires.g

pub pivot_one-self-inside-requires-clause-whole : goal.pivot_one-self-inside-requires-clause-whole
pivot_one-self-inside-requires-clause-whole c = λ x e. subst (λ (m : Mix). DividesExactly m.p m.g x) (sym c.mix_of-mix.ensures) (c.requires.whole x e)
