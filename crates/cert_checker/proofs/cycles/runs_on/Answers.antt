use Rattle.std.proofs.Common.{Contains, refl, sym, ◌∙◌}
use Rattle.seq_model.specs.declared.tree.Choice.TheVariants as Choices
use Rattle.cert_checker.proofs.Circles.{decides_all, decides_more, decides_no, decides_end}
use Rattle.cert_checker.proofs.cycles.runs_on.Goals as goal

pub loop-to-init : goal.loop-to-init
loop-to-init c = decides_all _ _ _

pub loop-to-preserved : goal.loop-to-preserved
loop-to-preserved c =
    decides_more (λ a b. Contains c.args.trail.now.path.items (Choices.Before a b)) _ _ _ _ 0 _ c.loop-to-test.true c.loop-to.invariant refl (c.is_before.ensures.0 c.if-not-is_before.false)

pub returns-then-not-is_before-clause-no : goal.returns-then-not-is_before-clause-no
returns-then-not-is_before-clause-no c = λ _. decides_no (λ a b. Contains c.args.trail.now.path.items (Choices.Before a b)) _ _ _ _ 0 _ c.loop-to-test.true c.loop-to.invariant refl
    (λ r. absurd (cc (sym c.if-not-is_before.true ∙ c.is_before.ensures.1 r)))

pub returns-clause-yes : goal.returns-clause-yes
returns-clause-yes c = λ e. (decides_end (λ a b. Contains c.args.trail.now.path.items (Choices.Before a b)) _ _ _ _ c.loop-to-test.false c.loop-to.invariant).there (c.is_before-2.ensures.0 e)

pub returns-clause-no : goal.returns-clause-no
returns-clause-no c = λ e k.
    absurd (cc (sym e ∙ c.is_before-2.ensures.1 ((decides_end (λ a b. Contains c.args.trail.now.path.items (Choices.Before a b)) _ _ _ _ c.loop-to-test.false c.loop-to.invariant).back k)))
