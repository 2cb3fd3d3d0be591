use Rattle.std.proofs.Common.{refl, sym, subst, ◌∙◌}
use Rattle.cert_checker.specs.Trails.{IsStamped}
use Rattle.cert_checker.proofs.Stamps.{far_stamps_i, far_stamps_j, known_stamps, new_stamp}
use Rattle.cert_checker.proofs.trail.stamp.Goals as goal

pub returns-then-i-ge16-clause-stamped : goal.returns-then-i-ge16-clause-stamped
returns-then-i-ge16-clause-stamped c = far_stamps_i _ _ _ _ c.if-i-ge16.true c.requires.stamped

pub returns-then-j-ge16-clause-stamped : goal.returns-then-j-ge16-clause-stamped
returns-then-j-ge16-clause-stamped c = far_stamps_j _ _ _ _ c.if-j-ge16.true c.requires.stamped

pub returns-then-not-is_stamped-clause-stamped : goal.returns-then-not-is_stamped-clause-stamped
returns-then-not-is_stamped-clause-stamped c =
    new_stamp _ _ _ _ _ c.if-i-ge16.false c.if-j-ge16.false c.requires.many c.requires.stamped (λ n. absurd (cc (sym c.if-not-is_stamped.true ∙ c.is_stamped.ensures.1 n))) refl

pub returns-else-not-is_stamped-clause-stamped : goal.returns-else-not-is_stamped-clause-stamped
returns-else-not-is_stamped-clause-stamped c = known_stamps _ _ _ _ (c.is_stamped.ensures.0 c.if-not-is_stamped.false) c.requires.stamped

pub is_stamped-requires-clause-stamped : goal.is_stamped-requires-clause-stamped
is_stamped-requires-clause-stamped c = subst (IsStamped c.args.path.now) (sym c.as_slice.ensures.value) c.requires.stamped
