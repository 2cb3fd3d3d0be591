use Rattle.cert_checker.proofs.Stamps.{stamp_over, stamp_decides}
use Rattle.cert_checker.proofs.trail.is_stamped.Goals as goal

pub returns-then-place-path : goal.returns-then-place-path
returns-then-place-path c =
    (λ h. absurd cc, λ n. absurd (stamp_over _ _ _ _ _ c.requires.i c.requires.j c.requires.stamped c.stamp_of-place.ensures c.if-place-path.true n))

pub returns : goal.returns
returns c = stamp_decides _ _ _ _ _ _ _ c.requires.i c.requires.j c.requires.stamped c.stamp_of-place.ensures c.if-place-path.false c.is_order.ensures
