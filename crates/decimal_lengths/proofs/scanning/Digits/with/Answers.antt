use Rattle.decimal_lengths.proofs.Gathering.{keeps_next, drops_next}
use Rattle.decimal_lengths.proofs.scanning.Digits.with.Goals as goal

pub returns-then-self-lt-ROOM-clause-keeps : goal.returns-then-self-lt-ROOM-clause-keeps
returns-then-self-lt-ROOM-clause-keeps c =
    λ n k. rw c.from.ensures (keeps_next _ _ n _ c.requires.digit c.if-self-lt-ROOM.true k)

pub returns-else-self-lt-ROOM-clause-keeps : goal.returns-else-self-lt-ROOM-clause-keeps
returns-else-self-lt-ROOM-clause-keeps c = λ n k. drops_next _ _ n _ c.requires.digit c.if-self-lt-ROOM.false k
