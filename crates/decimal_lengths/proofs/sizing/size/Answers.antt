use Rattle.std.proofs.Common.{refl}
use Rattle.decimal_lengths.proofs.SizeLaws.{raised_size, lowered_size}
use Rattle.decimal_lengths.proofs.sizing.size.Goals as goal

pub returns-then-up-down : goal.returns-then-up-down
returns-then-up-down c = λ x keeps. raised_size _ _ _ x _ c.requires c.shift-up.ensures keeps c.if-up-down.true c.raised.ensures

pub returns-else-up-down : goal.returns-else-up-down
returns-else-up-down c = λ x keeps. lowered_size _ _ _ _ x _ c.requires c.shift-up.ensures keeps c.if-up-down.false refl c.lowered.ensures
