use Rattle.seq_num.specs.Laws.Digits.{decimal_digits}
use Rattle.seq_num.proofs.whole_numbers.spelling_digits.Goals as goal

pub returns-clause-digits : goal.returns-clause-digits
returns-clause-digits c = decimal_digits
