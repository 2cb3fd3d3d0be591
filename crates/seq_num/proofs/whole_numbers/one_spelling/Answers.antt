use Rattle.seq_num.proofs.Signs.{same_spelling}
use Rattle.seq_num.proofs.whole_numbers.one_spelling.Goals as goal

pub returns : goal.returns
returns c = same_spelling
