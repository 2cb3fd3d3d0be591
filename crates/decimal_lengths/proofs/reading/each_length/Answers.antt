use Rattle.decimal_lengths.proofs.Computing.{each}
use Rattle.decimal_lengths.proofs.reading.each_length.Goals as goal

pub returns : goal.returns
returns c = each
