use Rattle.text_lines.specs.Laws.Reading.{literal_one, whole_one}
use Rattle.text_lines.specs.Laws.Lines.{number_line_one}
use Rattle.text_lines.proofs.laws.one_reading.Goals as goal

pub returns : goal.returns
returns c = record { literal = literal_one; whole = whole_one; line = number_line_one }
