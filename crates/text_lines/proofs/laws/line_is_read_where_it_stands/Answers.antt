use Rattle.text_lines.specs.Laws.Lines.{number_line_exact}
use Rattle.text_lines.proofs.laws.line_is_read_where_it_stands.Goals as goal

pub returns : goal.returns
returns c = number_line_exact
