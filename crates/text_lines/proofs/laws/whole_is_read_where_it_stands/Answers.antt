use Rattle.text_lines.specs.Laws.Reading.{whole_exact}
use Rattle.text_lines.proofs.laws.whole_is_read_where_it_stands.Goals as goal

pub returns : goal.returns
returns c = whole_exact
