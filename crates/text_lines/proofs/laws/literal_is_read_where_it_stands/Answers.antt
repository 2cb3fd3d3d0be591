use Rattle.text_lines.specs.Laws.Reading.{literal_exact}
use Rattle.text_lines.proofs.laws.literal_is_read_where_it_stands.Goals as goal

pub returns : goal.returns
returns c = literal_exact
