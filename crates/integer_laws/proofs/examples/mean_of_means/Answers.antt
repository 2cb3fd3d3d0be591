use Rattle.integer_laws.proofs.ExampleLaws.{mean_of_means}
use Rattle.integer_laws.proofs.examples.mean_of_means.Goals as goal

pub returns : goal.returns
returns c = mean_of_means
