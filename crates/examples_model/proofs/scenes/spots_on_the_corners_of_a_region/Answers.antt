use Rattle.examples_model.proofs.SceneLaws.{low_in, west_out, south_out, high_in, east_out, north_out}
use Rattle.examples_model.proofs.scenes.spots_on_the_corners_of_a_region.Goals as goal

pub returns-clause-low : goal.returns-clause-low
returns-clause-low c = low_in

pub returns-clause-west : goal.returns-clause-west
returns-clause-west c = west_out

pub returns-clause-south : goal.returns-clause-south
returns-clause-south c = south_out

pub returns-clause-high : goal.returns-clause-high
returns-clause-high c = high_in

pub returns-clause-east : goal.returns-clause-east
returns-clause-east c = east_out

pub returns-clause-north : goal.returns-clause-north
returns-clause-north c = north_out
