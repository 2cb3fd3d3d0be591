use Rattle.feasible_point.specs.Laws.Walking.{steps_of}
use Rattle.warm_rows.specs.Walking.{OnWalk}
use Rattle.warm_rows.specs.Warming.{rows_of}
use Rattle.warm_rows.proofs.walking.walk.Given as goal

abbrev pub invariant-loop-dictionary : goal.invariant-loop-dictionary
invariant-loop-dictionary l = OnWalk l.initial.steps.items l.initial.dictionary l.steps.items l.dictionary

abbrev pub decreases-loop-dictionary : goal.decreases-loop-dictionary
decreases-loop-dictionary l = steps_of (rows_of l.initial.steps.items) l.dictionary
