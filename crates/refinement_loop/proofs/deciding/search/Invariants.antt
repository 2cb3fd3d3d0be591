use Rattle.refinement_loop.proofs.Steps.{Deciding, left_over}
use Rattle.refinement_loop.proofs.deciding.search.Given as goal

abbrev pub invariant-loop-wide : goal.invariant-loop-wide
invariant-loop-wide g l = (Deciding l.job l.extent l.budget l.tree.made l.agenda.open_nodes l.wide) × g.L.Looks.IsFor l.looks l.job

abbrev pub decreases-loop-wide : goal.decreases-loop-wide
decreases-loop-wide g l = left_over l.budget l.tree.made l.agenda.open_nodes
