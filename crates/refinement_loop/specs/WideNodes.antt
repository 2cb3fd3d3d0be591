-- The first node whose walk was wide.
--
--   first_wide held node    the one that is held, or this one where none is
use Rattle.std.specs.Prelude.{Option, Some, None}
use Rattle.refinement_loop.specs.declared.wide_nodes.WideNode.{WideNode}

abbrev pub first_wide : Option WideNode → WideNode → Option WideNode
first_wide None node = Some node
first_wide (Some held) node = Some held
