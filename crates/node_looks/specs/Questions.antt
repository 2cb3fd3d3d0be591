-- What a look is asked, and what it answers.
--
--   system_of q         the system of the path
--   IsQuestion q        an extent of the grid, a path of at most 1,000,000 choices, and the maximal contacts of the job
--   IsAnswer q look     what a look at the path answers
--   IsZeroQuestion q    the empty path, where some order makes the zero point a valid plan
--   IsZeroAnswer q look such a plan is answered
use Rattle.std.specs.Prelude.{◌≡◌, ◌≤◌, List, [], length}
use Rattle.node_looks.specs.Looks.{HasZeroPlan, IsLook, IsZeroLook}
use Rattle.node_looks.specs.declared.looking.Question.{Question}
use Rattle.node_looks.specs.declared.looks.Look.{Look}
use Rattle.pair_constraints.specs.Maximal.{AreContacts}
use Rattle.seq_model.specs.Systems.{system}
use Rattle.seq_model.specs.Trees.{IsPath}
use Rattle.seq_model.specs.declared.row.Row.{Row}
use Rattle.seq_limits.specs.declared.TheConstants.{MOST_NODES}

abbrev pub system_of : Question → List Row
system_of q = system q.job.now q.extent q.path.now

pub record IsQuestion (q : Question) : Type 0 where
  pub from_one : 1 ≤ q.extent
  pub to_grid : q.extent ≤ q.job.now.printer.grid
  pub is_path : IsPath q.job.now q.path.now
  pub short : length q.path.now ≤ MOST_NODES
  pub are : AreContacts q.job.now q.contacts.now

abbrev pub IsAnswer : Question → Look → Type 0
IsAnswer q look = IsLook q.job.now q.extent q.path.now look

abbrev pub IsZeroQuestion : Question → Type 0
IsZeroQuestion q = (q.path.now ≡ []) × HasZeroPlan q.job.now q.extent

abbrev pub IsZeroAnswer : Question → Look → Type 0
IsZeroAnswer q look = IsZeroLook q.job.now q.extent look
