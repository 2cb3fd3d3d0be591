-- The rows that a path adds to a system.
--
--   IsSideOf job choice    a side on a path is one of a contact of the job
use Rattle.seq_model.specs.Contacts.{IsContact, points_of}
use Rattle.seq_model.specs.Sides.{Side}
use Rattle.seq_model.specs.declared.job.Job.{Job}
use Rattle.seq_model.specs.declared.tree.Choice.{Choice}
use Rattle.seq_model.specs.declared.tree.Choice.TheVariants as Choices

abbrev pub IsSideOf : Job → Choice → Type 0
IsSideOf job (Choices.Before i j) = Unit {0}
IsSideOf job (Choices.Side contact dir) = IsContact job contact × Side (points_of job contact) dir
