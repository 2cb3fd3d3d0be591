-- Contacts that cover others.
--
--   Covers T S              along each side of T, S reaches no farther than T
--   IsCovered job kept c    one of the kept contacts, of the same two objects in the same order, covers the contact c by its difference
--   AreEnough job kept      each contact of the job is covered so
use Rattle.std.specs.Prelude.{◌≡◌, List, ◌≤ℤ◌}
use Rattle.integer_laws.specs.Members.{In}
use Rattle.seq_model.specs.Contacts.{points_of, IsContact}
use Rattle.seq_model.specs.Sides.{greatest_along, Side}
use Rattle.seq_model.specs.declared.job.Job.{Job}
use Rattle.seq_model.specs.declared.printer.Spot.{Spot}
use Rattle.seq_model.specs.declared.tree.Contact.{Contact}
use Rattle.seq_model.specs.declared.tree.Dir.{Dir}

abbrev pub Covers : List Spot → List Spot → Type 0
Covers T S = (dir : Dir) → Side T dir → greatest_along dir S ≤ℤ greatest_along dir T

pub record IsCovered (job : Job) (kept : List Contact) (c : Contact) : Type 0 where
  pub by : Contact
  pub member : In by kept
  pub is : IsContact job by
  pub earlier : by.i ≡ c.i
  pub later : by.j ≡ c.j
  pub covers : Covers (points_of job by) (points_of job c)

abbrev pub AreEnough : Job → List Contact → Type 0
AreEnough job kept = (c : Contact) → IsContact job c → IsCovered job kept c
