-- Sides that are kept for the next time.
--
--   contact_cmp            the order of contacts, by which they are looked up
--   kept_sides kept c      the sides that are kept of a contact; none where it wasn't asked for
--   AreKeptSides job kept  what is kept of a contact are its sides, in order
use Rattle.std.specs.Prelude.{List, Option}
use Rattle.std.specs.Option.{IfSome}
use Rattle.std.specs.declared.cmp.Ordering.{Ordering}
use Rattle.std.specs.BTreeMap as tree
use Rattle.seq_model.specs.Contacts.{points_of}
use Rattle.seq_model.specs.Sides.{AreSides}
use Rattle.seq_model.specs.contracts.tree.ContactOrd.TheImpl as contact_ord
use Rattle.seq_model.specs.declared.job.Job.{Job}
use Rattle.seq_model.specs.declared.tree.Contact.{Contact}
use Rattle.seq_model.specs.declared.tree.Dir.{Dir}
use Rattle.pair_constraints.specs.declared.sides.KeptSides.{KeptSides}

abbrev pub contact_cmp : Contact → Contact → Ordering
contact_cmp = (contact_ord.ghosts).cmp

abbrev pub kept_sides : KeptSides → Contact → Option (List Dir)
kept_sides kept c = tree.get contact_cmp kept.known c

abbrev pub AreKeptSides : Job → KeptSides → Type 0
AreKeptSides job kept = (c : Contact) → IfSome (kept_sides kept c) (AreSides (points_of job c))
