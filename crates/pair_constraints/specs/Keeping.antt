-- Contacts with what their tests need.
--
--   IsSmallSpot s       coordinates below 2^22 in size
--   FitsReach r         values below 2^46 in size
--   IsReach S r         the greatest values of the list along the four ways of the axes, and they fit
--   shift_at job c      the low corner of the contact's earlier object less that of its later one
--   IsKept job k        a contact of the job with its sides in order, their greatest values, its reach and its shift
use Rattle.std.specs.Prelude.{◌≡◌, ◌<◌, ◌^◌, List, pos, neg_ℤ, unsigned_abs, All}
use Rattle.seq_model.specs.Contacts.{IsContact, less, points_of}
use Rattle.seq_model.specs.Jobs.{object_at}
use Rattle.seq_model.specs.Sides.{greatest_along}
use Rattle.seq_model.specs.declared.job.Job.{Job}
use Rattle.seq_model.specs.declared.printer.Spot.{Spot}
use Rattle.seq_model.specs.declared.tree.Contact.{Contact}
use Rattle.pair_constraints.specs.Limits.{AreLimits, IsFit}
use Rattle.pair_constraints.specs.declared.kept.Kept.{Kept}
use Rattle.pair_constraints.specs.declared.kept.Reach.{Reach}

abbrev pub IsSmallSpot : Spot → Type 0
IsSmallSpot s = (unsigned_abs s.x < 2 ^ 22) × (unsigned_abs s.y < 2 ^ 22)

pub record FitsReach (r : Reach) : Type 0 where
  pub east : unsigned_abs r.east < 2 ^ 46
  pub north : unsigned_abs r.north < 2 ^ 46
  pub west : unsigned_abs r.west < 2 ^ 46
  pub south : unsigned_abs r.south < 2 ^ 46

pub record IsReach (S : List Spot) (r : Reach) : Type 0 where
  pub east : r.east ≡ greatest_along (record { x = pos 1; y = pos 0 }) S
  pub north : r.north ≡ greatest_along (record { x = pos 0; y = pos 1 }) S
  pub west : r.west ≡ greatest_along (record { x = neg_ℤ (pos 1); y = pos 0 }) S
  pub south : r.south ≡ greatest_along (record { x = pos 0; y = neg_ℤ (pos 1) }) S
  pub fits : FitsReach r

abbrev pub shift_at : Job → Contact → Spot
shift_at job c = less (object_at job c.i).low (object_at job c.j).low

pub record IsKept (job : Job) (k : Kept) : Type 0 where
  pub is : IsContact job k.contact
  pub limits : AreLimits (points_of job k.contact) k.limits
  pub fit : All IsFit k.limits
  pub reach : IsReach (points_of job k.contact) k.reach
  pub shift : k.shift ≡ shift_at job k.contact
  pub near : IsSmallSpot k.shift
