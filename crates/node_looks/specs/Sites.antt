-- Where a look stands.
--
--   values s            the point, as the definitions of splits have it
--   IsSite s            an extent of the grid, the orders of the path in its table, the job's maximal contacts, and a point of the
--                       path's system
--   HoldsUpTo s i j g   a graph of the objects holds the path's orders that come before (i, j), and no others
--   HoldsAll s g        it holds all of them
--   Hits s i j          object i, as the earlier one, collides with j at the point
--   ContactHits s c     the contact collides at the point
--   MaySplit s node     the node may stand at the path, and is earned there
--   EarnsPairAt s a b   so may that by the order of a and b
--   IsOnOrEarnedAt s a b   that, or a before b is on the path
--   place_of_site s o   where an object stands at the point
--   plan_of_site s os   the plan at the point in an order of the objects
--   IsLookAt s look     what a look at the path answers
--   IsZeroSite s        the empty path and the zero point, where some order makes that a valid plan
--   IsZeroLookAt s look  such a plan is answered
use Rattle.std.specs.Prelude.{◌≡◌, ℕ, ◌*◌, ◌≤◌, List, [], length}
use Rattle.node_looks.specs.Held.{HoldsOrders, IsTable}
use Rattle.node_looks.specs.Looks.{HasZeroPlan, IsLook, IsZeroLook, zero_point}
use Rattle.node_looks.specs.declared.looks.Look.{Look}
use Rattle.node_looks.specs.declared.site.Site.{Site}
use Rattle.object_orders.specs.Orders.{Graph}
use Rattle.pair_constraints.specs.Maximal.{AreContacts}
use Rattle.pair_constraints.specs.SolvedPoints.{IsSolvedPoint, values_of}
use Rattle.plan_laws.specs.Inside.{place_at}
use Rattle.plan_laws.specs.Looking.{EarnsPair, IsOnOrEarned}
use Rattle.plan_laws.specs.Ordered.{plan_of}
use Rattle.seq_model.specs.Splits.{CollidesAt, ContactCollidesAt, Earned, IsOn, Values}
use Rattle.seq_model.specs.Trees.{IsSoundNode}
use Rattle.seq_model.specs.declared.plan.Place.{Place}
use Rattle.seq_model.specs.declared.plan.Plan.{Plan}
use Rattle.seq_model.specs.declared.tree.Contact.{Contact}
use Rattle.seq_model.specs.declared.tree.Node.{Node}

abbrev pub values : Site → Values
values s = values_of s.at

pub record IsSite (s : Site) : Type 0 where
  pub from_one : 1 ≤ s.extent
  pub to_grid : s.extent ≤ s.job.now.printer.grid
  pub table : IsTable s.path.now s.table.now
  pub contacts : AreContacts s.job.now s.contacts.now
  pub point : IsSolvedPoint s.at
  pub many : length s.at.nums.now ≡ 2 * length s.job.now.objects
  pub on : IsOn s.job.now s.extent s.path.now (values s)

abbrev pub HoldsUpTo : Site → ℕ → ℕ → Graph → Type 0
HoldsUpTo s i j g = HoldsOrders s.path.now (length s.job.now.objects) i j g

abbrev pub HoldsAll : Site → Graph → Type 0
HoldsAll s g = HoldsUpTo s (length s.job.now.objects) 0 g

abbrev pub Hits : Site → ℕ → ℕ → Type 0
Hits s i j = CollidesAt s.job.now s.extent (values s) i j

abbrev pub ContactHits : Site → Contact → Type 0
ContactHits s c = ContactCollidesAt s.job.now s.extent (values s) c

abbrev pub MaySplit : Site → Node → Type 0
MaySplit s node = IsSoundNode s.job.now s.extent s.path.now node × Earned s.job.now s.extent s.path.now node

abbrev pub EarnsPairAt : Site → ℕ → ℕ → Type 0
EarnsPairAt s a b = EarnsPair s.job.now s.extent s.path.now a b

abbrev pub IsOnOrEarnedAt : Site → ℕ → ℕ → Type 0
IsOnOrEarnedAt s a b = IsOnOrEarned s.job.now s.extent s.path.now a b

abbrev pub place_of_site : Site → ℕ → Place
place_of_site s o = place_at s.job.now s.extent s.at.den s.at.nums.now o

abbrev pub plan_of_site : Site → List ℕ → Plan
plan_of_site s objects = plan_of s.job.now s.extent (values s) objects

abbrev pub IsLookAt : Site → Look → Type 0
IsLookAt s look = IsLook s.job.now s.extent s.path.now look

pub record IsZeroSite (s : Site) : Type 0 where
  pub root : s.path.now ≡ []
  pub zero : values s ≡ zero_point s.job.now
  pub plan : HasZeroPlan s.job.now s.extent

abbrev pub IsZeroLookAt : Site → Look → Type 0
IsZeroLookAt s look = IsZeroLook s.job.now s.extent look
