-- A contact collides at a point exactly where the later place less the earlier one is inner to its difference.
--
--   overlap_is_inner      two outlines, spread by a part, at any two points
--   contact_is_inner      a contact at a point of a search
use Rattle.std.proofs.Common.{ℕ, List, pos, ◌≤ℤ◌, ◌↔◌}
use Rattle.seq_model.specs.Contacts.{difference, points_of, IsContact}
use Rattle.seq_model.specs.Outlines.{Inner}
use Rattle.seq_model.specs.Points.{Point, IsPoint, minus}
use Rattle.seq_model.specs.Scenes.{Overlap}
use Rattle.seq_model.specs.Splits.{Values, ContactCollidesAt}
use Rattle.seq_model.specs.Systems.{place_of}
use Rattle.seq_model.specs.declared.job.Job.{Job}
use Rattle.seq_model.specs.declared.printer.Spot.{Spot}
use Rattle.seq_model.specs.declared.tree.Contact.{Contact}
use Rattle.outline_laws.specs.Laws.Overlaps.{inner_of_overlap, overlap_of_inner}

pub overlap_is_inner : (A B F : List Spot) (p r : Point) → IsPoint p → IsPoint r → Overlap A B F p r ↔ Inner (difference A B F) (minus r p)
overlap_is_inner A B F p r at place = (λ o. inner_of_overlap A B F p r at o, λ m. overlap_of_inner A B F p r at place m)

pub contact_is_inner : (job : Job) (e : ℕ) (at : Values) (c : Contact) → pos 1 ≤ℤ at.d
    → ContactCollidesAt job e at c ↔ (IsContact job c × Inner (points_of job c) (minus (place_of job e at.d at.u c.j) (place_of job e at.d at.u c.i)))
contact_is_inner job e at c one = (
  λ k. (k.is, (overlap_is_inner _ _ _ p r (record { positive = one }) (record { positive = one })).0 k.overlap),
  λ k. record { is = k.0; overlap = (overlap_is_inner _ _ _ p r (record { positive = one }) (record { positive = one })).1 k.1 },
)
  where
    p : Point
    p = place_of job e at.d at.u c.i

    r : Point
    r = place_of job e at.d at.u c.j
