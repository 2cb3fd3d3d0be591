-- Where objects collide, in the words of contacts.
--
--   ByBands job contact p r   some bands of the contact's two zones meet by its part, and the spots of these bands overlap
--   ByContact job i j p r     some contact with i earlier and j later collides
use Rattle.std.specs.Prelude.{◌≡◌, ℕ, ◌≤◌}
use Rattle.seq_model.specs.Contacts.{ContactCollides}
use Rattle.seq_model.specs.Jobs.{zone_at, part_at, scene_of_job}
use Rattle.seq_model.specs.Points.{Point}
use Rattle.seq_model.specs.Scenes.{Meets, Overlap}
use Rattle.seq_model.specs.declared.job.Job.{Job}
use Rattle.seq_model.specs.declared.tree.Contact.{Contact}

pub record ByBands (job : Job) (contact : Contact) (p r : Point) : Type 0 where
  pub b : ℕ
  pub c : ℕ
  pub b_low : (zone_at job contact.j contact.zj).first ≤ b
  pub b_high : b ≤ (zone_at job contact.j contact.zj).last
  pub c_low : (zone_at job contact.i contact.zi).first ≤ c
  pub c_high : c ≤ (zone_at job contact.i contact.zi).last
  pub meets : Meets (part_at job contact.part) b c
  pub overlap : Overlap ((scene_of_job job).spots contact.i c) ((scene_of_job job).spots contact.j b) (part_at job contact.part).corners p r

pub record ByContact (job : Job) (i j : ℕ) (p r : Point) : Type 0 where
  pub contact : Contact
  pub earlier : contact.i ≡ i
  pub later : contact.j ≡ j
  pub collides : ContactCollides job contact p r
