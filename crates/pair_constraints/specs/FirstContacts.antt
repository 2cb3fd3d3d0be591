-- The first contact that collides.
--
--   IsFirst P B r              none is so where r is None; else what r holds is so, and nothing that stands before it by B
--   Sooner B                   of two numbered things: by number, then by B
--   ComesBefore c d            by zone of the later, zone of the earlier, part
--   CollidesBetween job i j p r c     a contact of these two objects, and it collides at p and r
--   ArePlaces e l D            places over the scale D whose numbers fit the tests: numerators below 2^90 in size, a scale of 1 to 2^62
use Rattle.std.specs.Prelude.{◌≡◌, ℕ, ◌<◌, ◌^◌, Option, Some, None, ◌⊎◌, ℤ, pos, ◌≤ℤ◌, unsigned_abs}
use Rattle.seq_model.specs.Contacts.{ContactCollides}
use Rattle.seq_model.specs.Points.{Point}
use Rattle.seq_model.specs.declared.job.Job.{Job}
use Rattle.seq_model.specs.declared.plan.Place.{Place}
use Rattle.seq_model.specs.declared.tree.Contact.{Contact}

abbrev pub IsFirst : {X : Type 0} → (X → Type 0) → (X → X → Type 0) → Option X → Type 0
IsFirst {X} P B None = (x : X) → P x → ⊥
IsFirst {X} P B (Some x) = P x × ((y : X) → P y → B y x → ⊥)

abbrev pub Sooner : {X : Type 0} → (X → X → Type 0) → ℕ × X → ℕ × X → Type 0
Sooner B a b = (a.0 < b.0) ⊎ ((a.0 ≡ b.0) × B a.1 b.1)

abbrev pub ComesBefore : Contact → Contact → Type 0
ComesBefore c d = Sooner (Sooner (λ a b. a < b)) (c.zj, (c.zi, c.part)) (d.zj, (d.zi, d.part))

abbrev pub CollidesBetween : Job → ℕ → ℕ → Point → Point → Contact → Type 0
CollidesBetween job i j p r c = (c.i ≡ i) × (c.j ≡ j) × ContactCollides job c p r

pub record ArePlaces (e l : Place) (scale : ℤ) : Type 0 where
  pub e_x : unsigned_abs e.x < 2 ^ 90
  pub e_y : unsigned_abs e.y < 2 ^ 90
  pub l_x : unsigned_abs l.x < 2 ^ 90
  pub l_y : unsigned_abs l.y < 2 ^ 90
  pub one : pos 1 ≤ℤ scale
  pub small : unsigned_abs scale < 2 ^ 62
