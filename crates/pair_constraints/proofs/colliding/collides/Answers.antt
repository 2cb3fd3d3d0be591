use Rattle.std.proofs.Common.{◌≡◌, ◌↔◌, sym, subst, rules, FitsSigned, to_z-of_z, ℤ}
use Rattle.std.specs.Int.{w128}
use Rattle.model_laws.specs.Laws.Collisions.{contact_by_bands}
use Rattle.seq_model.specs.Contacts.{IsContact, ContactCollides}
use Rattle.seq_model.specs.Jobs.{zone_at, part_at}
use Rattle.seq_model.specs.Points.{place_point}
use Rattle.seq_model.specs.Scenes.{Overlap}
use Rattle.seq_model.specs.declared.job.Job.{Job}
use Rattle.seq_model.specs.declared.plan.Place.{Place}
use Rattle.seq_model.specs.declared.tree.Contact.{Contact}
use Rattle.pair_constraints.proofs.colliding.collides.Goals as goal

abbrev Overlaps : Job → Contact → Place → Place → ℤ → Type 0
Overlaps job c e l scale = Overlap (zone_at job c.i c.zi).corners (zone_at job c.j c.zj).corners (part_at job c.part).corners (place_point scale e) (place_point scale l)

decides : {P : Type 0} (job : Job) (c : Contact) (e l : Place) (s t : ℤ) → s ≡ t → IsContact job c → (P ↔ Overlaps job c e l s) → P ↔ ContactCollides job c (place_point t e) (place_point t l)
decides {P} job c e l s t same is law = (
  λ p. record { is = is; overlap = subst (Overlaps job c e l) same (law.0 p) },
  λ k. law.1 (back k.overlap),
)
  where
    back : Overlaps job c e l t → Overlaps job c e l s
    back o = subst (Overlaps job c e l) (sym same) o

pub returns-clause-collides : goal.returns-clause-collides
returns-clause-collides c =
    let fits : FitsSigned w128 c.args.scale = search rules in
    decides c.args.job.now c.args.contact.now c.args.earlier.now c.args.later.now _ c.args.scale (to_z-of_z fits) c.requires.contact c.contact_overlaps.ensures

pub returns-clause-by_bands : goal.returns-clause-by_bands
returns-clause-by_bands c =
    let fits : FitsSigned w128 c.args.scale = search rules in
    let law = decides c.args.job.now c.args.contact.now c.args.earlier.now c.args.later.now _ c.args.scale (to_z-of_z fits) c.requires.contact c.contact_overlaps.ensures in
    let bands = contact_by_bands c.args.job.now c.args.contact.now (place_point c.args.scale c.args.earlier.now) (place_point c.args.scale c.args.later.now) in
    (λ t. (bands.0 (law.0 t)).1, λ b. law.1 (bands.1 (c.requires.contact, b)))
