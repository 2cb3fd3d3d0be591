-- Two outlines at their places overlap, spread by a part, exactly where the later place less the earlier one is inner to the difference.
--
--   gap D e l             place l less place e, over the scale D
--   overlap_at_places     for two places over one scale
use Rattle.std.proofs.Common.{◌≡◌, List, arith, ℤ, pos, ◌-ℤ◌, ◌*ℤ◌, ◌≤ℤ◌, ◌↔◌}
use Rattle.std.proofs.lemmas.Int.{ints}
use Rattle.integer_laws.specs.Laws.Ring.{expand}
use Rattle.seq_model.specs.Contacts.{difference}
use Rattle.seq_model.specs.Outlines.{Inner}
use Rattle.seq_model.specs.Points.{Point, IsPoint, minus, place_point}
use Rattle.seq_model.specs.Scenes.{Overlap}
use Rattle.seq_model.specs.declared.plan.Place.{Place}
use Rattle.seq_model.specs.declared.printer.Spot.{Spot}
use Rattle.model_laws.specs.Laws.SamePoints.{mean_of_same, minus_is_point}
use Rattle.outline_laws.specs.Laws.Overlaps.{inner_of_overlap, overlap_of_inner}

abbrev pub gap : ℤ → Place → Place → Point
gap scale e l = record { x = l.x -ℤ e.x; y = l.y -ℤ e.y; d = scale }

there : (l e d : ℤ) → (l -ℤ e) *ℤ (d *ℤ d) ≡ (l *ℤ d -ℤ e *ℤ d) *ℤ d
there l e d = simp expand (omega (arith, ints))

back : (l e d : ℤ) → (l *ℤ d -ℤ e *ℤ d) *ℤ d ≡ (l -ℤ e) *ℤ (d *ℤ d)
back l e d = simp expand (omega (arith, ints))

pub overlap_at_places : (A B F : List Spot) (scale : ℤ) (e l : Place) → pos 1 ≤ℤ scale → Overlap A B F (place_point scale e) (place_point scale l) ↔ Inner (difference A B F) (gap scale e l)
overlap_at_places A B F scale e l one =
    let p = place_point scale e in
    let r = place_point scale l in
    let is : IsPoint (gap scale e l) = record { positive = one } in
    let at : IsPoint p = record { positive = one } in
    let place : IsPoint r = record { positive = one } in (
      λ o. mean_of_same (pos 1) (difference A B F) (minus r p) (gap scale e l) is (record { x = back l.x e.x scale; y = back l.y e.y scale }) (inner_of_overlap A B F p r at o),
      λ m. overlap_of_inner A B F p r at place (mean_of_same (pos 1) (difference A B F) (gap scale e l) (minus r p) (minus_is_point r p place at) (record { x = there l.x e.x scale; y = there l.y e.y scale }) m),
    )
