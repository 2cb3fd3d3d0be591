-- A plan that is moved by whole grains: what divides all its numbers divided them before.
use Rattle.std.proofs.Common.{◌≡◌, ℕ, ℤ, pos, ◌+ℤ◌, ◌-ℤ◌, ◌*ℤ◌, unsigned_abs, int_div, List, [], ◌∷◌, All, map, sym, ap, subst, ◌∙◌, arith}
use Rattle.std.proofs.Math.Nat.{dvd-mul_right}
use Rattle.std.proofs.lemmas.Int.{ints, unsigned_abs-mul}
use Rattle.std.proofs.lemmas.List.Elements.{All-nil, All-cons, All-head, All-tail}
use Rattle.std.specs.Int.{◌∣◌}
use Rattle.integer_laws.specs.Laws.Divisors.{exact_quotient}
use Rattle.integer_laws.specs.Laws.Ring.{expand}
use Rattle.node_looks.specs.Looks.{IsFound}
use Rattle.plan_audit.specs.Places.{IsRoomy}
use Rattle.plan_text.specs.PlanText.{DividesPlace, IsPlace}
use Rattle.plate_shrink.specs.Fitting.{place_by, plan_by}
use Rattle.plate_shrink.specs.declared.fitting.Shift.{Shift}
use Rattle.seq_model.specs.Jobs.{scene_of_job}
use Rattle.seq_model.specs.Scenes.{Valid}
use Rattle.seq_model.specs.declared.job.Job.{Job}
use Rattle.seq_model.specs.declared.plan.Place.{Place}
use Rattle.seq_model.specs.declared.plan.Plan.{Plan}

before_move : (x s k g p q : ℤ) → x +ℤ s *ℤ k ≡ g *ℤ p → s ≡ g *ℤ q → x ≡ g *ℤ (p -ℤ q *ℤ k)
before_move x s k g p q e f = (ours x (s *ℤ k) (g *ℤ p) e) ∙ (ap (λ t. g *ℤ p -ℤ t *ℤ k) f ∙ simp expand (omega (arith, ints)))
  where
    ours : (a b c : ℤ) → a +ℤ b ≡ c → a ≡ c -ℤ b
    ours a b c h = omega (arith, ints, h)

number_divides : (d : ℕ) (s k x : ℤ) → d ∣ unsigned_abs s → d ∣ unsigned_abs (x +ℤ s *ℤ k) → d ∣ unsigned_abs x
number_divides d s k x scale there =
    let e = exact_quotient (x +ℤ s *ℤ k) (pos d) there in
    let f = exact_quotient s (pos d) scale in
    let is = before_move x s k (pos d) (int_div (x +ℤ s *ℤ k) (pos d)) (int_div s (pos d)) e f in
    subst (λ n. d ∣ n) (sym (ap unsigned_abs is ∙ unsigned_abs-mul (pos d) (int_div (x +ℤ s *ℤ k) (pos d) -ℤ int_div s (pos d) *ℤ k)))
    (dvd-mul_right d (unsigned_abs (int_div (x +ℤ s *ℤ k) (pos d) -ℤ int_div s (pos d) *ℤ k)))

places_divide : (d : ℕ) (s : ℤ) (shift : Shift) (places : List Place) → d ∣ unsigned_abs s → All (DividesPlace d) (map (place_by s shift) places) → All (DividesPlace d) places
places_divide d s shift [] scale all = All-nil (DividesPlace d)
places_divide d s shift (p ∷ places) scale all =
    let here : DividesPlace d (place_by s shift p) = All-head (DividesPlace d) (place_by s shift p) (map (place_by s shift) places) all in
    All-cons (DividesPlace d) p places (record { x = number_divides d s shift.x p.x scale here.x; y = number_divides d s shift.y p.y scale here.y })
    (places_divide d s shift places scale (All-tail (DividesPlace d) (place_by s shift p) (map (place_by s shift) places) all))

places_spelt : (s : ℤ) (shift : Shift) (places : List Place) → All IsPlace places → All IsRoomy (map (place_by s shift) places) → All IsPlace (map (place_by s shift) places)
places_spelt s shift [] before roomy = All-nil IsPlace
places_spelt s shift (p ∷ places) before roomy =
    let was : IsPlace p = All-head IsPlace p places before in
    let here : IsRoomy (place_by s shift p) = All-head IsRoomy (place_by s shift p) (map (place_by s shift) places) roomy in
    All-cons IsPlace (place_by s shift p) (map (place_by s shift) places) (record { object = was.object; x = here.x; y = here.y })
    (places_spelt s shift places (All-tail IsPlace p places before) (All-tail IsRoomy (place_by s shift p) (map (place_by s shift) places) roomy))

pub found_again : (job : Job) (e fit : ℕ) (shift : Shift) (plan moved : Plan) → IsFound job e plan → moved ≡ plan_by shift plan → Valid (scene_of_job job) fit moved → All IsRoomy moved.places
    → IsFound job fit moved
found_again job e fit shift plan moved found is valid roomy = subst (IsFound job fit) (sym is) (record {
  valid = subst (Valid (scene_of_job job) fit) is valid;
  scale_low = found.scale_low;
  scale_high = found.scale_high;
  places = places_spelt plan.scale shift plan.places found.places (subst (λ (p : Plan). All IsRoomy p.places) is roomy);
  reduced = record { one = λ d scale all. found.reduced.one d scale (places_divide d plan.scale shift plan.places scale all) };
})
