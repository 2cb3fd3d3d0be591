-- The layers of a tower, as texts of facets.
--
--   Fits size x            a layer drawn in by x is 4 mm wide and deep or more, in a tower of at most 24 mm
--   layer_solid            the text of a layer is one of twelve facets
--   tower_solid            and that of a tower of twelve for each layer
use Rattle.std.proofs.Common.{◌≡◌, ℕ, zero, suc, ◌+◌, ◌*◌, ◌-◌, ◌<◌, ◌≤◌, Bool, true, false, nat_le, cond, ◌++◌, refl, sym, subst, arith}
use Rattle.std.proofs.lemmas.Bool.Decides.{nat_tests}
use Rattle.std.proofs.lemmas.Bool.{and_parts}
use Rattle.seq_trial.specs.Draws.{drawn, next_state}
use Rattle.seq_trial.specs.Towers.{first, fits, floor_text, fourth, higher_text, layer_text, narrowed, roof_text, second, third, tower_at, tower_text, wall_text, walls_text}
use Rattle.seq_trial.specs.declared.facets.Vertex.{Vertex}
use Rattle.seq_trial.specs.declared.tower.Size.{Size}
use Rattle.trial_laws.specs.Laws.Facets.{IsSmall}
use Rattle.trial_laws.specs.Laws.Solids.{Apart, in_x, in_y, in_z, IsSolidText, solid_both, solid_facet, solid_none}
use Rattle.trial_laws.specs.Made.{facets_at}

pub record Fits (size : Size) (x : ℕ) : Type 0 where
  pub wide : 2 * x + 4 ≤ size.width
  pub deep : 2 * x + 4 ≤ size.depth
  pub width : size.width ≤ 24
  pub depth : size.depth ≤ 24

-- the two facets of a wall
wall_solid : (a b above_b above_a : Vertex) → IsSmall a → IsSmall b → IsSmall above_b → IsSmall above_a → Apart a b → Apart b above_b → Apart above_b a → Apart above_b above_a → Apart above_a a → Apart a above_b → IsSolidText (wall_text a b above_b above_a) 2
unfolding wall_text
wall_solid a b above_b above_a p q r s a_b b_c c_a c_d d_a a_c = solid_both _ _ 1 1 (solid_facet a b above_b p q r a_b b_c c_a) (solid_facet a above_b above_a p r s a_c c_d d_a)

module _ (size : Size) (x : ℕ) (f : Fits size x) where
  small_first : (z : ℕ) → z ≤ 100 → IsSmall (first size x z)
  small_first z h = record { x = omega (arith, f.wide, f.width); y = omega (arith, f.wide, f.width); z = h }

  small_second : (z : ℕ) → z ≤ 100 → IsSmall (second size x z)
  small_second z h = record { x = omega (arith, f.width); y = omega (arith, f.wide, f.width); z = h }

  small_third : (z : ℕ) → z ≤ 100 → IsSmall (third size x z)
  small_third z h = record { x = omega (arith, f.width); y = omega (arith, f.depth); z = h }

  small_fourth : (z : ℕ) → z ≤ 100 → IsSmall (fourth size x z)
  small_fourth z h = record { x = omega (arith, f.wide, f.width); y = omega (arith, f.depth); z = h }

  -- corners of one layer stand apart
  across : ¬ (x ≡ size.width - x)
  across e = absurd (omega (arith, f.wide, e))

  across_back : ¬ (size.width - x ≡ x)
  across_back e = absurd (omega (arith, f.wide, e))

  along : ¬ (x ≡ size.depth - x)
  along e = absurd (omega (arith, f.deep, e))

  along_back : ¬ (size.depth - x ≡ x)
  along_back e = absurd (omega (arith, f.deep, e))

  floor_solid : (z : ℕ) → z ≤ 100 → IsSolidText (floor_text size x z) 2
  unfolding floor_text
  floor_solid z h =
      solid_both _ _ 1 1
      (solid_facet (first size x z) (third size x z) (second size x z) (small_first z h) (small_third z h) (small_second z h) (in_x across) (in_y along_back) (in_x across_back))
      (solid_facet (first size x z) (fourth size x z) (third size x z) (small_first z h) (small_fourth z h) (small_third z h) (in_y along) (in_x across) (in_x across_back))

  roof_solid : (z : ℕ) → z ≤ 100 → IsSolidText (roof_text size x z) 2
  unfolding roof_text
  roof_solid z h =
      solid_both _ _ 1 1
      (solid_facet (first size x z) (second size x z) (third size x z) (small_first z h) (small_second z h) (small_third z h) (in_x across) (in_y along) (in_x across_back))
      (solid_facet (first size x z) (third size x z) (fourth size x z) (small_first z h) (small_third z h) (small_fourth z h) (in_x across) (in_x across_back) (in_y along_back))

  walls_solid : (low high : ℕ) → low < high → high ≤ 100 → IsSolidText (walls_text size x low high) 8
  unfolding walls_text
  walls_solid low high rise h =
      let low_ok : low ≤ 100 = omega (arith, rise, h) in
      let up : ¬ (low ≡ high) = λ e. absurd (omega (arith, rise, e)) in
      let down : ¬ (high ≡ low) = λ e. absurd (omega (arith, rise, e)) in
      solid_both _ _ 2 6
      (wall_solid (first size x low) (second size x low) (second size x high) (first size x high) (small_first low low_ok) (small_second low low_ok) (small_second high h) (small_first high h)
      (in_x across) (in_z up) (in_z down) (in_x across_back) (in_z down) (in_z up))
      (solid_both _ _ 2 4
      (wall_solid (second size x low) (third size x low) (third size x high) (second size x high) (small_second low low_ok) (small_third low low_ok) (small_third high h) (small_second high h)
      (in_y along) (in_z up) (in_z down) (in_y along_back) (in_z down) (in_z up))
      (solid_both _ _ 2 2
      (wall_solid (third size x low) (fourth size x low) (fourth size x high) (third size x high) (small_third low low_ok) (small_fourth low low_ok) (small_fourth high h) (small_third high h)
      (in_x across_back) (in_z up) (in_z down) (in_x across) (in_z down) (in_z up))
      (wall_solid (fourth size x low) (first size x low) (first size x high) (fourth size x high) (small_fourth low low_ok) (small_first low low_ok) (small_first high h) (small_fourth high h)
      (in_y along_back) (in_z up) (in_z down) (in_y along) (in_z down) (in_z up))))

  pub layer_solid : (low : ℕ) → low + 5 ≤ 100 → IsSolidText (layer_text size low x) 12
  unfolding layer_text
  layer_solid low h =
      solid_both _ _ 2 10 (floor_solid low (omega (arith, h)))
      (solid_both _ _ 2 8 (roof_solid (low + 5) h) (walls_solid low (low + 5) (omega arith) h))

-- a layer drawn in further fits too
narrowed_by : (size : Size) (x v : ℕ) (b : Bool) → b ≡ fits size (x + v) → Fits size x → Fits size (cond b (x + v) x)
narrowed_by size x v true e f =
    let t = and_parts (nat_le (2 * (x + v) + 4) size.width) (nat_le (2 * (x + v) + 4) size.depth) (sym e) in
    let wide : 2 * (x + v) + 4 ≤ size.width = (let h = t.0 in grind (arith, nat_tests)) in
    let deep : 2 * (x + v) + 4 ≤ size.depth = (let h = t.1 in grind (arith, nat_tests)) in
    record { wide = wide; deep = deep; width = f.width; depth = f.depth }
narrowed_by size x v false e f = f

narrowed_fits : (size : Size) (x v : ℕ) → Fits size x → Fits size (narrowed size x v)
narrowed_fits size x v f = narrowed_by size x v (fits size (x + v)) refl f

higher_solid : (left : ℕ) (size : Size) (low x s : ℕ) → Fits size x → low + 5 * left ≤ 100 → IsSolidText (higher_text left size low x s) (12 * left)
higher_solid zero size low x s f h = solid_none
higher_solid (suc left) size low x s f h =
    let next = narrowed_fits size x (drawn 2 s) f in
    let more = solid_both _ _ 12 (12 * left) (layer_solid size (narrowed size x (drawn 2 s)) next low (omega (arith, h))) (higher_solid left size (low + 5) (narrowed size x (drawn 2 s)) (next_state s) next (omega (arith, h))) in
    subst (IsSolidText (higher_text (suc left) size low x s)) (omega arith) more

pub few_higher : (s : ℕ) → (tower_at s).higher < 20
few_higher s = omega arith

tower_fits : (s : ℕ) → Fits (tower_at s).size 0
tower_fits s = record { wide = omega arith; deep = omega arith; width = omega arith; depth = omega arith }

pub tower_solid : (s t : ℕ) → IsSolidText (tower_text (tower_at s) t) (facets_at s)
unfolding tower_text
tower_solid s t =
    let few = few_higher s in
    let all = solid_both _ _ 12 (12 * (tower_at s).higher) (layer_solid (tower_at s).size 0 (tower_fits s) 0 (omega arith)) (higher_solid (tower_at s).higher (tower_at s).size 5 0 t (tower_fits s) (omega (arith, few))) in
    subst (IsSolidText (layer_text (tower_at s).size 0 0 ++ higher_text (tower_at s).higher (tower_at s).size 5 0 t)) (omega arith) all
