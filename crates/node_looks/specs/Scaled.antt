-- A plan over a smaller scale, and what divides the numbers of a plan.
--
--   place_over g p, plan_over g plan   the numbers divided by g, where it divides them
--   IsShared g d p                g divides d and the numerators of p, and what divides these divides it
--   IsCommon g d places           the same of d and the numerators of all places
--   IsReduced d places plan       the plan of the places over the scale d, over the least scale
use Rattle.std.specs.Prelude.{◌≡◌, ℕ, ℤ, pos, ◌≤ℤ◌, List, All, map, unsigned_abs, int_div}
use Rattle.std.specs.Int.{◌∣◌}
use Rattle.plan_text.specs.PlanText.{DividesPlace}
use Rattle.seq_model.specs.declared.plan.Place.{Place}
use Rattle.seq_model.specs.declared.plan.Plan.{Plan}

abbrev pub place_over : ℤ → Place → Place
place_over g p = record { object = p.object; x = int_div p.x g; y = int_div p.y g }

abbrev pub plan_over : ℤ → Plan → Plan
plan_over g plan = record { scale = int_div plan.scale g; places = map (place_over g) plan.places }

pub record IsShared (g d : ℤ) (p : Place) : Type 0 where
  pub positive : pos 1 ≤ℤ g
  pub before : unsigned_abs g ∣ unsigned_abs d
  pub place : DividesPlace (unsigned_abs g) p
  pub greatest : (c : ℕ) → c ∣ unsigned_abs d → DividesPlace c p → c ∣ unsigned_abs g

pub record IsCommon (g d : ℤ) (ps : List Place) : Type 0 where
  pub positive : pos 1 ≤ℤ g
  pub scale : unsigned_abs g ∣ unsigned_abs d
  pub places : All (DividesPlace (unsigned_abs g)) ps
  pub greatest : (c : ℕ) → c ∣ unsigned_abs d → All (DividesPlace c) ps → c ∣ unsigned_abs g

pub record IsReduced (d : ℤ) (places : List Place) (plan : Plan) : Type 0 where
  pub g : ℤ
  pub common : IsCommon g d places
  pub is : plan ≡ plan_over g (record { scale = d; places = places })
