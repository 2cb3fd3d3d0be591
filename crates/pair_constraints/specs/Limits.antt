-- Sides with the greatest values along them.
--
--   AreLimits S ls    the sides of S, by angle, each with the greatest value along it
--   IsFit l           a short direction, and a value below 2^46 in size
use Rattle.std.specs.Prelude.{◌≡◌, ◌<◌, ◌^◌, List, map, unsigned_abs}
use Rattle.integer_laws.specs.Members.{In}
use Rattle.seq_model.specs.Sides.{greatest_along, AreSides}
use Rattle.seq_model.specs.declared.printer.Spot.{Spot}
use Rattle.outline_laws.specs.Directions.{IsShort}
use Rattle.pair_constraints.specs.declared.limits.Limit.{Limit}

pub record AreLimits (S : List Spot) (ls : List Limit) : Type 0 where
  pub sides : AreSides S (map (λ (l : Limit). l.dir) ls)
  pub most : (l : Limit) → In l ls → l.most ≡ greatest_along l.dir S

abbrev pub IsFit : Limit → Type 0
IsFit l = IsShort l.dir × (unsigned_abs l.most < 2 ^ 46)
