-- Chains of corners that turn left, and lists in ascending order: what the parts of `hull` compute.
--
--   fallen p c          the chain c without its newest corners at which the way to p doesn't turn left
--   grown c ps          the chain c after each of the points ps
--   both_chains xs      the chain up the points and the one back, each without its newest corner
--   IsRising xs         each is before the next
--   SameMembers xs ys   a spot is a member of both or of none
--
-- A chain stands with its newest corner first.
use Rattle.std.specs.Prelude.{List, [], ◌∷◌, ◌++◌, ◌↔◌, reverse, pos, cond, int_lt}
use Rattle.integer_laws.specs.Members.{In}
use Rattle.seq_model.specs.declared.printer.Spot.{Spot}
use Rattle.outline_laws.specs.Corners.{turn, IsBefore}

abbrev pub fallen : Spot → List Spot → List Spot
fallen p [] = []
fallen p (b ∷ []) = b ∷ []
fallen p (b ∷ a ∷ cs) = cond (int_lt (pos 0) (turn a b p)) (b ∷ a ∷ cs) (fallen p (a ∷ cs))

-- the chain after each of the points
abbrev pub grown : List Spot → List Spot → List Spot
grown c [] = c
grown c (p ∷ ps) = grown (p ∷ fallen p c) ps

abbrev pub without_first : List Spot → List Spot
without_first [] = []
without_first (b ∷ c) = c

-- along the lower side, and back along the upper one
abbrev pub both_chains : List Spot → List Spot
both_chains xs = reverse (without_first (grown [] xs)) ++ reverse (without_first (grown [] (reverse xs)))

abbrev pub RisesFrom : Spot → List Spot → Type 0
RisesFrom s [] = Unit {0}
RisesFrom s (p ∷ ps) = IsBefore s p × RisesFrom p ps

abbrev pub IsRising : List Spot → Type 0
IsRising [] = Unit {0}
IsRising (s ∷ ps) = RisesFrom s ps

abbrev pub SameMembers : List Spot → List Spot → Type 0
SameMembers xs ys = (s : Spot) → In s xs ↔ In s ys
