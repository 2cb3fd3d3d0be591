-- Corners by recursion on their list.
--
--   StartsLeast C                  the first corner is before each other one
--   LeftAbout a C                  any two of C, in their order, stand counterclockwise about a
--   TurnsLeft C                    any three of C, in their order, turn left
use Rattle.std.proofs.Common.{List, [], ◌∷◌, pos, ◌<ℤ◌, All}
use Rattle.seq_model.specs.Corners.{turn, IsBefore}
use Rattle.seq_model.specs.declared.printer.Spot.{Spot}

-- the first is before each other one
abbrev pub StartsLeast : List Spot → Type 0
StartsLeast [] = Unit {0}
StartsLeast (c ∷ cs) = All (IsBefore c) cs

-- any two, in their order, stand counterclockwise about a
abbrev pub LeftAbout : Spot → List Spot → Type 0
LeftAbout a [] = Unit {0}
LeftAbout a (b ∷ cs) = All (λ c. pos 0 <ℤ turn a b c) cs × LeftAbout a cs

-- any three, in their order, turn left: so no three lie on one line
abbrev pub TurnsLeft : List Spot → Type 0
TurnsLeft [] = Unit {0}
TurnsLeft (a ∷ bs) = LeftAbout a bs × TurnsLeft bs
