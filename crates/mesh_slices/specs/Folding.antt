-- Spots that stand for a longer list: few of its members, with all others within them.
--
--   StandsFor S B                 B are members of S, and each member of S is within B
use Rattle.std.proofs.Common.{List}
use Rattle.integer_laws.specs.Members.{In}
use Rattle.seq_model.specs.declared.printer.Spot.{Spot}
use Rattle.seq_model.specs.Outlines.{Within}
use Rattle.seq_model.specs.Points.{at_spot}

-- B are members of S, and each member of S is within B
pub record StandsFor (S B : List Spot) : Type 0 where
  pub members : (s : Spot) → In s B → In s S
  pub within : (s : Spot) → In s S → Within B (at_spot s)
