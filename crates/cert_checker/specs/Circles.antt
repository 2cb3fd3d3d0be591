-- Circles, one step after the other.
--
--   RunsOn R from objects first   from one object to the next of the list, and from the last to the first
--   IsOnTrail trail a b           a before b stands on the path
use Rattle.std.specs.Prelude.{ℕ, List, [], ◌∷◌, Contains}
use Rattle.seq_model.specs.declared.tree.Choice.TheVariants as Choices
use Rattle.cert_checker.specs.declared.trail.Trail.{Trail}

abbrev pub RunsOn : (ℕ → ℕ → Type 0) → ℕ → List ℕ → ℕ → Type 0
RunsOn R from [] first = R from first
RunsOn R from (o ∷ objects) first = R from o × RunsOn R o objects first

abbrev pub IsOnTrail : Trail → ℕ → ℕ → Type 0
IsOnTrail trail a b = Contains trail.path.items (Choices.Before a b)
