-- What a sink has taken, where it is told.
--
--   Grew old new bytes          == where it is told after a call it was told before, and grew by these bytes
--   Took old new result piece   == a write took the first n bytes of the piece at `Ok n`, and none at `Err`
--   TookPart old new bytes      == fewer than all the bytes were taken, from the first on
--   Wrote bytes old new         == the sink took all the bytes, and no write failed
--   BrokeIn bytes old new       == one write failed, and the sink took fewer than all the bytes
use Rattle.std.specs.Prelude.{ℕ, ◌≡◌, ◌<◌, List, ◌++◌, length, take, true, Option, Some, None, Result, MatchResult}
use Rattle.seq_io.specs.Counts.{raised}
use Rattle.seq_io.specs.Views.{SinkView}

abbrev pub Grew : Option (List ℕ) → Option (List ℕ) → List ℕ → Type 0
Grew old None bytes = Unit {0}
Grew None (Some now) bytes = ⊥
Grew (Some before) (Some now) bytes = now ≡ before ++ bytes

abbrev pub Took : {E : Type 0} → Option (List ℕ) → Option (List ℕ) → Result ℕ E → List ℕ → Type 0
Took old new result piece = MatchResult result (λ n. Grew old new (take n piece)) (λ _. new ≡ old)

abbrev pub TookPart : Option (List ℕ) → Option (List ℕ) → List ℕ → Type 0
TookPart old new bytes = (n : ℕ) × (n < length bytes) × Grew old new (take n bytes)

pub record Wrote (bytes : List ℕ) (old new : SinkView) : Type 0 where
  pub all : Grew old.taken new.taken bytes
  pub calm : new.faults ≡ old.faults

pub record BrokeIn (bytes : List ℕ) (old new : SinkView) : Type 0 where
  pub part : TookPart old.taken new.taken bytes
  pub failed : new.faults ≡ raised true old.faults
