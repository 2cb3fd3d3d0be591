-- What clap answers, and what it finds in the words.
use Rattle.std.proofs.Common.{◌≡◌, List, [], ◌∷◌, refl, false, Some, None}
use Rattle.clap.specs.Words.{App, IsAmong, Kinds, Row, Text, fault_of, matches_of}
use Rattle.clap.specs.declared.error.kind.ErrorKind.{ErrorKind}
use Rattle.seq_words.specs.Usages.{is_clean, rows_by}

pub rows_of_clean : (command : App) (words : List Text) (rows : List Row) → fault_of command words ≡ [] → rows ≡ matches_of command words → rows_by command words ≡ Some rows
unfolding rows_by
rows_of_clean command words rows clean same = rw (clean, same) refl

not_clean : (kind : ErrorKind) (kinds : Kinds) → IsAmong kind kinds → is_clean kinds ≡ false
not_clean kind [] among = absurd among
not_clean kind (first ∷ kinds) among = refl

pub rows_of_fault : (command : App) (words : List Text) (kind : ErrorKind) → IsAmong kind (fault_of command words) → rows_by command words ≡ None
unfolding rows_by
rows_of_fault command words kind among = rw (not_clean kind (fault_of command words) among) refl
