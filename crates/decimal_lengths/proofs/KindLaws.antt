-- What a byte's kind says of it.
use Rattle.std.proofs.Common.{◌≡◌, ℕ, ◌<◌, true, false, arith, ◌⊎◌}
use Rattle.std.proofs.lemmas.Bool.Decides.{nat_tests}
use Rattle.std.specs.Char.{digit_value}
use Rattle.decimal_lengths.specs.declared.scanning.Kind.{Kind}
use Rattle.decimal_lengths.specs.declared.scanning.Kind.TheVariants as Kinds
use Rattle.decimal_lengths.specs.Scanning.{kind_of}

abbrev pub IsOfKind : ℕ → Kind → Type 0
IsOfKind c (Kinds.Digit d) = (digit_value c < 10) × (d ≡ digit_value c)
IsOfKind c (Kinds.Sign true) = c ≡ 45
IsOfKind c (Kinds.Sign false) = c ≡ 43
IsOfKind c Kinds.Point = c ≡ 46
IsOfKind c Kinds.Letter = (c ≡ 101) ⊎ (c ≡ 69)
IsOfKind c Kinds.Other = Unit {0}

pub kind_of-digit : (c : ℕ) → digit_value c < 10 → kind_of c ≡ Kinds.Digit (digit_value c)
kind_of-digit c h = grind (arith, nat_tests)

pub kind_of-is : (c : ℕ) → IsOfKind c (kind_of c)
kind_of-is c = grind (arith, nat_tests)
