-- How readings are put together: what the pieces read, and nothing else, the whole reads, and nothing else.
use Rattle.std.proofs.Common.{◌≡◌, ◌∙◌, ℕ, ℤ, List, ap, refl, subst, Ok, Err, Result}
use Rattle.decimal_lengths.specs.declared.Decimal.{Decimal}
use Rattle.decimal_lengths.specs.Lengths.{IsReadAs}
use Rattle.decimal_lengths.specs.Refusals.{Refuses}
use Rattle.stl_text.specs.declared.Stl.{Stl}
use Rattle.stl_text.specs.declared.Stl.TheVariants.{Number}
use Rattle.stl_text.specs.Reading.{Reading, gives, refuses, Then, passes, stops, Choice, yes, no, ReadsOnly}
use Rattle.stl_text.specs.Grammar.{length_of}

pub gives_reads : {A : Type 0} (a : A) → ReadsOnly (gives a) (Ok a)
gives_reads a = record { stands = refl; only = λ s e. e }

pub refuses_reads : {A : Type 0} (e : Stl) → ReadsOnly (refuses {A = A} e) (Err e)
refuses_reads e = record { stands = refl; only = λ s h. h }

pub passes_reads : {A B : Type 0} (m : Reading A) (k : A → Reading B) (a : A) (r : Result B Stl) → ReadsOnly m (Ok a) → ReadsOnly (k a) r → ReadsOnly (Then m k) r
passes_reads {A} {B} m k a r f g = record {
  stands = passes a f.stands g.stands;
  only = λ s t. by s t;
}
  where
    by : (s : Result B Stl) → Then m k s → s ≡ r
    by s (passes a' p q) =
        let e = f.only (Ok a') p in
        let same : a' ≡ a = cc in
        let P : A → Type 0 = λ x. k x s in
        g.only s (subst P same q)
    by s (stops e p q) = let e = f.only (Err e) p in absurd cc

pub stops_reads : {A B : Type 0} (m : Reading A) (k : A → Reading B) (e : Stl) → ReadsOnly m (Err e) → ReadsOnly (Then m k) (Err e)
stops_reads {A} {B} m k e f = record {
  stands = stops e f.stands refl;
  only = λ s t. by s t;
}
  where
    by : (s : Result B Stl) → Then m k s → s ≡ Err e
    by s (passes a p q) = let e = f.only (Ok a) p in absurd cc
    by s (stops e' p q) = let e = f.only (Err e') p in cc

pub yes_reads : {A : Type 0} (C : Type 0) (p q : Reading A) (r : Result A Stl) → C → ReadsOnly p r → ReadsOnly (Choice C p q) r
yes_reads {A} C p q r h f = record { stands = yes h f.stands; only = λ s t. by s t }
  where
    by : (s : Result A Stl) → Choice C p q s → s ≡ r
    by s (yes h' x) = f.only s x
    by s (no h' x) = absurd (h' h)

pub no_reads : {A : Type 0} (C : Type 0) (p q : Reading A) (r : Result A Stl) → ¬ C → ReadsOnly q r → ReadsOnly (Choice C p q) r
no_reads {A} C p q r h f = record { stands = no h f.stands; only = λ s t. by s t }
  where
    by : (s : Result A Stl) → Choice C p q s → s ≡ r
    by s (yes h' x) = absurd (h h')
    by s (no h' x) = f.only s x

-- what `read_um` says of its result
pub length_reads : (text : List ℕ) (place : ℕ) (um : ℤ) → IsReadAs text um → ((s : ℤ) → IsReadAs text s → s ≡ um) → ((cause : Decimal) → Refuses text cause → ⊥) → ReadsOnly (length_of text place) (Ok um)
length_reads text place um h one none = record { stands = h; only = by }
  where
    by : (s : Result ℤ Stl) → length_of text place s → s ≡ Ok um
    by (Ok v) g = ap Ok (one v g)
    by (Err e) g = absurd (none g.cause g.refused)

pub no_length_reads : (text : List ℕ) (place : ℕ) (cause : Decimal) → Refuses text cause → ((s : ℤ) → IsReadAs text s → ⊥) → ((other : Decimal) → Refuses text other → other ≡ cause) → ReadsOnly (length_of text place) (Err (Number place cause))
no_length_reads text place cause h none one = record { stands = record { cause = cause; refused = h; told = refl }; only = by }
  where
    by : (s : Result ℤ Stl) → length_of text place s → s ≡ Err (Number place cause)
    by (Ok v) g = absurd (none v g)
    by (Err e) g = ap Err (g.told ∙ ap (Number place) (one g.cause g.refused))
