-- How a grammar is written down. A `Reading A` says of a result whether it is what stands there: `Ok` with the value
-- that is read, or `Err` with a refusal. Readings are put together in the order of the text, so that the first refusal
-- stands.
--
--   gives a         this value
--   refuses e       this refusal
--   m >>= k         what m reads and then what k reads from its value; a refusal of m stands. Written `a ← m`, then k
--   choice C p q    p where C holds, q where it doesn't
--   ReadsOnly m r   m reads r and nothing else
use Rattle.std.specs.Prelude.{◌≡◌, Result, Ok, Err}
use Rattle.stl_text.specs.declared.Stl.{Stl}

abbrev pub Reading : Type 0 → Type 1
Reading A = Result A Stl → Type 0

abbrev pub gives : {A : Type 0} → A → Reading A
gives a r = r ≡ Ok a

abbrev pub refuses : {A : Type 0} → Stl → Reading A
refuses e r = r ≡ Err e

pub data Then {A B : Type 0} (m : Reading A) (k : A → Reading B) (r : Result B Stl) : Type 0 where
  passes : (a : A) → m (Ok a) → k a r → Then m k r
  stops : (e : Stl) → m (Err e) → r ≡ Err e → Then m k r

infixl 10 ◌>>=◌
abbrev pub ◌>>=◌ : {A B : Type 0} → Reading A → (A → Reading B) → Reading B
m >>= k = Then m k

pub data Choice {A : Type 0} (C : Type 0) (p q : Reading A) (r : Result A Stl) : Type 0 where
  yes : C → p r → Choice C p q r
  no : ¬ C → q r → Choice C p q r

abbrev pub choice : {A : Type 0} → Type 0 → Reading A → Reading A → Reading A
choice C p q = Choice C p q

pub record ReadsOnly {A : Type 0} (m : Reading A) (r : Result A Stl) : Type 0 where
  pub stands : m r
  pub only : (s : Result A Stl) → m s → s ≡ r
