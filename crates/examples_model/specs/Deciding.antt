-- Definitions that computing decides at numbers.
--
--   EachOf P xs                P holds of each member of a list that is written out
--   is_before a b              whether one spot is before another
--   are_corners C              whether the spots are the corners of a convex outline
--   are_near n S               whether the coordinates of the spots are at most n in size
--   is_contradiction rows ms   whether the multipliers are a contradiction of the rows
--
-- For each there is a lemma that what is computed is so.
use Rattle.std.proofs.Common.{◌≡◌, ℕ, ◌<◌, ◌≤◌, List, [], ◌∷◌, length, refl, sym, subst, arith, ℤ, pos, ◌≤ℤ◌, ◌<ℤ◌, All, Bool, true, false, ◌&&◌, ◌||◌, ltb, unsigned_abs}
use Rattle.std.proofs.lemmas.Bool.Decides.{nat_tests}
use Rattle.std.proofs.lemmas.Int.{ints}
use Rattle.std.proofs.lemmas.List.Elements.{All-nil, All-cons}
use Rattle.std.proofs.lemmas.List.Sums.{AllPass-from_list_all}
use Rattle.std.specs.Prelude.{nat_le}
use Rattle.std.specs.Int.Signed.{lt_z, le_z}
use Rattle.std.specs.List.{list_all}
use Rattle.std.proofs.lemmas.Bool.{and_parts}
use lib.Dec.{T}
use lib.Signed.{le_z_yes, lt_z_yes}
use Rattle.seq_model.specs.Bounds.{IsNearSpot}
use Rattle.seq_model.specs.Corners.{turn, IsBefore, AreCorners}
use Rattle.seq_model.specs.declared.row.Row.{Row}
use Rattle.seq_model.specs.Systems.{sum_constant, sum_coefficients, Contradiction}
use Rattle.seq_model.specs.declared.printer.Spot.{Spot}
use Rattle.seq_model.specs.declared.tree.Mult.{Mult}
use Rattle.model_laws.specs.Turning.{StartsLeast, LeftAbout, TurnsLeft}
use Rattle.model_laws.specs.Laws.Turning.{corners_by_list}

pub le_true : (a b : ℤ) → le_z a b ≡ true → a ≤ℤ b
le_true a b e = le_z_yes (subst T (sym e) tt)

pub lt_true : (a b : ℤ) → lt_z a b ≡ true → a <ℤ b
lt_true a b e = lt_z_yes (subst T (sym e) tt)

nat_lt_true : (a b : ℕ) → ltb a b ≡ true → a < b
nat_lt_true a b e = grind (arith, nat_tests)

nat_le_true : (a b : ℕ) → nat_le a b ≡ true → a ≤ b
nat_le_true a b e = grind (arith, nat_tests)

-- ---- corners
abbrev pub is_before : Spot → Spot → Bool
is_before a b = le_z a.x b.x && (lt_z a.x b.x || lt_z a.y b.y)

is_before_is : (a b : Spot) → is_before a b ≡ true → IsBefore a b
is_before_is a b e = let r = and_parts _ _ e in (le_true _ _ r.0, level (lt_z a.x b.x) refl r.1)
  where
    never : a.x <ℤ b.x → a.x ≡ b.x → ⊥
    never h e = omega (arith, ints)

    level : (t : Bool) → lt_z a.x b.x ≡ t → (t || lt_z a.y b.y) ≡ true → a.x ≡ b.x → a.y <ℤ b.y
    level true less e same = absurd (never (lt_true _ _ less) same)
    level false less e same = lt_true _ _ e

abbrev pub starts_least : List Spot → Bool
starts_least [] = true
starts_least (c ∷ cs) = list_all (is_before c) cs

starts_least_is : (C : List Spot) → starts_least C ≡ true → StartsLeast C
starts_least_is [] e = tt
starts_least_is (c ∷ cs) e = λ k d l. is_before_is c _ (AllPass-from_list_all (is_before c) cs e k d l)

abbrev pub all_left : Spot → Spot → List Spot → Bool
all_left a b cs = list_all (λ c. lt_z (pos 0) (turn a b c)) cs

abbrev pub left_about : Spot → List Spot → Bool
left_about a [] = true
left_about a (b ∷ cs) = all_left a b cs && left_about a cs

abbrev pub turns_left : List Spot → Bool
turns_left [] = true
turns_left (a ∷ bs) = left_about a bs && turns_left bs

left_about_is : (a : Spot) (C : List Spot) → left_about a C ≡ true → LeftAbout a C
left_about_is a [] e = tt
left_about_is a (b ∷ cs) e =
    let r = and_parts _ _ e in
    (λ k d l. lt_true _ _ (AllPass-from_list_all (λ c. lt_z (pos 0) (turn a b c)) cs r.0 k d l), left_about_is a cs r.1)

turns_left_is : (C : List Spot) → turns_left C ≡ true → TurnsLeft C
turns_left_is [] e = tt
turns_left_is (a ∷ bs) e =
    let r = and_parts _ _ e in
    (left_about_is a bs r.0, turns_left_is bs r.1)

abbrev pub are_corners : List Spot → Bool
are_corners C = starts_least C && turns_left C

pub are_corners_is : (C : List Spot) → are_corners C ≡ true → AreCorners C
are_corners_is C e = let r = and_parts _ _ e in corners_by_list C (starts_least_is C r.0) (turns_left_is C r.1)

abbrev pub are_near : ℕ → List Spot → Bool
are_near n S = list_all (λ s. nat_le (unsigned_abs s.x) n && nat_le (unsigned_abs s.y) n) S

pub are_near_is : (n : ℕ) (S : List Spot) → are_near n S ≡ true → All (IsNearSpot n) S
are_near_is n S e = λ k d l.
    let r = and_parts _ _ (AllPass-from_list_all (λ s. nat_le (unsigned_abs s.x) n && nat_le (unsigned_abs s.y) n) S e k d l) in
    record { x = nat_le_true _ _ r.0; y = nat_le_true _ _ r.1 }

-- ---- contradictions
abbrev pub is_contradiction : List Row → List Mult → Bool
is_contradiction rows mults =
    list_all (λ m. ltb m.row (length rows) && le_z (pos 0) m.times) mults
    && (list_all (λ a. le_z a (pos 0)) (sum_coefficients rows mults) && lt_z (sum_constant rows mults) (pos 0))

pub contradiction_is : (rows : List Row) (mults : List Mult) → is_contradiction rows mults ≡ true → Contradiction rows mults
contradiction_is rows mults e =
    let one = and_parts _ _ e in
    let two = and_parts _ _ one.1 in
    record {
      each = λ k d l. let r = and_parts _ _ (AllPass-from_list_all (λ m. ltb m.row (length rows) && le_z (pos 0) m.times) mults one.0 k d l) in record { row = nat_lt_true _ _ r.0; times = le_true _ _ r.1 };
      coefficients = λ k d l. le_true _ _ (AllPass-from_list_all (λ a. le_z a (pos 0)) (sum_coefficients rows mults) two.0 k d l);
      constant = lt_true _ _ two.1;
    }

-- ---- lists that are written out
abbrev pub EachOf : {X : Type 0} → (X → Type 0) → List X → Type 0
EachOf P [] = Unit {0}
EachOf P (x ∷ xs) = P x × EachOf P xs

pub all_of : {X : Type 0} (P : X → Type 0) (xs : List X) → EachOf P xs → All P xs
all_of P [] e = All-nil P
all_of P (x ∷ xs) e = All-cons P x xs e.0 (all_of P xs e.1)
