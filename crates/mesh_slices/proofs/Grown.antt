-- Zones that grow by one band.
use Rattle.std.proofs.Common.{◌≡◌, ◌≢◌, ℕ, ◌+◌, ◌<◌, ◌≤◌, List, [], ◌∷◌, ◌++◌, length, get_or, All, Contains, refl, sym, subst, ap, ◌∙◌, arith, ⊎_elim, ◌⊎◌, inl, inr, length-append}
use Rattle.std.proofs.Math.ListN.{get_or-append}
use Rattle.std.proofs.Math.Seq.{get_or-append_seam}
use Rattle.std.proofs.lemmas.Bool.{cases_lt}
use Rattle.std.proofs.lemmas.List.Elements.{All-nil, All-cons, All-append}
use Rattle.std.proofs.lemmas.List.Quantifiers.{all_pairs_push}
use Rattle.std.specs.List.{AllPairs}
use Rattle.integer_laws.specs.Members.{In}
use Rattle.integer_laws.specs.Laws.Members.{In-from_contains, In-append_left, In-append_right, In-append_cases, All-in, All-from_in}
use Rattle.seq_model.specs.declared.job.Zone.{Zone}
use Rattle.seq_model.specs.declared.printer.Spot.{Spot}
use Rattle.seq_model.specs.Outlines.{Within}
use Rattle.seq_model.specs.Points.{at_spot}
use Rattle.outline_laws.specs.Laws.Within.{no_mean}
use Rattle.mesh_slices.specs.Objects.{IsOutlineOf, HoldsBand}
use Rattle.mesh_slices.specs.Runs.{IsRunOf, Holds, AreRunsOf}

-- ---- a list and one more
pairs_front : {X : Type 0} (R : X → X → Type 0) (xs : List X) (y : X) → AllPairs R (xs ++ y ∷ []) → AllPairs R xs
pairs_front R xs y all i j d p q =
    let n = length-append xs (y ∷ []) in
    subst (λ u. R u (get_or xs j d)) (get_or-append xs (y ∷ []) d i (omega arith)) (subst (λ v. R (get_or (xs ++ y ∷ []) i d) v) (get_or-append xs (y ∷ []) d j q) (all i j d p (omega arith)))

pairs_last : {X : Type 0} (R : X → X → Type 0) (xs : List X) (y : X) → AllPairs R (xs ++ y ∷ []) → All (λ x. R x y) xs
pairs_last R xs y all k d q =
    let n = length-append xs (y ∷ []) in
    subst (λ u. R u y) (get_or-append xs (y ∷ []) d k q) (subst (λ v. R (get_or (xs ++ y ∷ []) k d) v) (get_or-append_seam xs y [] d) (all k (length xs) d q (omega arith)))

all_front : {X : Type 0} (P : X → Type 0) (xs : List X) (y : X) → All P (xs ++ y ∷ []) → All P xs
all_front P xs y all = All-from_in P xs (λ x i. All-in P (xs ++ y ∷ []) x all (In-append_left xs (y ∷ []) x i))

all_last : {X : Type 0} (P : X → Type 0) (xs : List X) (y : X) → All P (xs ++ y ∷ []) → P y
all_last P xs y all = All-in P (xs ++ y ∷ []) y all (In-append_right xs (y ∷ []) y (inl refl))

last_in : {X : Type 0} (xs : List X) (y : X) → In y (xs ++ y ∷ [])
last_in xs y = In-append_right xs (y ∷ []) y (inl refl)

-- ---- outlines
-- spots without corners are none, and corners without spots
pub no_spots : (S : List Spot) → IsOutlineOf S [] → S ≡ []
no_spots [] o = refl
no_spots (s ∷ S) o = absurd (no_mean (at_spot s) (All-in (λ t. Within [] (at_spot t)) (s ∷ S) s o.within (inl refl)))

pub no_corners : (C : List Spot) → IsOutlineOf [] C → C ≡ []
no_corners [] o = refl
no_corners (c ∷ C) o = absurd (In-from_contains [] c (All-in (Contains []) (c ∷ C) c o.members (inl refl)))

-- ---- one more band
weaker : (S : ℕ → List Spot) (n : ℕ) (z : Zone) → IsRunOf S n z → IsRunOf S (n + 1) z
weaker S n z r = let h = r.below_count in record { rises = r.rises; below_count = omega arith; some = r.some; outline = r.outline }

all_weaker : (S : ℕ → List Spot) (n : ℕ) (zones : List Zone) → All (IsRunOf S n) zones → All (IsRunOf S (n + 1)) zones
all_weaker S n zones each k d h = weaker S n (get_or zones k d) (each k d h)

-- a band below n + 1 is below n or is n
by_band : (P : ℕ → Type 0) (n b : ℕ) → b < n + 1 → (b < n → P b) → P n → P b
by_band P n b h below at = ⊎_elim below (λ past. subst P (omega arith) at) (cases_lt b n)

pub nothing_added : (S : ℕ → List Spot) (n : ℕ) (zones : List Zone) → AreRunsOf S n zones → IsOutlineOf (S n) [] → AreRunsOf S (n + 1) zones
nothing_added S n zones r o = record {
  rise = r.rise;
  each = all_weaker S n zones r.each;
  held = λ b h. by_band (λ k. S k ≢ [] → Holds zones k) n b h (λ below. r.held b below) (λ some. absurd (some (no_spots (S n) o)));
  longest = r.longest;
}

in_longer : (zones : List Zone) (y : Zone) (b : ℕ) → Holds zones b → Holds (zones ++ y ∷ []) b
in_longer zones y b h = record { zone = h.zone; member = In-append_left zones (y ∷ []) h.zone h.member; holds = h.holds }

abbrev pub one_band : List Spot → ℕ → Zone
one_band C n = record { corners = C; first = n; last = n }

pub zone_added : (S : ℕ → List Spot) (n : ℕ) (zones : List Zone) (C : List Spot) → AreRunsOf S n zones → IsOutlineOf (S n) C → C ≢ [] → All (λ y. n ≡ y.last + 1 → C ≢ y.corners) zones
    → AreRunsOf S (n + 1) (zones ++ one_band C n ∷ [])
zone_added S n zones C r o some differs = record {
  rise = all_pairs_push (λ y z. y.last < z.first) zones (one_band C n) r.rise (λ k d h. (r.each k d h).below_count);
  each = All-append (IsRunOf S (n + 1)) zones (one_band C n ∷ []) (all_weaker S n zones r.each) (All-cons (IsRunOf S (n + 1)) (one_band C n) [] run (All-nil (IsRunOf S (n + 1))));
  held = λ b h. by_band (λ k. S k ≢ [] → Holds (zones ++ one_band C n ∷ []) k) n b h (λ below full. in_longer zones (one_band C n) b (r.held b below full)) (λ full. here);
  longest = all_pairs_push (λ y z. z.first ≡ y.last + 1 → z.corners ≢ y.corners) zones (one_band C n) r.longest differs;
}
  where
    run : IsRunOf S (n + 1) (one_band C n)
    run = record { rises = omega arith; below_count = omega arith; some = some; outline = outline }
      where
        outline : (b : ℕ) → HoldsBand b (one_band C n) → IsOutlineOf (S b) C
        outline b h = let p = h.from in let q = h.to in subst (λ k. IsOutlineOf (S k) C) (omega arith) o

    here : Holds (zones ++ one_band C n ∷ []) n
    here = record { zone = one_band C n; member = last_in zones (one_band C n); holds = record { from = omega arith; to = omega arith } }

abbrev pub grown_to : Zone → ℕ → Zone
grown_to z n = record { corners = z.corners; first = z.first; last = n }

pub zone_grown : (S : ℕ → List Spot) (n : ℕ) (front : List Zone) (z : Zone) (C : List Spot) → AreRunsOf S n (front ++ z ∷ []) → IsOutlineOf (S n) C → n ≡ z.last + 1 → C ≡ z.corners
    → AreRunsOf S (n + 1) (front ++ grown_to z n ∷ [])
zone_grown S n front z C r o e f = record {
  rise = all_pairs_push (λ y x. y.last < x.first) front (grown_to z n) (pairs_front (λ y x. y.last < x.first) front z r.rise) (pairs_last (λ y x. y.last < x.first) front z r.rise);
  each = All-append (IsRunOf S (n + 1)) front (grown_to z n ∷ []) (all_weaker S n front (all_front (IsRunOf S n) front z r.each)) (All-cons (IsRunOf S (n + 1)) (grown_to z n) [] run (All-nil (IsRunOf S (n + 1))));
  held = λ b h. by_band (λ k. S k ≢ [] → Holds (front ++ grown_to z n ∷ []) k) n b h (λ below full. moved b (r.held b below full)) (λ full. here);
  longest = all_pairs_push (λ y x. x.first ≡ y.last + 1 → x.corners ≢ y.corners) front (grown_to z n) (pairs_front (λ y x. x.first ≡ y.last + 1 → x.corners ≢ y.corners) front z r.longest) (pairs_last (λ y x. x.first ≡ y.last + 1 → x.corners ≢ y.corners) front z r.longest);
}
  where
    last : IsRunOf S n z
    last = all_last (IsRunOf S n) front z r.each

    run : IsRunOf S (n + 1) (grown_to z n)
    run = let p = last.rises in record { rises = omega (arith, e); below_count = omega arith; some = last.some; outline = outline }
      where
        outline : (b : ℕ) → HoldsBand b (grown_to z n) → IsOutlineOf (S b) z.corners
        outline b h =
            let p = h.from in
            let q = h.to in
            by_band (λ k. z.first ≤ k → IsOutlineOf (S k) z.corners) n b (omega arith) (λ below from. last.outline b (record { from = from; to = omega (arith, e) })) (λ from. subst (IsOutlineOf (S n)) f o) p

    here : Holds (front ++ grown_to z n ∷ []) n
    here = let p = last.rises in record { zone = grown_to z n; member = last_in front (grown_to z n); holds = record { from = omega (arith, e); to = omega arith } }

    moved : (b : ℕ) → Holds (front ++ z ∷ []) b → Holds (front ++ grown_to z n ∷ []) b
    moved b h = pick (In-append_cases front (z ∷ []) h.zone h.member)
      where
        pick : In h.zone front ⊎ In h.zone (z ∷ []) → Holds (front ++ grown_to z n ∷ []) b
        pick (inl i) = record { zone = h.zone; member = In-append_left front (grown_to z n ∷ []) h.zone i; holds = h.holds }
        pick (inr (inl same)) =
            let held : HoldsBand b z = subst (HoldsBand b) same h.holds in
            let from = held.from in
            let to = held.to in
            record { zone = grown_to z n; member = last_in front (grown_to z n); holds = record { from = from; to = omega (arith, e) } }
        pick (inr (inr i)) = absurd i

-- if the last zone doesn't go on, no zone does
pub none_goes_on : (S : ℕ → List Spot) (n : ℕ) (front : List Zone) (z : Zone) (C : List Spot) → AreRunsOf S n (front ++ z ∷ []) → (n ≡ z.last + 1 → C ≢ z.corners)
    → All (λ y. n ≡ y.last + 1 → C ≢ y.corners) (front ++ z ∷ [])
none_goes_on S n front z C r differs =
    All-append (λ y. n ≡ y.last + 1 → C ≢ y.corners) front (z ∷ []) (λ k d h e. absurd (below (get_or front k d) (pairs_last (λ y x. y.last < x.first) front z r.rise k d h) e))
    (All-cons (λ y. n ≡ y.last + 1 → C ≢ y.corners) z [] differs (All-nil (λ y. n ≡ y.last + 1 → C ≢ y.corners)))
  where
    below : (y : Zone) → y.last < z.first → n ≡ y.last + 1 → ⊥
    below y h e =
        let last = all_last (IsRunOf S n) front z r.each in
        let p = last.rises in
        let q = last.below_count in
        absurd (omega (arith, e))

-- the first zone
pub first_zone : (S : ℕ → List Spot) (n : ℕ) (old popped new : List Zone) (C : List Spot) (y : Zone) → old ≡ [] → popped ≡ [] → new ≡ popped ++ y ∷ [] → y ≡ one_band C n → AreRunsOf S n old → IsOutlineOf (S n) C → C ≢ [] → AreRunsOf S (n + 1) new
first_zone S n old popped new C y e p f g r o some =
    let same : new ≡ [] ++ one_band C n ∷ [] = f ∙ ap (λ l. l ++ y ∷ []) p ∙ ap (λ z. [] ++ z ∷ []) g in
    subst (AreRunsOf S (n + 1)) (sym same) (zone_added S n [] C (subst (AreRunsOf S n) e r) o some (All-nil (λ z. n ≡ z.last + 1 → C ≢ z.corners)))

-- a zone after the last one
pub next_zone : (S : ℕ → List Spot) (n : ℕ) (front middle new : List Zone) (z : Zone) (C : List Spot) (y : Zone) → middle ≡ front ++ z ∷ [] → new ≡ middle ++ y ∷ [] → y ≡ one_band C n
    → (n ≡ z.last + 1 → C ≢ z.corners) → AreRunsOf S n (front ++ z ∷ []) → IsOutlineOf (S n) C → C ≢ [] → AreRunsOf S (n + 1) new
next_zone S n front middle new z C y m f g differs r o some =
    let same : new ≡ (front ++ z ∷ []) ++ one_band C n ∷ [] = f ∙ ap (λ l. l ++ y ∷ []) m ∙ ap (λ x. (front ++ z ∷ []) ++ x ∷ []) g in
    subst (AreRunsOf S (n + 1)) (sym same) (zone_added S n (front ++ z ∷ []) C r o some (none_goes_on S n front z C r differs))

-- no band, no zone
pub no_zones : (S : ℕ → List Spot) → AreRunsOf S 0 []
no_zones S = record { rise = λ i j d p q. absurd (omega arith); each = All-nil (IsRunOf S 0); held = λ b h. absurd (omega arith); longest = λ i j d p q. absurd (omega arith) }
