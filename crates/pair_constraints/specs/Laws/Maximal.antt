-- What is kept of two objects is maximal.
--
--   same_if_covered       of kept ones that lie apart each is covered by itself alone
--   maximal_of_pair       each kept contact of a pair is maximal
--   contacts_maximal      and each of all pairs
use Rattle.std.proofs.Common.{◌≡◌, ℕ, zero, suc, ◌<◌, ◌≤◌, List, [], ◌∷◌, length, get_or, flat_map, refl, sym, subst, ◌∙◌, arith, All, AllPairs, ◌⊎◌, inl, inr}
use Rattle.std.proofs.lemmas.Bool.{cases_lt}
use Rattle.integer_laws.specs.Members.{In}
use Rattle.integer_laws.specs.Laws.Members.{All-in, All-from_in, In-append_cases, In-map_cases}
use Rattle.search_laws.specs.Covering.{Covers}
use Rattle.search_laws.specs.Laws.Gaps.{area_of_contact}
use Rattle.seq_model.specs.Contacts.{points_of}
use Rattle.seq_model.specs.declared.job.Job.{Job}
use Rattle.seq_model.specs.declared.tree.Contact.{Contact}
use Rattle.pair_constraints.specs.Maximal.{AreApart, IsMaximal, IsOf, IsPair, kept_contacts}
use Rattle.pair_constraints.specs.Laws.Numbered.{AreBy}
use Rattle.pair_constraints.specs.Laws.Reaching.{covers_onward}
use Rattle.pair_constraints.specs.Laws.Rows.{AreRows, IsRow}
use Rattle.pair_constraints.specs.declared.contacts.Contacts.{Contacts}
use Rattle.pair_constraints.specs.declared.kept.Kept.{Kept}

-- ---- members and their numbers
In-number : {A : Type 0} (xs : List A) (x d : A) → In x xs → (n : ℕ) × (n < length xs) × (x ≡ get_or xs n d)
In-number [] x d i = absurd i
In-number (y ∷ xs) x d (inl e) = (zero, omega arith, e)
In-number (y ∷ xs) x d (inr i) = let k = In-number xs x d i in (suc k.0, omega (arith, k.1), k.2)

In-flat_map_cases : {A B : Type 0} (f : A → List B) (xs : List A) (y : B) → In y (flat_map f xs) → (x : A) × In x xs × In y (f x)
In-flat_map_cases f [] y i = absurd i
In-flat_map_cases f (x ∷ xs) y i = by (In-append_cases (f x) (flat_map f xs) y i) (In-flat_map_cases f xs y)
  where
    by : In y (f x) ⊎ In y (flat_map f xs) → (In y (flat_map f xs) → (z : _) × In z xs × In y (f z)) → (z : _) × In z (x ∷ xs) × In y (f z)
    by (inl j) rest = (x, inl refl, j)
    by (inr j) rest = let k = rest j in (k.0, inr k.1, k.2)

by_member : {X : Type 0} (P : ℕ → X → Type 0) (xs : List X) (x : X) → AreBy P xs → In x xs → (n : ℕ) × P n x
by_member P xs x all i = let k = In-number xs x x i in (k.0, subst (P k.0) (sym k.2) (all k.0 x k.1))

-- ---- one pair
pub same_if_covered : (job : Job) (kept : List Kept) (x y : Kept) → AllPairs (AreApart job) kept → In x kept → In y kept → Covers (points_of job y.contact) (points_of job x.contact) → x ≡ y
same_if_covered job kept x y apart i j covers = by (In-number kept x x i) (In-number kept y x j)
  where
    by : (n : ℕ) × (n < length kept) × (x ≡ get_or kept n x) → (m : ℕ) × (m < length kept) × (y ≡ get_or kept m x) → x ≡ y
    by (n, l, e) (m, k, h) = order (cases_lt n m) (cases_lt m n)
      where
        at : Covers (points_of job (get_or kept m x).contact) (points_of job (get_or kept n x).contact)
        at = subst (λ (t : Kept). Covers (points_of job (get_or kept m x).contact) (points_of job t.contact)) e (subst (λ (t : Kept). Covers (points_of job t.contact) (points_of job x.contact)) h covers)

        order : (n < m) ⊎ (m ≤ n) → (m < n) ⊎ (n ≤ m) → x ≡ y
        order (inl less) any = absurd ((apart n m x less k).1 at)
        order (inr more) (inl less) = absurd ((apart m n x less l).0 at)
        order (inr more) (inr less) = (e ∙ subst (λ t. get_or kept n x ≡ get_or kept t x) (omega (arith, more, less)) refl) ∙ sym h

pub maximal_of_pair : (job : Job) (i j : ℕ) (kept : List Kept) (x : Kept) → IsPair job i j kept → In x kept → IsMaximal job x.contact
maximal_of_pair job i j kept x pair m = record { is = of.is; most = most }
  where
    of : IsOf job i j x.contact
    of = All-in (λ (k : Kept). IsOf job i j k.contact) kept x pair.of m

    most : (d : Contact) → IsOf job x.contact.i x.contact.j d → Covers (points_of job d) (points_of job x.contact) → Covers (points_of job x.contact) (points_of job d)
    most d is over =
        let by = pair.enough d (record { is = is.is; earlier = is.earlier ∙ of.earlier; later = is.later ∙ of.later }) in
        let k = In-map_cases (λ (k : Kept). k.contact) kept by.by by.member in
        let covers = covers_onward (points_of job by.by) (points_of job d) (points_of job x.contact) (area_of_contact job d is.is) (area_of_contact job x.contact of.is) by.covers over in
        let same = same_if_covered job kept x k.0 pair.apart m k.1 (subst (λ (t : Contact). Covers (points_of job t) (points_of job x.contact)) k.2 covers) in
        subst (λ (t : Kept). Covers (points_of job t.contact) (points_of job d)) (sym same) (subst (λ (t : Contact). Covers (points_of job t) (points_of job d)) k.2 by.covers)

-- ---- all pairs
pub contacts_maximal : (job : Job) (c : Contacts) → AreRows job c.rows → All (IsMaximal job) (kept_contacts c)
contacts_maximal job c are = All-from_in (IsMaximal job) (kept_contacts c) each
  where
    each : (x : Contact) → In x (kept_contacts c) → IsMaximal job x
    each x i =
        let k = In-map_cases (λ (k : Kept). k.contact) (flat_map (λ (row : List (List Kept)). flat_map (λ (kept : List Kept). kept) row) c.rows) x i in
        let row = In-flat_map_cases (λ (row : List (List Kept)). flat_map (λ (kept : List Kept). kept) row) c.rows k.0 k.1 in
        let kept = In-flat_map_cases (λ (kept : List Kept). kept) row.0 k.0 row.2 in
        let earlier = by_member (IsRow job) c.rows row.0 are.each row.1 in
        let later = by_member (IsPair job earlier.0) row.0 kept.0 earlier.1.each kept.1 in
        subst (IsMaximal job) (sym k.2) (maximal_of_pair job earlier.0 later.0 kept.0 k.0 later.1 kept.2)
