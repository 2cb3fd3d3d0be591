-- Kept contacts of which none covers another, as they are made contact by contact.
--
--   AreKeptOf job i j k        it is kept of a contact of these two objects, in this order
--   IsFree job by k            the contact doesn't cover it
--   IsShort job c k            it doesn't cover the contact
--   leaves_kept                one more is taken away
--   free-remove                those before it stay free
--   settles_kept               one more is kept
--   kept_covers, within_more   one of them, and one more of them
use Rattle.std.proofs.Common.{◌≡◌, ℕ, zero, suc, ◌+◌, ◌<◌, ◌≤◌, List, [], ◌∷◌, ◌++◌, length, get_or, remove, take, refl, sym, subst, ◌∙◌, arith, All, AllPairs, ◌⊎◌, inl, inr}
use Rattle.std.specs.List.{AllWithin}
use Rattle.std.proofs.lemmas.List.Edits.{get_or-remove_below}
use Rattle.std.proofs.lemmas.List.Elements.{All-map, All-more, All-push, All-take, All-weaker}
use Rattle.std.proofs.lemmas.List.Quantifiers.{all_pairs_push}
use Rattle.model_laws.specs.Laws.Collisions.{any_default}
use Rattle.std.proofs.lemmas.Bool.{cases_lt}
use Rattle.integer_laws.specs.Members.{In}
use Rattle.integer_laws.specs.Laws.Members.{All-in, All-from_in, In-map, In-map_cases}
use Rattle.search_laws.specs.Covering.{Covers, IsCovered}
use Rattle.seq_model.specs.Contacts.{IsContact, points_of}
use Rattle.seq_model.specs.declared.job.Job.{Job}
use Rattle.seq_model.specs.declared.tree.Contact.{Contact}
use Rattle.pair_constraints.specs.Keeping.{IsKept}
use Rattle.pair_constraints.specs.Maximal.{AreApart, IsOf, IsPair, contacts_of}
use Rattle.pair_constraints.specs.Laws.Settling.{In-remove_cases, LeavesOut, Settles, covered_onward, in_at, settles_pushed}
use Rattle.pair_constraints.specs.declared.kept.Kept.{Kept}

pub record AreKeptOf (job : Job) (i j : ℕ) (k : Kept) : Type 0 where
  pub kept : IsKept job k
  pub of : IsOf job i j k.contact

abbrev pub IsFree : Job → Contact → Kept → Type 0
IsFree job by k = Covers (points_of job by) (points_of job k.contact) → ⊥

abbrev pub IsShort : Job → Contact → Kept → Type 0
IsShort job c k = Covers (points_of job k.contact) (points_of job c) → ⊥

pub leaves_kept : (job : Job) (by : Contact) (old mid : List Kept) (k : ℕ) (d : Kept) → LeavesOut job by (contacts_of old) (contacts_of mid) → Covers (points_of job by) (points_of job (get_or mid k d).contact)
    → LeavesOut job by (contacts_of old) (contacts_of (remove mid k))
leaves_kept job by old mid k d leaves covers = record { cases = λ c i. by_cases c (leaves.cases c i) }
  where
    gone : (c : Contact) (x : Kept) → c ≡ x.contact → In x (remove mid k) ⊎ (x ≡ get_or mid k d) → In c (contacts_of (remove mid k)) ⊎ Covers (points_of job by) (points_of job c)
    gone c x e (inl i) = inl (subst (λ t. In t (contacts_of (remove mid k))) (sym e) (In-map (λ (x : Kept). x.contact) (remove mid k) x i))
    gone c x e (inr s) = inr (subst (λ t. Covers (points_of job by) (points_of job t)) (sym e) (subst (λ (t : Kept). Covers (points_of job by) (points_of job t.contact)) (sym s) covers))

    by_cases : (c : Contact) → In c (contacts_of mid) ⊎ Covers (points_of job by) (points_of job c) → In c (contacts_of (remove mid k)) ⊎ Covers (points_of job by) (points_of job c)
    by_cases c (inl i) = let x = In-map_cases (λ (x : Kept). x.contact) mid c i in gone c x.0 x.2 (In-remove_cases mid k x.0 d x.1)
    by_cases c (inr over) = inr over

pub free-remove : (job : Job) (by : Contact) (kept : List Kept) (k : ℕ) → k < length kept → AllWithin (IsFree job by) kept 0 k → AllWithin (IsFree job by) (remove kept k) 0 k
free-remove job by kept k l free = λ n d low high. subst (IsFree job by) (sym (get_or-remove_below kept k d n high l)) (free n d low high)

contacts-append : (kept : List Kept) (x : Kept) → contacts_of (kept ++ x ∷ []) ≡ contacts_of kept ++ x.contact ∷ []
contacts-append [] x = refl
contacts-append (k ∷ kept) x = cc (contacts-append kept x)

pub settles_kept : (job : Job) (i j : ℕ) (x : Kept) (c : Contact) (old mid : List Kept) → x.contact ≡ c → IsOf job i j c → All (AreKeptOf job i j) old → LeavesOut job c (contacts_of old) (contacts_of mid)
    → Settles job (λ d. d ≡ c) (contacts_of old) (contacts_of (mid ++ x ∷ []))
settles_kept job i j x c old mid same of all leaves =
    subst (λ (t : List Contact). Settles job (λ d. d ≡ c) (contacts_of old) t) (sym (contacts-append mid x))
    (subst (λ (t : Contact). Settles job (λ d. d ≡ c) (contacts_of old) (contacts_of mid ++ t ∷ [])) (sym same)
    (settles_pushed job i j c (contacts_of old) (contacts_of mid) of (All-map (IsOf job i j) (λ (k : Kept). k.contact) old (All-weaker (AreKeptOf job i j) (λ (k : Kept). IsOf job i j k.contact) (λ k a. a.of) old all)) leaves))

-- ---- one of a list
pub kept_covers : (job : Job) (kept : List Kept) (c : Contact) (k : ℕ) (x : Kept) → k < length kept → x ≡ get_or kept k x → All (AreKeptOf job c.i c.j) kept → Covers (points_of job x.contact) (points_of job c) → IsCovered job (contacts_of kept) c
kept_covers job kept c k x l e all covers =
    let i = in_at kept k x l e in
    let of = (All-in (AreKeptOf job c.i c.j) kept x all i).of in
    record { by = x.contact; member = In-map (λ (x : Kept). x.contact) kept x i; is = of.is; earlier = of.earlier; later = of.later; covers = covers }

pub within_more : {A : Type 0} (P : A → Type 0) (xs : List A) (k : ℕ) (x : A) → k < length xs → x ≡ get_or xs k x → AllWithin P xs 0 k → P x → AllWithin P xs 0 (k + 1)
within_more P xs k x l e all here = λ n d low high. by n d (cases_lt n k) high
  where
    at : (d : _) → P (get_or xs k d)
    at d = subst P (e ∙ any_default xs k x d l) here

    by : (n : ℕ) (d : _) → (n < k) ⊎ (k ≤ n) → n < k + 1 → P (get_or xs n d)
    by n d (inl less) high = all n d (omega arith) less
    by n d (inr more) high = subst (λ m. P (get_or xs m d)) (omega (arith, more, high)) (at d)

-- ---- one more kept
pub kept_of_pair : (job : Job) (i j : ℕ) (c : Contact) (xs : List Kept) → IsOf job i j c → All (AreKeptOf job c.i c.j) xs → All (AreKeptOf job i j) xs
kept_of_pair job i j c xs is all = subst (λ t. All (AreKeptOf job t j) xs) is.earlier (subst (λ t. All (AreKeptOf job c.i t) xs) is.later all)

pub kept_pushed : (job : Job) (x : Kept) (c : Contact) (mid : List Kept) → x.contact ≡ c → IsContact job c → IsKept job x → All (AreKeptOf job x.contact.i x.contact.j) mid → All (AreKeptOf job c.i c.j) (mid ++ x ∷ [])
kept_pushed job x c mid same is kept all =
    let of : IsOf job c.i c.j c = record { is = is; earlier = refl; later = refl } in
    All-push (AreKeptOf job c.i c.j) mid x (subst (λ (t : Contact). All (AreKeptOf job t.i t.j) mid) same all)
    (record { kept = kept; of = subst (λ (t : Contact). IsOf job c.i c.j t) (sym same) of })

pub apart_pushed : (job : Job) (x : Kept) (c : Contact) (old mid : List Kept) → x.contact ≡ c → AllPairs (AreApart job) mid → ((k : Kept) → In k mid → In k old) → All (IsShort job c) old → All (IsFree job x.contact) mid
    → AllPairs (AreApart job) (mid ++ x ∷ [])
apart_pushed job x c old mid same apart only short free = all_pairs_push (AreApart job) mid x apart new
  where
    at_in : (xs : List Kept) (k : ℕ) (d : Kept) → k < length xs → In (get_or xs k d) xs
    at_in xs k d l = in_at xs k (get_or xs k d) l (any_default xs k d (get_or xs k d) l)

    new : (k : ℕ) (d : Kept) → k < length mid → AreApart job (get_or mid k d) x
    new k d l = (
      subst (λ (t : Contact). Covers (points_of job (get_or mid k d).contact) (points_of job t) → ⊥) (sym same) (All-in (IsShort job c) old (get_or mid k d) short (only (get_or mid k d) (at_in mid k d l))),
      free k d l,
    )

pub settles_new : (job : Job) (x : Kept) (c : Contact) (old mid : List Kept) → x.contact ≡ c → IsContact job c → All (AreKeptOf job c.i c.j) old → LeavesOut job x.contact (contacts_of old) (contacts_of mid)
    → Settles job (λ d. d ≡ c) (contacts_of old) (contacts_of (mid ++ x ∷ []))
settles_new job x c old mid same is all leaves =
    settles_kept job c.i c.j x c old mid same (record { is = is; earlier = refl; later = refl }) all (subst (λ (t : Contact). LeavesOut job t (contacts_of old) (contacts_of mid)) same leaves)

-- ---- all of two objects
pub covered_more : (job : Job) (old new : List Contact) (c : Contact) (xs : List Contact) (k : ℕ) (d : Contact) → k < length xs → c ≡ get_or xs k d → All (IsContact job) xs → Settles job (λ x. x ≡ c) old new
    → All (IsCovered job old) (take k xs) → All (IsCovered job new) (take (k + 1) xs)
covered_more job old new c xs k d l e are s all =
    All-more (IsCovered job new) xs k d l (All-from_in (IsCovered job new) (take k xs) (λ x i. s.onward x (All-in (IsContact job) (take k xs) x (All-take (IsContact job) k xs are) i) (All-in (IsCovered job old) (take k xs) x all i)))
    (s.done (get_or xs k d) (sym e))

pub pair_of : (job : Job) (i j : ℕ) (contacts : List Contact) (kept : List Kept) → All (AreKeptOf job i j) kept → AllPairs (AreApart job) kept → ((c : Contact) → IsOf job i j c → IsCovered job contacts c)
    → All (IsCovered job (contacts_of kept)) contacts → IsPair job i j kept
pair_of job i j contacts kept all apart first second = record {
  each = All-weaker (AreKeptOf job i j) (IsKept job) (λ k a. a.kept) kept all;
  of = All-weaker (AreKeptOf job i j) (λ (k : Kept). IsOf job i j k.contact) (λ k a. a.of) kept all;
  enough = λ c is. let k = first c is in covered_onward job (contacts_of kept) k.by c is.is k.earlier k.later k.is k.covers (All-in (IsCovered job (contacts_of kept)) contacts k.by second k.member);
  apart = apart;
}

in_take : {A : Type 0} (xs : List A) (n : ℕ) (x : A) → length xs ≤ n → In x xs → In x (take n xs)
in_take [] n x l i = absurd i
in_take (y ∷ xs) zero x l i = absurd (omega (arith, l))
in_take (y ∷ xs) (suc n) x l (inl e) = inl e
in_take (y ∷ xs) (suc n) x l (inr i) = inr (in_take xs n x (omega (arith, l)) i)

pub all_taken : {A : Type 0} (P : A → Type 0) (xs : List A) (n : ℕ) → length xs ≤ n → All P (take n xs) → All P xs
all_taken P xs n l all = All-from_in P xs (λ x i. All-in P (take n xs) x all (in_take xs n x l i))
