-- Lists of contacts that cover others, as they are made contact by contact.
--
--   AtZone job i zj j c       and this zone of the later one
--   AtZones job i zi zj j c   and this zone of the earlier one
--   Settles job P old new     the new list covers what P says, and what the old list covers
--   LeavesOut job by old new  what the new list has no more of the old one, this contact covers
use Rattle.std.proofs.Common.{◌≡◌, ◌≢◌, ℕ, zero, suc, ◌+◌, ◌<◌, ◌≤◌, List, [], ◌∷◌, ◌++◌, length, get_or, remove, refl, sym, subst, ◌∙◌, arith, All, ◌⊎◌, inl, inr, ℤ, ◌≤ℤ◌}
use Rattle.std.proofs.lemmas.Int.{ints}
use Rattle.std.proofs.lemmas.Bool.{cases_lt}
use Rattle.integer_laws.specs.Members.{In}
use Rattle.integer_laws.specs.Laws.Members.{All-in, All-from_in, In-append_left, In-append_right}
use Rattle.model_laws.specs.Laws.Collisions.{any_default}
use Rattle.search_laws.specs.Covering.{Covers, IsCovered}
use Rattle.search_laws.specs.Laws.Gaps.{area_of_contact}
use Rattle.seq_model.specs.Contacts.{IsContact, points_of}
use Rattle.seq_model.specs.Jobs.{zones_of}
use Rattle.seq_model.specs.declared.job.Job.{Job}
use Rattle.seq_model.specs.declared.tree.Contact.{Contact}
use Rattle.pair_constraints.specs.Maximal.{IsOf}
use Rattle.pair_constraints.specs.Laws.Reaching.{covers_onward}

abbrev pub AtZone : Job → ℕ → ℕ → ℕ → Contact → Type 0
AtZone job i zj j c = IsOf job i j c × (c.zj ≡ zj)

abbrev pub AtZones : Job → ℕ → ℕ → ℕ → ℕ → Contact → Type 0
AtZones job i zi zj j c = IsOf job i j c × (c.zj ≡ zj) × (c.zi ≡ zi)

pub record Settles (job : Job) (P : Contact → Type 0) (old new : List Contact) : Type 0 where
  pub done : (c : Contact) → P c → IsCovered job new c
  pub onward : (c : Contact) → IsContact job c → IsCovered job old c → IsCovered job new c

pub record LeavesOut (job : Job) (by : Contact) (old new : List Contact) : Type 0 where
  pub cases : (c : Contact) → In c old → In c new ⊎ Covers (points_of job by) (points_of job c)

-- ---- steps

pub settles_then : (job : Job) (P Q R : Contact → Type 0) (a b c : List Contact) → ((x : Contact) → R x → IsContact job x × (P x ⊎ Q x)) → Settles job P a b → Settles job Q b c → Settles job R a c
settles_then job P Q R a b c cases first second = record { done = λ x r. done x (cases x r); onward = λ x is covered. second.onward x is (first.onward x is covered) }
  where
    done : (x : Contact) → IsContact job x × (P x ⊎ Q x) → IsCovered job c x
    done x (is, inl p) = second.onward x is (first.done x p)
    done x (is, inr q) = second.done x q

pub covered_onward : (job : Job) (kept : List Contact) (c d : Contact) → IsContact job d → c.i ≡ d.i → c.j ≡ d.j → IsContact job c → Covers (points_of job c) (points_of job d) → IsCovered job kept c → IsCovered job kept d
covered_onward job kept c d is si sj isc covers by = record {
  by = by.by;
  member = by.member;
  is = by.is;
  earlier = by.earlier ∙ si;
  later = by.later ∙ sj;
  covers = covers_onward (points_of job by.by) (points_of job c) (points_of job d) (area_of_contact job c isc) (area_of_contact job d is) by.covers covers;
}

same_le : {a : ℤ} → a ≤ℤ a
same_le {a} = omega (arith, ints)

pub covered_itself : (job : Job) (kept : List Contact) (c : Contact) → IsContact job c → In c kept → IsCovered job kept c
covered_itself job kept c is i = record { by = c; member = i; is = is; earlier = refl; later = refl; covers = λ dir side. same_le }

pub settles_pushed : (job : Job) (i j : ℕ) (x : Contact) (old mid : List Contact) → IsOf job i j x → All (IsOf job i j) old → LeavesOut job x old mid → Settles job (λ c. c ≡ x) old (mid ++ x ∷ [])
settles_pushed job i j x old mid is all leaves = record {
  done = λ c e. subst (IsCovered job (mid ++ x ∷ [])) (sym e) (covered_itself job (mid ++ x ∷ []) x is.is (In-append_right mid (x ∷ []) x (inl refl)));
  onward = λ c isc covered. onward c isc covered (leaves.cases covered.by covered.member);
}
  where
    onward : (c : Contact) → IsContact job c → (covered : IsCovered job old c) → In covered.by mid ⊎ Covers (points_of job x) (points_of job covered.by) → IsCovered job (mid ++ x ∷ []) c
    onward c isc covered (inl stays) = record {
      by = covered.by;
      member = In-append_left mid (x ∷ []) covered.by stays;
      is = covered.is;
      earlier = covered.earlier;
      later = covered.later;
      covers = covered.covers;
    }
    onward c isc covered (inr over) =
        let k = covered.by in
        let of = All-in (IsOf job i j) old k all covered.member in
        record {
          by = x;
          member = In-append_right mid (x ∷ []) x (inl refl);
          is = is.is;
          earlier = (is.earlier ∙ sym of.earlier) ∙ covered.earlier;
          later = (is.later ∙ sym of.later) ∙ covered.later;
          covers = covers_onward (points_of job x) (points_of job k) (points_of job c) (area_of_contact job k covered.is) (area_of_contact job c isc) over covered.covers;
        }

-- ---- taking away

pub In-remove : {A : Type 0} (xs : List A) (k : ℕ) (x : A) → In x (remove xs k) → In x xs
In-remove [] zero x i = i
In-remove [] (suc k) x i = i
In-remove (y ∷ xs) zero x i = inr i
In-remove (y ∷ xs) (suc k) x (inl e) = inl e
In-remove (y ∷ xs) (suc k) x (inr i) = inr (In-remove xs k x i)

pub In-remove_cases : {A : Type 0} (xs : List A) (k : ℕ) (x d : A) → In x xs → In x (remove xs k) ⊎ (x ≡ get_or xs k d)
In-remove_cases [] zero x d i = inl i
In-remove_cases [] (suc k) x d i = inl i
In-remove_cases (y ∷ xs) zero x d (inl e) = inr e
In-remove_cases (y ∷ xs) zero x d (inr i) = inl i
In-remove_cases (y ∷ xs) (suc k) x d (inl e) = inl (inl e)
In-remove_cases (y ∷ xs) (suc k) x d (inr i) = later (In-remove_cases xs k x d i)
  where
    later : In x (remove xs k) ⊎ (x ≡ get_or xs k d) → In x (remove (y ∷ xs) (suc k)) ⊎ (x ≡ get_or (y ∷ xs) (suc k) d)
    later (inl i) = inl (inr i)
    later (inr e) = inr e

pub All-remove : {A : Type 0} (P : A → Type 0) (xs : List A) (k : ℕ) → All P xs → All P (remove xs k)
All-remove P xs k all = All-from_in P (remove xs k) (λ x i. All-in P xs x all (In-remove xs k x i))

pub leaves_more : (job : Job) (by : Contact) (old mid : List Contact) (k : ℕ) (d : Contact) → LeavesOut job by old mid → Covers (points_of job by) (points_of job (get_or mid k d)) → LeavesOut job by old (remove mid k)
leaves_more job by old mid k d leaves covers = record { cases = λ c i. by_cases c (leaves.cases c i) }
  where
    gone : (c : Contact) → In c (remove mid k) ⊎ (c ≡ get_or mid k d) → In c (remove mid k) ⊎ Covers (points_of job by) (points_of job c)
    gone c (inl i) = inl i
    gone c (inr e) = inr (subst (λ t. Covers (points_of job by) (points_of job t)) (sym e) covers)

    by_cases : (c : Contact) → In c mid ⊎ Covers (points_of job by) (points_of job c) → In c (remove mid k) ⊎ Covers (points_of job by) (points_of job c)
    by_cases c (inl i) = gone c (In-remove_cases mid k c d i)
    by_cases c (inr over) = inr over

-- ---- by parts, by zones of the earlier one, by zones of the later one
abbrev pub contact_of : ℕ → ℕ → ℕ → ℕ → ℕ → Contact
contact_of i zi part zj j = record { i = i; zi = zi; part = part; zj = zj; j = j }

abbrev pub PartsBelow : Job → ℕ → ℕ → ℕ → ℕ → ℕ → Contact → Type 0
PartsBelow job i zi zj j k c = AtZones job i zi zj j c × (c.part < k)

abbrev pub ZonesBelow : Job → ℕ → ℕ → ℕ → ℕ → Contact → Type 0
ZonesBelow job i zj j z c = AtZone job i zj j c × (c.zi < z)

abbrev pub LaterBelow : Job → ℕ → ℕ → ℕ → Contact → Type 0
LaterBelow job i j z c = IsOf job i j c × (c.zj < z)

below_or_at : (n k : ℕ) → n < k + 1 → (n < k) ⊎ (n ≡ k)
below_or_at n k h = by (cases_lt n k)
  where
    by : (n < k) ⊎ (k ≤ n) → (n < k) ⊎ (n ≡ k)
    by (inl l) = inl l
    by (inr g) = inr (omega (arith, h, g))

the_contact : (c : Contact) (i zi part zj j : ℕ) → c.i ≡ i → c.zi ≡ zi → c.part ≡ part → c.zj ≡ zj → c.j ≡ j → c ≡ contact_of i zi part zj j
the_contact c i zi part zj j a b d e f = let same : contact_of c.i c.zi c.part c.zj c.j ≡ contact_of i zi part zj j = cc in same

pub record IsNamed (job : Job) (c : Contact) : Type 0 where
  pub i_in : c.i < length job.objects
  pub j_in : c.j < length job.objects
  pub apart : c.i ≢ c.j
  pub zi_in : c.zi < length (zones_of job c.i)
  pub zj_in : c.zj < length (zones_of job c.j)
  pub part_in : c.part < length job.printer.parts

abbrev pub IsThe : Job → Contact → Contact → Type 0
IsThe job the c = IsContact job c × (c ≡ the)

part_cases : (job : Job) (i zi zj j k : ℕ) (c : Contact) → PartsBelow job i zi zj j (k + 1) c → PartsBelow job i zi zj j k c ⊎ IsThe job (contact_of i zi k zj j) c
part_cases job i zi zj j k c p = by (below_or_at c.part k p.1)
  where
    by : (c.part < k) ⊎ (c.part ≡ k) → PartsBelow job i zi zj j k c ⊎ IsThe job (contact_of i zi k zj j) c
    by (inl l) = inl (p.0, l)
    by (inr e) = inr (p.0.0.is, the_contact c i zi k zj j p.0.0.earlier p.0.2 e p.0.1 p.0.0.later)

pub parts_more : (job : Job) (i zi zj j k : ℕ) (a b c : List Contact) → Settles job (PartsBelow job i zi zj j k) a b → Settles job (IsThe job (contact_of i zi k zj j)) b c → Settles job (PartsBelow job i zi zj j (k + 1)) a c
parts_more job i zi zj j k a b c first second =
    settles_then job (PartsBelow job i zi zj j k) (IsThe job (contact_of i zi k zj j)) (PartsBelow job i zi zj j (k + 1)) a b c (λ x p. (p.0.0.is, part_cases job i zi zj j k x p)) first second

pub zones_more : (job : Job) (i zj j z : ℕ) (a b c : List Contact) → Settles job (ZonesBelow job i zj j z) a b → Settles job (AtZones job i z zj j) b c → Settles job (ZonesBelow job i zj j (z + 1)) a c
zones_more job i zj j z a b c first second =
    settles_then job (ZonesBelow job i zj j z) (AtZones job i z zj j) (ZonesBelow job i zj j (z + 1)) a b c (λ x p. (p.0.0.is, cases x p (below_or_at x.zi z p.1))) first second
  where
    cases : (x : Contact) → ZonesBelow job i zj j (z + 1) x → (x.zi < z) ⊎ (x.zi ≡ z) → ZonesBelow job i zj j z x ⊎ AtZones job i z zj j x
    cases x p (inl l) = inl (p.0, l)
    cases x p (inr e) = inr (p.0.0, p.0.1, e)

pub later_more : (job : Job) (i j z : ℕ) (a b c : List Contact) → Settles job (LaterBelow job i j z) a b → Settles job (AtZone job i z j) b c → Settles job (LaterBelow job i j (z + 1)) a c
later_more job i j z a b c first second =
    settles_then job (LaterBelow job i j z) (AtZone job i z j) (LaterBelow job i j (z + 1)) a b c (λ x p. (p.0.is, cases x p (below_or_at x.zj z p.1))) first second
  where
    cases : (x : Contact) → LaterBelow job i j (z + 1) x → (x.zj < z) ⊎ (x.zj ≡ z) → LaterBelow job i j z x ⊎ AtZone job i z j x
    cases x p (inl l) = inl (p.0, l)
    cases x p (inr e) = inr (p.0, e)

-- ---- one of a list
pub in_at : {A : Type 0} (xs : List A) (k : ℕ) (x : A) → k < length xs → x ≡ get_or xs k x → In x xs
in_at [] k x l e = absurd (omega (arith, l))
in_at (y ∷ xs) zero x l e = inl e
in_at (y ∷ xs) (suc k) x l e = inr (in_at xs k x (omega (arith, l)) e)

pub covered_at : (job : Job) (kept : List Contact) (c : Contact) (k : ℕ) (x : Contact) → k < length kept → x ≡ get_or kept k x → All (IsOf job c.i c.j) kept → Covers (points_of job x) (points_of job c) → IsCovered job kept c
covered_at job kept c k x l e all covers =
    let i = in_at kept k x l e in
    let of = All-in (IsOf job c.i c.j) kept x all i in
    record { by = x; member = i; is = of.is; earlier = of.earlier; later = of.later; covers = covers }

pub covered_get : (job : Job) (kept : List Contact) (c : Contact) (k : ℕ) (d : Contact) → k < length kept → All (IsOf job c.i c.j) kept → Covers (points_of job (get_or kept k d)) (points_of job c) → IsCovered job kept c
covered_get job kept c k d l all covers = covered_at job kept c k (get_or kept k d) l (any_default kept k d (get_or kept k d) l) all covers
