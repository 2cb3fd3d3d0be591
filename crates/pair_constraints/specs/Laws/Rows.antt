-- Rows of pairs.
--
--   IsRow job i row       for each later object what is kept of it and object i
--   AreRows job rows      for each earlier object its row
--   contacts_are          they are the contacts of the job
--   contacts_enough       and they cover all
use Rattle.std.proofs.Common.{◌≡◌, ℕ, zero, suc, ◌<◌, List, [], ◌∷◌, length, get_or, flat_map, refl, sym, subst, arith, inl, inr}
use Rattle.integer_laws.specs.Members.{In}
use Rattle.integer_laws.specs.Laws.Members.{In-append_left, In-append_right, In-map, In-map_cases}
use Rattle.search_laws.specs.Covering.{AreEnough, IsCovered}
use Rattle.seq_model.specs.declared.job.Job.{Job}
use Rattle.pair_constraints.specs.Maximal.{AreContacts, IsPair, contacts_of, kept_contacts, kept_of}
use Rattle.pair_constraints.specs.Laws.Numbered.{AreBy}
use Rattle.pair_constraints.specs.declared.contacts.Contacts.{Contacts}
use Rattle.pair_constraints.specs.declared.kept.Kept.{Kept}

pub record IsRow (job : Job) (i : ℕ) (row : List (List Kept)) : Type 0 where
  pub many : length row ≡ length job.objects
  pub each : AreBy (IsPair job i) row

pub record AreRows (job : Job) (rows : List (List (List Kept))) : Type 0 where
  pub many : length rows ≡ length job.objects
  pub each : AreBy (IsRow job) rows

pub contacts_are : (job : Job) (c : Contacts) → AreRows job c.rows → AreContacts job c
contacts_are job c are = record {
  many = are.many;
  wide = λ i l. (are.each i [] (subst (λ n. i < n) (sym are.many) l)).many;
  pair = λ i j l m. let row = are.each i [] (subst (λ n. i < n) (sym are.many) l) in row.each j [] (subst (λ n. j < n) (sym row.many) m);
}

in_at : {A : Type 0} (xs : List A) (i : ℕ) (d : A) → i < length xs → In (get_or xs i d) xs
in_at [] i d l = absurd (omega (arith, l))
in_at (x ∷ xs) zero d l = inl refl
in_at (x ∷ xs) (suc i) d l = inr (in_at xs i d (omega (arith, l)))

in_flat : {A B : Type 0} (f : A → List B) (x : A) (y : B) (xs : List A) → In x xs → In y (f x) → In y (flat_map f xs)
in_flat f x y [] i j = absurd i
in_flat f x y (z ∷ zs) (inl e) j = In-append_left (f z) (flat_map f zs) y (subst (λ t. In y (f t)) e j)
in_flat f x y (z ∷ zs) (inr i) j = In-append_right (f z) (flat_map f zs) y (in_flat f x y zs i j)

pub contacts_enough : (job : Job) (c : Contacts) → AreRows job c.rows → AreEnough job (kept_contacts c)
contacts_enough job c are x is = record { by = by.by; member = member; is = by.is; earlier = by.earlier; later = by.later; covers = by.covers }
  where
    pair : IsPair job x.i x.j (kept_of c x.i x.j)
    pair = (contacts_are job c are).pair x.i x.j is.i_in is.j_in

    by : IsCovered job (contacts_of (kept_of c x.i x.j)) x
    by = pair.enough x (record { is = is; earlier = refl; later = refl })

    wide : length (get_or c.rows x.i []) ≡ length job.objects
    wide = (contacts_are job c are).wide x.i is.i_in

    member : In by.by (kept_contacts c)
    member =
        let k = In-map_cases (λ (k : Kept). k.contact) (kept_of c x.i x.j) by.by by.member in
        let row = in_at c.rows x.i [] (subst (λ n. x.i < n) (sym are.many) is.i_in) in
        let kept = in_at (get_or c.rows x.i []) x.j [] (subst (λ n. x.j < n) (sym wide) is.j_in) in
        let deep = in_flat (λ (kept : List Kept). kept) (kept_of c x.i x.j) k.0 (get_or c.rows x.i []) kept k.1 in
        let found = in_flat (λ (row : List (List Kept)). flat_map (λ (kept : List Kept). kept) row) (get_or c.rows x.i []) k.0 c.rows row deep in
        subst (λ t. In t (kept_contacts c)) (sym k.2) (In-map (λ (k : Kept). k.contact) (flat_map (λ (row : List (List Kept)). flat_map (λ (kept : List Kept). kept) row) c.rows) k.0 found)
