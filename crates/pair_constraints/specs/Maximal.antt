-- The maximal contacts of the ordered pairs of a job's objects.
--
--   IsOf job i j c        a contact of the job with these two objects, in this order
--   contacts_of kept      the contacts of what is kept
--   AreApart job k l      neither of the two covers the other
--   IsPair job i j kept   kept contacts of these objects, of which none covers another, and which cover all contacts of theirs
--   kept_of c i j         what is kept of an ordered pair
--   kept_contacts c       the contacts of all pairs
--   AreContacts job c     a row for each earlier object and a pair for each later one
--   IsMaximal job c       only what it covers itself covers it
use Rattle.std.specs.Prelude.{◌≡◌, ℕ, ◌<◌, List, [], length, map, All, AllPairs, slice_index_or}
use Rattle.std.specs.List.{flat_map}
use Rattle.search_laws.specs.Covering.{Covers, IsCovered}
use Rattle.seq_model.specs.Contacts.{IsContact, points_of}
use Rattle.seq_model.specs.declared.job.Job.{Job}
use Rattle.seq_model.specs.declared.tree.Contact.{Contact}
use Rattle.pair_constraints.specs.Keeping.{IsKept}
use Rattle.pair_constraints.specs.declared.contacts.Contacts.{Contacts}
use Rattle.pair_constraints.specs.declared.kept.Kept.{Kept}

pub record IsOf (job : Job) (i j : ℕ) (c : Contact) : Type 0 where
  pub is : IsContact job c
  pub earlier : c.i ≡ i
  pub later : c.j ≡ j

abbrev pub contacts_of : List Kept → List Contact
contacts_of kept = map (λ (k : Kept). k.contact) kept

abbrev pub AreApart : Job → Kept → Kept → Type 0
AreApart job k l = (Covers (points_of job k.contact) (points_of job l.contact) → ⊥) × (Covers (points_of job l.contact) (points_of job k.contact) → ⊥)

pub record IsPair (job : Job) (i j : ℕ) (kept : List Kept) : Type 0 where
  pub each : All (IsKept job) kept
  pub of : All (λ (k : Kept). IsOf job i j k.contact) kept
  pub enough : (c : Contact) → IsOf job i j c → IsCovered job (contacts_of kept) c
  pub apart : AllPairs (AreApart job) kept

abbrev pub kept_of : Contacts → ℕ → ℕ → List Kept
kept_of c i j = slice_index_or (slice_index_or c.rows i []) j []

abbrev pub kept_contacts : Contacts → List Contact
kept_contacts c = contacts_of (flat_map (λ row. flat_map (λ kept. kept) row) c.rows)

pub record AreContacts (job : Job) (c : Contacts) : Type 0 where
  pub many : length c.rows ≡ length job.objects
  pub wide : (i : ℕ) → i < length job.objects → length (slice_index_or c.rows i []) ≡ length job.objects
  pub pair : (i j : ℕ) → i < length job.objects → j < length job.objects → IsPair job i j (kept_of c i j)

pub record IsMaximal (job : Job) (c : Contact) : Type 0 where
  pub is : IsContact job c
  pub most : (d : Contact) → IsOf job c.i c.j d → Covers (points_of job d) (points_of job c) → Covers (points_of job c) (points_of job d)
