-- What a look at the pairs of objects finds at a site.
--
--   choices_of k           the choices of a contact's sides, in their order
--   IsHit s i j k          a kept contact of i as the earlier object and j, which collides
--   NoneHits s n kept      none of the first n kept contacts collides
--   IsNearest s i j n kept best   the best one of them is a hit, or none collides
--   IsOpenable s k         a kept contact that collides, of an order of the path
--   IsCandidate s c        a split that could be made: a contact that may be opened, or an unordered pair that collides both ways
--   IsForcedOrder s o      the order is forced, and its two objects are unordered on the path
--   IsSettledWay s forced a b   a doesn't collide with b where it is before b on the path; and where the two are unordered and it
--                          does, b before a is among the forced orders
--   IsSettled s forced a b      that, both ways
--   IsPairLook s i j look  what each answer on two objects shows
--   AreSettled s i j forced     the pairs that come before (i, j) are settled, the lower object of each written first
--   IsSurveyed s i j best forced   what is known when these were looked at
use Rattle.std.specs.Prelude.{◌≡◌, ℕ, ◌<◌, List, [], ◌∷◌, All, Option, Some, None, MatchOption, length, map, slice_index_or, Contains}
use Rattle.node_looks.specs.Held.{ComesBefore}
use Rattle.node_looks.specs.Sites.{ContactHits, Hits, values}
use Rattle.node_looks.specs.declared.hits.Hit.{Hit}
use Rattle.node_looks.specs.declared.site.Site.{Site}
use Rattle.node_looks.specs.declared.survey.Candidate.{Candidate}
use Rattle.node_looks.specs.declared.survey.Candidate.TheVariants as Candidates
use Rattle.node_looks.specs.declared.survey.PairLook.{PairLook}
use Rattle.node_looks.specs.declared.survey.PairLook.TheVariants as PairLooks
use Rattle.object_orders.specs.Orders.{IsAmong}
use Rattle.pair_constraints.specs.Keeping.{IsKept}
use Rattle.pair_constraints.specs.declared.kept.Kept.{Kept}
use Rattle.pair_constraints.specs.declared.limits.Limit.{Limit}
use Rattle.plan_laws.specs.Looking.{OnPath}
use Rattle.seq_model.specs.Splits.{IsForced, IsUnordered}
use Rattle.seq_model.specs.declared.tree.Choice.{Choice}
use Rattle.seq_model.specs.declared.tree.Choice.TheVariants as Choices

abbrev pub choices_of : Kept → List Choice
choices_of k = map (λ (l : Limit). Choices.Side k.contact l.dir) k.limits

pub record IsHit (s : Site) (i j : ℕ) (k : Kept) : Type 0 where
  pub kept : IsKept s.job.now k
  pub earlier : k.contact.i ≡ i
  pub later : k.contact.j ≡ j
  pub collides : ContactHits s k.contact

abbrev pub NoneHits : Site → ℕ → List Kept → Type 0
NoneHits s n kept = (m : ℕ) (d : Kept) → m < n → ContactHits s (slice_index_or kept m d).contact → ⊥

abbrev pub IsNearest : Site → ℕ → ℕ → ℕ → List Kept → Option Hit → Type 0
IsNearest s i j n kept None = NoneHits s n kept
IsNearest s i j n kept (Some hit) = IsHit s i j hit.kept.now

pub record IsOpenable (s : Site) (k : Kept) : Type 0 where
  pub kept : IsKept s.job.now k
  pub ordered : OnPath s.path.now k.contact.i k.contact.j
  pub collides : ContactHits s k.contact

abbrev pub IsCandidate : Site → Candidate → Type 0
IsCandidate s (Candidates.Side kept) = IsOpenable s kept.now
IsCandidate s (Candidates.Order i j) =
    (i < j) × (j < length s.job.now.objects) × IsUnordered s.path.now i j × Hits s i j × Hits s j i

abbrev pub IsForcedOrder : Site → ℕ × ℕ → Type 0
IsForcedOrder s o =
    IsAmong (length s.job.now.objects) o × IsForced s.job.now s.extent (values s) o.0 o.1 × IsUnordered s.path.now o.0 o.1

pub record IsSettledWay (s : Site) (forced : List (ℕ × ℕ)) (a b : ℕ) : Type 0 where
  pub on_path : OnPath s.path.now a b → Hits s a b → ⊥
  pub unordered : IsUnordered s.path.now a b → Hits s a b → Contains forced (b, a)

pub record IsSettled (s : Site) (forced : List (ℕ × ℕ)) (a b : ℕ) : Type 0 where
  pub there : IsSettledWay s forced a b
  pub back : IsSettledWay s forced b a

abbrev pub IsPairLook : Site → ℕ → ℕ → PairLook → Type 0
IsPairLook s i j PairLooks.Settled = IsSettled s [] i j
IsPairLook s i j (PairLooks.Forced a b) = IsForcedOrder s (a, b) × IsSettled s ((a, b) ∷ []) i j
IsPairLook s i j (PairLooks.Split c price) = IsCandidate s c

abbrev pub AreSettled : Site → ℕ → ℕ → List (ℕ × ℕ) → Type 0
AreSettled s i j forced = (a b : ℕ) → a < b → b < length s.job.now.objects → ComesBefore a b i j → IsSettled s forced a b

pub record IsSurveyed (s : Site) (i j : ℕ) (best : Option Candidate) (forced : List (ℕ × ℕ)) : Type 0 where
  pub each : All (IsForcedOrder s) forced
  pub found : MatchOption best (AreSettled s i j forced) (IsCandidate s)
