-- It is enough to look at contacts that cover the others.
--
--   inner_of_covered     what is inner to a list is inner to each list that covers it
--   enough_contacts      where no kept contact of two objects collides, at whatever places, none of theirs does
--   enough_objects       and then the objects don't
use Rattle.std.proofs.Common.{◌≡◌, ◌≢◌, ℕ, List, ◌∙◌, arith, ℤ, ◌+ℤ◌, ◌*ℤ◌, ◌≤ℤ◌, ◌<ℤ◌}
use Rattle.std.proofs.lemmas.Int.{ints}
use Rattle.integer_laws.specs.Divisors.{IsPrimitive}
use Rattle.integer_laws.specs.Members.{In}
use Rattle.integer_laws.specs.Laws.Members.{In-from_contains}
use Rattle.model_laws.specs.Laws.Collisions.{collides_by_contact}
use Rattle.outline_laws.specs.Corners.{HasArea}
use Rattle.outline_laws.specs.Laws.Means.{inner_below}
use Rattle.outline_laws.specs.Laws.Sides.{greatest_of, some_below, inner_of_free}
use Rattle.search_laws.specs.Covering.{Covers, AreEnough}
use Rattle.search_laws.specs.Laws.Gaps.{area_of_contact}
use Rattle.search_laws.specs.Laws.Places.{overlap_is_inner}
use Rattle.seq_model.specs.Contacts.{ContactCollides, points_of}
use Rattle.seq_model.specs.Jobs.{zone_at, part_at, scene_of_job}
use Rattle.seq_model.specs.Outlines.{Inner}
use Rattle.seq_model.specs.Points.{Point, IsPoint, minus}
use Rattle.seq_model.specs.Scenes.{Collides}
use Rattle.seq_model.specs.Sides.{along, greatest_along}
use Rattle.seq_model.specs.declared.job.Job.{Job}
use Rattle.seq_model.specs.declared.printer.Spot.{Spot}
use Rattle.seq_model.specs.declared.tree.Contact.{Contact}
use Rattle.seq_model.specs.declared.tree.Dir.{Dir}

never : {a b : ℤ} → a <ℤ b → b ≤ℤ a → ⊥
never h k = absurd (omega (arith, ints))

-- what is inner to a list with area stays below any bound of it along any direction
below_bound : (S : List Spot) (q : Point) (dir : Dir) (g : ℤ) → HasArea S → IsPrimitive dir.x dir.y → greatest_along dir S ≤ℤ g → Inner S q → (dir.x *ℤ q.x +ℤ dir.y *ℤ q.y) <ℤ (g *ℤ q.d)
below_bound S q dir g area prim most m =
    let is = greatest_of dir S area.i (In-from_contains S area.i area.i_in) in
    let bound : (s : Spot) → In s S → along dir s ≤ℤ g = λ s i. under (is.bound s i) most in
    let low = some_below S dir g area prim bound in
    inner_below dir.x dir.y g S q bound low.at low.member low.lower m
  where
    under : {a b c : ℤ} → a ≤ℤ b → b ≤ℤ c → a ≤ℤ c
    under h k = omega (arith, ints)

pub inner_of_covered : (S T : List Spot) (q : Point) → HasArea S → HasArea T → Covers T S → Inner S q → Inner T q
inner_of_covered S T q s t covers m =
    inner_of_free T q t m.point (λ dir side beyond. never (below_bound S q dir (greatest_along dir T) s side.primitive (covers dir side) m) beyond)

-- ---- contacts
pub enough_contacts : (job : Job) (kept : List Contact) → AreEnough job kept → (p r : Point) → IsPoint p → IsPoint r → (i j : ℕ)
    → ((k : Contact) → In k kept → k.i ≡ i → k.j ≡ j → ContactCollides job k p r → ⊥) → (c : Contact) → c.i ≡ i → c.j ≡ j → ContactCollides job c p r → ⊥
enough_contacts job kept enough p r at place i j none c ci cj hits =
    let k = enough c hits.is in
    let inner = (overlap_is_inner (zone_at job c.i c.zi).corners (zone_at job c.j c.zj).corners (part_at job c.part).corners p r at place).0 hits.overlap in
    let covered = inner_of_covered (points_of job c) (points_of job k.by) (minus r p) (area_of_contact job c hits.is) (area_of_contact job k.by k.is) k.covers inner in
    none k.by k.member (k.earlier ∙ ci) (k.later ∙ cj)
    (record { is = k.is; overlap = (overlap_is_inner (zone_at job k.by.i k.by.zi).corners (zone_at job k.by.j k.by.zj).corners (part_at job k.by.part).corners p r at place).1 covered })

pub enough_objects : (job : Job) (kept : List Contact) → AreEnough job kept → (p r : Point) → IsPoint p → IsPoint r → (i j : ℕ) → i ≢ j
    → ((k : Contact) → In k kept → k.i ≡ i → k.j ≡ j → ContactCollides job k p r → ⊥) → Collides (scene_of_job job) i p j r → ⊥
enough_objects job kept enough p r at place i j apart none hits =
    let c = collides_by_contact job i j p r apart hits in
    enough_contacts job kept enough p r at place i j none c.contact c.earlier c.later c.collides
