-- A job's scene agrees with the scene of the files that it was made from.
--
--   outline_itself     a list has the outline that it has
--   outline_of         and that of its corners
--   parts_themselves   parts are the same as themselves, where a printer keeps them as they are listed
--   zones_of           what the contract of an object says of its zones
--   outline_where_held, free   the zones that hold a band have the outline of its spots, and where none does it has no spots
--   agree_with_job     the scene of the files agrees with that of the job
--   same_plans_of_job  so both have the same valid plans
--   same_least_of_job  and the same least extents
use Rattle.std.proofs.Common.{◌≡◌, ◌<◌, ℕ, zero, suc, Bool, true, false, cond, List, [], ◌∷◌, length, All, Contains, Some, refl, sym, subst, ap, ◌∙◌, arith, inl, inr, ◌≢◌}
use Rattle.std.specs.Prelude.{◌↔◌, slice_index_or, find, nat_le}
use Rattle.std.proofs.lemmas.Bool.{true≢false, leb-true, le-leb, and_parts}
use Rattle.std.specs.List.{AllZip}
use Rattle.integer_laws.specs.Members.{In}
use Rattle.integer_laws.specs.Laws.Members.{All-in, All-from_in, In-from_contains}
use Rattle.seq_model.specs.declared.job.Job.{Job}
use Rattle.seq_model.specs.declared.job.Object.{Object}
use Rattle.seq_model.specs.declared.job.Zone.{Zone}
use Rattle.seq_model.specs.declared.mesh.Facet.{Facet}
use Rattle.seq_model.specs.declared.plan.Plan.{Plan}
use Rattle.seq_model.specs.declared.printer.Part.{Part}
use Rattle.seq_model.specs.declared.printer.Printer.{Printer}
use Rattle.seq_model.specs.declared.printer.Spot.{Spot}
use Rattle.seq_model.specs.Jobs.{scene_of_job, holds_band, corners_or_none, no_object, object_at}
use Rattle.seq_model.specs.Outlines.{Within}
use Rattle.seq_model.specs.Scenes.{Valid, Least, scene_of_files, description_of, facets_of}
use Rattle.seq_model.specs.Points.{at_spot}
use Rattle.outline_laws.specs.Laws.Means.{member_within}
use Rattle.mesh_slices.specs.Agreement.{SameOutline, SamePart, Agree, HasZonesOf, IsMadeFrom}
use Rattle.mesh_slices.specs.Laws.Agreeing.{same_plans, same_least}
use Rattle.mesh_slices.specs.Objects.{IsOutlineOf, HoldsBand, AreZonesOf, IsObjectOf, spots_in}

-- ---- outlines
pub outline_itself : (S : List Spot) → SameOutline S S
outline_itself S = record { inner = λ q. (λ m. m, λ m. m); within_second = itself; within_first = itself }
  where
    itself : All (λ s. Within S (at_spot s)) S
    itself = All-from_in (λ s. Within S (at_spot s)) S (λ s i. member_within s S i)

pub outline_of : (S C : List Spot) → IsOutlineOf S C → SameOutline S C
outline_of S C o = record {
  inner = λ q. ((o.inner q).1, (o.inner q).0);
  within_second = o.within;
  within_first = All-from_in (λ s. Within S (at_spot s)) C (λ s i. member_within s S (In-from_contains S s (All-in (Contains S) C s o.members i)));
}

pub parts_themselves : (ps : List Part) → AllZip SamePart ps ps
parts_themselves [] = tt
parts_themselves (p ∷ ps) = (record { lo = refl; hi = refl; outline = outline_itself p.corners }, parts_themselves ps)

-- ---- the zones of an object
pub zones_of : (name : List ℕ) (facets : List Facet) (printer : Printer) (o : Object) → IsObjectOf name facets printer o → HasZonesOf printer facets o
zones_of name facets printer o is = record { bands = is.bands; zones = is.zones }

filled : (s : Spot) (S : List Spot) → (s ∷ S) ≢ []
filled s S e = let n = ap length e in absurd (omega arith)

pub outline_where_held : (S : ℕ → List Spot) (bands : ℕ) (zones : List Zone) → AreZonesOf S bands zones → (b : ℕ) → b < bands → (z : Zone) → In z zones → HoldsBand b z → SameOutline (S b) z.corners
outline_where_held S bands zones are b h z i holds = by (S b) refl
  where
    by : (T : List Spot) → S b ≡ T → SameOutline (S b) z.corners
    by [] e = absurd (All-in (λ y. HoldsBand b y → ⊥) zones z (are.without_spots b h e) i holds)
    by (s ∷ T) e =
        let one = are.with_spots b h (λ f. filled s T (subst (λ U. U ≡ []) e f)) in
        let same = All-in (λ y. HoldsBand b y → y ≡ one.zone) zones z one.only i holds in
        subst (λ y. SameOutline (S b) y.corners) (sym same) (outline_of (S b) one.zone.corners one.outline)

pub free : (S : ℕ → List Spot) (bands : ℕ) (zones : List Zone) → AreZonesOf S bands zones → (b : ℕ) → b < bands → ((z : Zone) → In z zones → HoldsBand b z → ⊥) → S b ≡ []
free S bands zones are b h none = by (S b) refl
  where
    by : (T : List Spot) → S b ≡ T → S b ≡ []
    by [] e = e
    by (s ∷ T) e =
        let one = are.with_spots b h (λ f. filled s T (subst (λ U. U ≡ []) e f)) in
        absurd (none one.zone (In-from_contains zones one.zone one.member) one.holds)

holds_of : (b : ℕ) (z : Zone) → holds_band b z ≡ true → HoldsBand b z
holds_of b z e =
    let t = and_parts (nat_le z.first b) (nat_le b z.last) e in
    record { from = leb-true z.first b t.0; to = leb-true b z.last t.1 }

held_by : (b : ℕ) (z : Zone) → HoldsBand b z → holds_band b z ≡ true
held_by b z h = rw (le-leb z.first b h.from, le-leb b z.last h.to) refl

-- the first zone that holds the band stands for it
looked_up : (b : ℕ) (zones : List Zone) (S : List Spot) → ((z : Zone) → In z zones → HoldsBand b z → SameOutline S z.corners) → (((z : Zone) → In z zones → HoldsBand b z → ⊥) → S ≡ [])
    → SameOutline S (corners_or_none (find (holds_band b) zones))
looked_up b [] S h f = subst (λ T. SameOutline T []) (sym (f (λ z i. absurd i))) (outline_itself [])
looked_up b (z ∷ zs) S h f = by (holds_band b z) refl (λ g. looked_up b zs S (λ y i. h y (inr i)) g)
  where
    rest : holds_band b z ≡ false → ((y : Zone) → In y zs → HoldsBand b y → ⊥) → (y : Zone) → In y (z ∷ zs) → HoldsBand b y → ⊥
    rest e none y (inl same) holds = true≢false (sym (held_by b z (subst (HoldsBand b) same holds)) ∙ e)
    rest e none y (inr i) holds = none y i holds

    by : (t : Bool) → holds_band b z ≡ t → ((((y : Zone) → In y zs → HoldsBand b y → ⊥) → S ≡ []) → SameOutline S (corners_or_none (find (holds_band b) zs)))
        → SameOutline S (corners_or_none (cond t (Some z) (find (holds_band b) zs)))
    by true e more = h z (inl refl) (holds_of b z e)
    by false e more = more (λ none. f (rest e none))

-- ---- scenes
object_of : (printer : Printer) (meshes : List (List Facet)) (objects : List Object) → AllZip (HasZonesOf printer) meshes objects → (o : ℕ) → o < length meshes
    → HasZonesOf printer (slice_index_or meshes o []) (slice_index_or objects o no_object)
object_of printer [] objects z o h = absurd (omega arith)
object_of printer (m ∷ ms) [] z o h = absurd z
object_of printer (m ∷ ms) (x ∷ xs) z zero h = z.0
object_of printer (m ∷ ms) (x ∷ xs) z (suc o) h = object_of printer ms xs z.1 o (omega arith)

as_many : (printer : Printer) (meshes : List (List Facet)) (objects : List Object) → AllZip (HasZonesOf printer) meshes objects → length meshes ≡ length objects
as_many printer [] [] z = refl
as_many printer [] (x ∷ xs) z = absurd z
as_many printer (m ∷ ms) [] z = absurd z
as_many printer (m ∷ ms) (x ∷ xs) z = ap suc (as_many printer ms xs z.1)

pub agree_with_job : (listed : List Part) (meshes : List (List Facet)) (job : Job) → IsMadeFrom listed meshes job → Agree (scene_of_files (description_of job.printer listed) meshes) (scene_of_job job)
agree_with_job listed meshes job made = record {
  objects = as_many job.printer meshes job.objects made.objects;
  bands = λ o h. sym (of o h).bands;
  outlines = λ o b h k.
      let has = of o h in
      let S = spots_in job.printer (facets_of meshes o) in
      let below = subst (λ n. b < n) (sym has.bands) k in
      looked_up b (object_at job o).zones (S b) (outline_where_held S (object_at job o).bands (object_at job o).zones has.zones b below) (free S (object_at job o).bands (object_at job o).zones has.zones b below);
  parts = made.parts;
  width = refl;
  depth = refl;
  grid = refl;
}
  where
    of : (o : ℕ) → o < length meshes → HasZonesOf job.printer (facets_of meshes o) (object_at job o)
    of o h = object_of job.printer meshes job.objects made.objects o h

pub same_plans_of_job : (listed : List Part) (meshes : List (List Facet)) (job : Job) → IsMadeFrom listed meshes job → (e : ℕ) (plan : Plan)
    → Valid (scene_of_files (description_of job.printer listed) meshes) e plan ↔ Valid (scene_of_job job) e plan
same_plans_of_job listed meshes job made = same_plans _ _ (agree_with_job listed meshes job made)

pub same_least_of_job : (listed : List Part) (meshes : List (List Facet)) (job : Job) → IsMadeFrom listed meshes job → (e : ℕ)
    → Least (scene_of_files (description_of job.printer listed) meshes) e ↔ Least (scene_of_job job) e
same_least_of_job listed meshes job made = same_least _ _ (agree_with_job listed meshes job made)
