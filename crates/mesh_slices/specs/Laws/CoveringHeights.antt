-- Each point of a mesh lies in a band.
--
--   In-heights      the height of a corner of a facet is one of the heights of the mesh
--   mean_height     a mean of the corners of a facet lies neither below the least height nor above the greatest
--   some_step       a number from 0 to n steps lies in one of the n steps
--   has_band        so each point of a facet lies in one of the bands
use Rattle.std.proofs.Common.{◌≡◌, ℕ, zero, suc, ◌<◌, ◌≤◌, max, List, [], ◌∷◌, Contains, refl, sym, arith, ℤ, pos, negsuc, ◌+ℤ◌, ◌-ℤ◌, ◌*ℤ◌, ◌≤ℤ◌, ◌<ℤ◌, unsigned_abs}
use Rattle.std.proofs.lemmas.Int.{ints, by_lt_z, fold-int_min_bounds, fold-int_max_bounds}
use Rattle.std.proofs.lemmas.List.Elements.{All-cons}
use Rattle.integer_laws.specs.Laws.Ring.{expand}
use Rattle.integer_laws.specs.Laws.Order.{le_from, le_of_same, add_le, mul_le, cancel_le}
use Rattle.integer_laws.specs.Quotients.{ceil}
use Rattle.integer_laws.specs.Laws.Quotients.{ceil_is}
use Rattle.integer_laws.specs.Weights.{weigh, total}
use Rattle.integer_laws.specs.Laws.Weights.{weigh_at_most, weigh-linear}
use Rattle.integer_laws.specs.Members.{In}
use Rattle.integer_laws.specs.Laws.Members.{All-in, In-from_contains, In-map}
use Rattle.seq_model.specs.declared.mesh.Facet.{Facet}
use Rattle.seq_model.specs.declared.mesh.Point3.{Point3}
use Rattle.seq_model.specs.Bands.{vertices, heights, least_z, height_of, band_count}
use Rattle.integer_laws.specs.Extremes.{least, greatest}
use Rattle.mesh_slices.specs.Cover.{SpacePoint, vertices_of, LiesOn, HasBand}
use Rattle.mesh_slices.specs.Laws.CoveringSpots.{in_flat}

-- ---- the heights of a mesh
pub In-heights : (facets : List Facet) (f : Facet) (p : Point3) → In f facets → In p (vertices_of f) → In p.z (heights facets)
In-heights facets f p i j = In-map (λ (r : Point3). r.z) (vertices facets) p (in_flat vertices_of f p facets i j)

least_below : (ns : List ℤ) (n : ℤ) → In n ns → least ns ≤ℤ n
least_below [] n i = absurd i
least_below (a ∷ ns) n i = let b = fold-int_min_bounds a ns (least (a ∷ ns)) refl in All-in (λ m. least (a ∷ ns) ≤ℤ m) (a ∷ ns) n (All-cons (λ m. least (a ∷ ns) ≤ℤ m) a ns b.0 b.1) i

greatest_above : (ns : List ℤ) (n : ℤ) → In n ns → n ≤ℤ greatest ns
greatest_above [] n i = absurd i
greatest_above (a ∷ ns) n i = let b = fold-int_max_bounds a ns (greatest (a ∷ ns)) refl in All-in (λ m. m ≤ℤ greatest (a ∷ ns)) (a ∷ ns) n (All-cons (λ m. m ≤ℤ greatest (a ∷ ns)) a ns b.0 b.1) i

-- ---- means
positive : {n : ℤ} → pos 1 ≤ℤ n → pos 0 <ℤ n
positive h = omega (arith, ints)

nonneg : {n : ℤ} → pos 1 ≤ℤ n → pos 0 ≤ℤ n
nonneg h = omega (arith, ints)

mean_from : (low : ℤ) (f : Facet) (q : SpacePoint) → ((p : Point3) → In p (vertices_of f) → low ≤ℤ p.z) → LiesOn f q → (low *ℤ q.d) ≤ℤ q.z
mean_from low f q each on = by q.d q.z (weigh (λ p. p.z) (vertices_of f) on.w) (total (vertices_of f) on.w) (positive on.some) (nonneg on.positive) on.z (turned _ _ _ (weigh-linear (negsuc 0) (pos 0) (λ (p : Point3). p.z) (λ (p : Point3). p.z) (vertices_of f) on.w) (weigh_at_most (λ (p : Point3). negsuc 0 *ℤ p.z +ℤ pos 0 *ℤ p.z) (negsuc 0 *ℤ low) (vertices_of f) on.w on.weights (λ p i. below p.z (each p i))))
  where
    below : (z : ℤ) → low ≤ℤ z → (negsuc 0 *ℤ z +ℤ pos 0 *ℤ z) ≤ℤ (negsuc 0 *ℤ low)
    below z h = le_from h (simp expand (omega (arith, ints)))

    turned : (v h t : ℤ) → v ≡ negsuc 0 *ℤ h +ℤ pos 0 *ℤ h → v ≤ℤ ((negsuc 0 *ℤ low) *ℤ t) → (low *ℤ t) ≤ℤ h
    turned v h t e k =
        let same : (negsuc 0 *ℤ low) *ℤ t ≡ negsuc 0 *ℤ (low *ℤ t) = simp expand in
        let zero : pos 0 *ℤ h ≡ pos 0 = simp expand in
        omega (arith, ints, e, k, same, zero)

    by : (d z h t : ℤ) → pos 0 <ℤ t → pos 0 ≤ℤ d → d *ℤ h ≡ z *ℤ t → (low *ℤ t) ≤ℤ h → (low *ℤ d) ≤ℤ z
    by d z h t p k e above = cancel_le t p (le_from (add_le (mul_le d k above) (le_of_same e)) (simp expand (omega (arith, ints))))

mean_to : (high : ℤ) (f : Facet) (q : SpacePoint) → ((p : Point3) → In p (vertices_of f) → p.z ≤ℤ high) → LiesOn f q → q.z ≤ℤ (high *ℤ q.d)
mean_to high f q each on = by q.d q.z (weigh (λ p. p.z) (vertices_of f) on.w) (total (vertices_of f) on.w) (positive on.some) (nonneg on.positive) on.z (weigh_at_most (λ (p : Point3). p.z) high (vertices_of f) on.w on.weights each)
  where
    by : (d z h t : ℤ) → pos 0 <ℤ t → pos 0 ≤ℤ d → d *ℤ h ≡ z *ℤ t → h ≤ℤ (high *ℤ t) → z ≤ℤ (high *ℤ d)
    by d z h t p k e below = cancel_le t p (le_from (add_le (mul_le d k below) (le_of_same (sym e))) (simp expand (omega (arith, ints))))

-- ---- steps
record InStep (D t : ℤ) (n : ℕ) : Type 0 where
  pub step : ℕ
  pub below : step < n
  pub from : (D *ℤ pos step) ≤ℤ t
  pub to : t ≤ℤ (D *ℤ pos step +ℤ D)

one_more : (D : ℤ) (k : ℕ) → D *ℤ pos (suc k) ≡ D *ℤ pos k +ℤ D
one_more D k = let e : pos (suc k) ≡ pos k +ℤ pos 1 = omega (arith, ints) in rw e (simp expand)

some_step : (D t : ℤ) (n : ℕ) → pos 0 ≤ℤ t → t ≤ℤ (D *ℤ pos (suc n)) → InStep D t (suc n)
some_step D t zero h k = record { step = 0; below = omega arith; from = omega (arith, ints); to = let e = one_more D 0 in omega (arith, ints) }
some_step D t (suc n) h k =
    by_lt_z (D *ℤ pos (suc n)) t
    (λ past. record { step = suc n; below = omega arith; from = omega (arith, ints); to = let e = one_more D (suc n) in omega (arith, ints) })
    (λ before. let r = some_step D t n h before in record { step = r.step; below = let b = r.below in omega arith; from = r.from; to = r.to })

-- so many steps are at least as high
enough : (height step : ℤ) → pos 0 <ℤ step → height ≤ℤ (step *ℤ pos (max 1 (unsigned_abs (ceil height step))))
enough height step p =
    let c = ceil_is height step p in
    le_from (add_le c.high (mul_le step (less p) (at_most (ceil height step)))) (simp expand (omega (arith, ints)))
  where
    less : {n : ℤ} → pos 0 <ℤ n → pos 0 ≤ℤ n
    less h = omega (arith, ints)

    at_most : (n : ℤ) → n ≤ℤ pos (max 1 (unsigned_abs n))
    at_most (pos n) = omega (arith, ints)
    at_most (negsuc n) = omega (arith, ints)

pub has_band : (facets : List Facet) (step : ℤ) (f : Facet) (q : SpacePoint) → pos 1 ≤ℤ step → Contains facets f → LiesOn f q → HasBand facets step q
has_band facets step f q p c on =
    let low = least_z facets in
    let top = greatest (heights facets) in
    let count = band_count facets step in
    let i = In-from_contains facets f c in
    let from = mean_from low f q (λ r j. least_below (heights facets) r.z (In-heights facets f r i j)) on in
    let to = mean_to top f q (λ r j. greatest_above (heights facets) r.z (In-heights facets f r i j)) on in
    let s = in_count (step *ℤ q.d) (q.z -ℤ low *ℤ q.d) count (omega arith) (at_least from) (within low top q.z q.d step (pos count) (nonneg on.positive) to (enough (height_of facets) step (positive p))) in
    record { band = s.step; below_count = s.below; lies = record { from = above low q.z q.d step (pos s.step) s.from; to = below low q.z q.d step (pos s.step) s.to } }
  where
    at_least : {a b : ℤ} → a ≤ℤ b → pos 0 ≤ℤ (b -ℤ a)
    at_least h = omega (arith, ints)

    in_count : (D t : ℤ) (n : ℕ) → 1 ≤ n → pos 0 ≤ℤ t → t ≤ℤ (D *ℤ pos n) → InStep D t n
    in_count D t zero some h k = absurd (omega arith)
    in_count D t (suc n) some h k = some_step D t n h k

    within : (low top z d s n : ℤ) → pos 0 ≤ℤ d → z ≤ℤ (top *ℤ d) → (top -ℤ low) ≤ℤ (s *ℤ n) → (z -ℤ low *ℤ d) ≤ℤ ((s *ℤ d) *ℤ n)
    within low top z d s n p h k = le_from (add_le h (mul_le d p k)) (simp expand (omega (arith, ints)))

    above : (low z d s n : ℤ) → ((s *ℤ d) *ℤ n) ≤ℤ (z -ℤ low *ℤ d) → ((low +ℤ s *ℤ n) *ℤ d) ≤ℤ z
    above low z d s n h = le_from h (simp expand (omega (arith, ints)))

    below : (low z d s n : ℤ) → (z -ℤ low *ℤ d) ≤ℤ ((s *ℤ d) *ℤ n +ℤ s *ℤ d) → z ≤ℤ ((low +ℤ s *ℤ n +ℤ s) *ℤ d)
    below low z d s n h = le_from h (simp expand (omega (arith, ints)))
