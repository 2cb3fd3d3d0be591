-- A mesh has one object.
use Rattle.std.proofs.Common.{◌≡◌, ◌≢◌, ℕ, ◌+◌, ◌<◌, ◌≤◌, ℤ, ◌≤ℤ◌, List, [], ◌∷◌, length, All, Contains, refl, sym, subst, ap, ap₂, ◌∙◌, arith, ⊎_elim, inl, inr}
use Rattle.std.proofs.lemmas.Bool.{cases_lt}
use Rattle.std.proofs.lemmas.Int.{ints}
use Rattle.std.specs.List.{AllPairs}
use Rattle.integer_laws.specs.Members.{In}
use Rattle.integer_laws.specs.Laws.Members.{In-from_contains, All-in, All-from_in}
use Rattle.seq_model.specs.declared.job.Object.{Object}
use Rattle.seq_model.specs.declared.job.Zone.{Zone}
use Rattle.seq_model.specs.declared.mesh.Facet.{Facet}
use Rattle.seq_model.specs.declared.printer.Printer.{Printer}
use Rattle.seq_model.specs.declared.printer.Spot.{Spot}
use Rattle.seq_model.specs.Scenes.{Between, Spans}
use Rattle.seq_model.specs.Soundness.{IsSoundZone, AreSoundZones}
use Rattle.mesh_slices.specs.Objects.{spots_in, IsOutlineOf, HoldsBand, AreZonesOf, IsObjectOf}
use Rattle.mesh_slices.specs.Runs.{IsRunOf, Holds, AreRunsOf}
use Rattle.mesh_slices.specs.Laws.Unique.{one_outline}
use Rattle.mesh_slices.proofs.Assembled.{Rise, first_pairs, rest_pairs}
use Rattle.mesh_slices.proofs.Grown.{no_corners}

-- ---- zones are runs
has_corners : (C : List Spot) → 3 ≤ length C → C ≢ []
has_corners [] h e = absurd (omega arith)
has_corners (c ∷ C) h e = absurd cc

full : (S : ℕ → List Spot) (b : ℕ) (C : List Spot) → C ≢ [] → IsOutlineOf (S b) C → S b ≢ []
full S b C some o e = some (no_corners C (subst (λ l. IsOutlineOf l C) e o))

runs_of : (S : ℕ → List Spot) (n : ℕ) (zones : List Zone) → AreZonesOf S n zones → AreSoundZones n zones → AreRunsOf S n zones
runs_of S n zones a s = record { rise = s.rise; each = All-from_in (IsRunOf S n) zones run; held = held; longest = a.longest }
  where
    held : (b : ℕ) → b < n → S b ≢ [] → Holds zones b
    held b h some = let z = a.with_spots b h some in record { zone = z.zone; member = In-from_contains zones z.zone z.member; holds = z.holds }

    run : (z : Zone) → In z zones → IsRunOf S n z
    run z i =
        let sound = All-in IsSoundZone zones z s.each i in
        record { rises = sound.rises; below_count = below; some = has_corners z.corners sound.area; outline = outline }
      where
        below : z.last < n
        below = All-in (λ z. z.last < n) zones z s.end i

        outline : (b : ℕ) → HoldsBand b z → IsOutlineOf (S b) z.corners
        outline b h =
            let t = h.to in
            let l = below in
            let some : S b ≢ [] = λ e. All-in (λ z. HoldsBand b z → ⊥) zones z (a.without_spots b (omega arith) e) i h in
            let one = a.with_spots b (omega arith) some in
            subst (λ y. IsOutlineOf (S b) y.corners) (sym (All-in (λ z. HoldsBand b z → z ≡ one.zone) zones z one.only i h)) one.outline

-- ---- zones from some band on
record RunsFrom (S : ℕ → List Spot) (n m : ℕ) (zones : List Zone) : Type 0 where
  rise : AllPairs Rise zones
  each : All (IsRunOf S n) zones
  held : (b : ℕ) → m ≤ b → b < n → S b ≢ [] → Holds zones b
  longest : AllPairs (λ y z. z.first ≡ y.last + 1 → z.corners ≢ y.corners) zones
  low : All (λ z. m ≤ z.first) zones

first_run : (S : ℕ → List Spot) (n m : ℕ) (z : Zone) (zones : List Zone) → RunsFrom S n m (z ∷ zones) → IsRunOf S n z
first_run S n m z zones r = All-in (IsRunOf S n) (z ∷ zones) z r.each (inl refl)

first_held : (S : ℕ → List Spot) (n : ℕ) (z : Zone) → IsRunOf S n z → HoldsBand z.first z
first_held S n z r = record { from = omega arith; to = r.rises }

-- no band is held below the first zone
from_first : (S : ℕ → List Spot) (n m b : ℕ) (z : Zone) (zones : List Zone) → RunsFrom S n m (z ∷ zones) → Holds (z ∷ zones) b → z.first ≤ b
from_first S n m b z zones r h = pick h.member
  where
    pick : In h.zone (z ∷ zones) → z.first ≤ b
    pick (inl e) = let held : HoldsBand b z = subst (HoldsBand b) e h.holds in held.from
    pick (inr i) =
        let up = All-in (Rise z) zones h.zone (first_pairs Rise z zones r.rise) i in
        let p = (first_run S n m z zones r).rises in
        let q = h.holds.from in
        omega arith

held_again : (S : ℕ → List Spot) (n m k : ℕ) (y z : Zone) (ys zs : List Zone) → RunsFrom S n m (y ∷ ys) → RunsFrom S n m (z ∷ zs) → (b : ℕ) → HoldsBand b z → Holds (y ∷ ys) b
held_again S n m k y z ys zs r s b h =
    let run = first_run S n m z zs s in
    let low = All-in (λ z. m ≤ z.first) (z ∷ zs) z s.low (inl refl) in
    let p = h.from in
    let q = h.to in
    let l = run.below_count in
    r.held b (omega arith) (omega arith) (full S b z.corners run.some (run.outline b h))

same_first : (S : ℕ → List Spot) (n m : ℕ) (y z : Zone) (ys zs : List Zone) → RunsFrom S n m (y ∷ ys) → RunsFrom S n m (z ∷ zs) → y.first ≡ z.first
same_first S n m y z ys zs r s =
    let a = from_first S n m z.first y ys r (held_again S n m 0 y z ys zs r s z.first (first_held S n z (first_run S n m z zs s))) in
    let b = from_first S n m y.first z zs s (held_again S n m 0 z y zs ys s r y.first (first_held S n y (first_run S n m y ys r))) in
    omega arith

same_corners : (S : ℕ → List Spot) (n m : ℕ) (y z : Zone) (ys zs : List Zone) → RunsFrom S n m (y ∷ ys) → RunsFrom S n m (z ∷ zs) → y.corners ≡ z.corners
same_corners S n m y z ys zs r s =
    let a = first_run S n m y ys r in
    let b = first_run S n m z zs s in
    let o = a.outline y.first (first_held S n y a) in
    let p = b.outline z.first (first_held S n z b) in
    one_outline (S y.first) y.corners z.corners o (subst (λ k. IsOutlineOf (S k) z.corners) (sym (same_first S n m y z ys zs r s)) p)

-- a first zone doesn't end before the other one
not_shorter : (S : ℕ → List Spot) (n m : ℕ) (y z : Zone) (ys zs : List Zone) → RunsFrom S n m (y ∷ ys) → RunsFrom S n m (z ∷ zs) → y.last < z.last → ⊥
not_shorter S n m y z ys zs r s h = pick held.member
  where
    run : IsRunOf S n z
    run = first_run S n m z zs s

    at : HoldsBand (y.last + 1) z
    at =
        let e = same_first S n m y z ys zs r s in
        let p = (first_run S n m y ys r).rises in
        record { from = omega arith; to = omega arith }

    held : Holds (y ∷ ys) (y.last + 1)
    held = held_again S n m 0 y z ys zs r s (y.last + 1) at

    pick : In held.zone (y ∷ ys) → ⊥
    pick (inl e) = let t : HoldsBand (y.last + 1) y = subst (HoldsBand (y.last + 1)) e held.holds in let u = t.to in absurd (omega arith)
    pick (inr i) =
        let x = held.zone in
        let up = All-in (Rise y) ys x (first_pairs Rise y ys r.rise) i in
        let from = held.holds.from in
        let next : x.first ≡ y.last + 1 = omega arith in
        let o = (All-in (IsRunOf S n) (y ∷ ys) x r.each (inr i)).outline (y.last + 1) held.holds in
        let same = one_outline (S (y.last + 1)) x.corners z.corners o (run.outline (y.last + 1) at) in
        let apart = All-in (λ x. x.first ≡ y.last + 1 → x.corners ≢ y.corners) ys x (first_pairs (λ y z. z.first ≡ y.last + 1 → z.corners ≢ y.corners) y ys r.longest) i in
        apart next (same ∙ sym (same_corners S n m y z ys zs r s))

same_last : (S : ℕ → List Spot) (n m : ℕ) (y z : Zone) (ys zs : List Zone) → RunsFrom S n m (y ∷ ys) → RunsFrom S n m (z ∷ zs) → y.last ≡ z.last
same_last S n m y z ys zs r s =
    ⊎_elim (λ h. absurd (not_shorter S n m y z ys zs r s h)) (λ h. ⊎_elim (λ k. absurd (not_shorter S n m z y zs ys s r k)) (λ k. omega arith) (cases_lt z.last y.last)) (cases_lt y.last z.last)

rest_from : (S : ℕ → List Spot) (n m : ℕ) (z : Zone) (zs : List Zone) → RunsFrom S n m (z ∷ zs) → RunsFrom S n (z.last + 1) zs
rest_from S n m z zs r = record {
  rise = rest_pairs Rise z zs r.rise;
  each = All-from_in (IsRunOf S n) zs (λ x i. All-in (IsRunOf S n) (z ∷ zs) x r.each (inr i));
  held = held;
  longest = rest_pairs (λ y z. z.first ≡ y.last + 1 → z.corners ≢ y.corners) z zs r.longest;
  low = All-from_in (λ x. z.last + 1 ≤ x.first) zs (λ x i. let up = All-in (Rise z) zs x (first_pairs Rise z zs r.rise) i in omega arith);
}
  where
    held : (b : ℕ) → z.last + 1 ≤ b → b < n → S b ≢ [] → Holds zs b
    held b h k some = pick all.member
      where
        all : Holds (z ∷ zs) b
        all =
            let low = All-in (λ z. m ≤ z.first) (z ∷ zs) z r.low (inl refl) in
            let p = (first_run S n m z zs r).rises in
            r.held b (omega arith) k some

        pick : In all.zone (z ∷ zs) → Holds zs b
        pick (inl e) = let t : HoldsBand b z = subst (HoldsBand b) e all.holds in let u = t.to in absurd (omega arith)
        pick (inr i) = record { zone = all.zone; member = i; holds = all.holds }

zone_is : (y z : Zone) → y.corners ≡ z.corners → y.first ≡ z.first → y.last ≡ z.last → y ≡ z
zone_is y z e f g = ap₂ (λ c k. record { corners = c; first = k; last = y.last }) e f ∙ ap (λ k. record { corners = z.corners; first = z.first; last = k }) g

none_left : (S : ℕ → List Spot) (n m : ℕ) (z : Zone) (zs : List Zone) → RunsFrom S n m [] → RunsFrom S n m (z ∷ zs) → ⊥
none_left S n m z zs r s =
    let run = first_run S n m z zs s in
    let low = All-in (λ z. m ≤ z.first) (z ∷ zs) z s.low (inl refl) in
    let p = run.rises in
    let l = run.below_count in
    (r.held z.first low (omega arith) (full S z.first z.corners run.some (run.outline z.first (first_held S n z run)))).member

same_zones : (S : ℕ → List Spot) (n m : ℕ) (ys zs : List Zone) → RunsFrom S n m ys → RunsFrom S n m zs → ys ≡ zs
same_zones S n m [] [] r s = refl
same_zones S n m [] (z ∷ zs) r s = absurd (none_left S n m z zs r s)
same_zones S n m (y ∷ ys) [] r s = absurd (none_left S n m y ys s r)
same_zones S n m (y ∷ ys) (z ∷ zs) r s =
    let last = same_last S n m y z ys zs r s in
    ap₂ (λ x xs. x ∷ xs) (zone_is y z (same_corners S n m y z ys zs r s) (same_first S n m y z ys zs r s) last)
    (same_zones S n (y.last + 1) ys zs (rest_from S n m y ys r) (subst (λ k. RunsFrom S n (k + 1) zs) (sym last) (rest_from S n m z zs s)))

from_zero : (S : ℕ → List Spot) (n : ℕ) (zones : List Zone) → AreRunsOf S n zones → RunsFrom S n 0 zones
from_zero S n zones r = record { rise = r.rise; each = r.each; held = λ b h. r.held b; longest = r.longest; low = λ k d h. omega arith }

-- ---- extremes
at_least : (a b c : ℤ) → a ≤ℤ c → c ≡ b → a ≤ℤ b
at_least a b c h e = subst (λ x. a ≤ℤ x) e h

at_most : (a b c : ℤ) → c ≤ℤ a → c ≡ b → b ≤ℤ a
at_most a b c h e = subst (λ x. x ≤ℤ a) e h

spot_is : (s t : Spot) → s.x ≤ℤ t.x → t.x ≤ℤ s.x → s.y ≤ℤ t.y → t.y ≤ℤ s.y → s ≡ t
spot_is s t a b c d = let x : s.x ≡ t.x = omega (arith, ints) in let y : s.y ≡ t.y = omega (arith, ints) in ap₂ (λ p q. record { x = p; y = q }) x y

module _ (bands : ℕ) (S : ℕ → List Spot) (low high low' high' : Spot) (s : Spans bands S low high) where
  between : (b : ℕ) (p : Spot) → b < bands → Contains (S b) p → Between low high p
  between b p h c = All-in (Between low high) (S b) p (s.holds b h) (In-from_contains (S b) p c)

  pub west_to : Spans bands S low' high' → low.x ≤ℤ low'.x
  west_to t = let w = t.west in at_least low.x low'.x w.spot.x (between w.band w.spot w.below_count w.member).west w.so

  pub south_to : Spans bands S low' high' → low.y ≤ℤ low'.y
  south_to t = let w = t.south in at_least low.y low'.y w.spot.y (between w.band w.spot w.below_count w.member).south w.so

  pub east_to : Spans bands S low' high' → high'.x ≤ℤ high.x
  east_to t = let w = t.east in at_most high.x high'.x w.spot.x (between w.band w.spot w.below_count w.member).east w.so

  pub north_to : Spans bands S low' high' → high'.y ≤ℤ high.y
  north_to t = let w = t.north in at_most high.y high'.y w.spot.y (between w.band w.spot w.below_count w.member).north w.so

same_low : (bands : ℕ) (S : ℕ → List Spot) (low high low' high' : Spot) → Spans bands S low high → Spans bands S low' high' → low ≡ low'
same_low bands S low high low' high' s t = spot_is low low' (west_to bands S low high low' high' s t) (west_to bands S low' high' low high t s) (south_to bands S low high low' high' s t) (south_to bands S low' high' low high t s)

same_high : (bands : ℕ) (S : ℕ → List Spot) (low high low' high' : Spot) → Spans bands S low high → Spans bands S low' high' → high ≡ high'
same_high bands S low high low' high' s t = spot_is high high' (east_to bands S low' high' low high t s) (east_to bands S low high low' high' s t) (north_to bands S low' high' low high t s) (north_to bands S low high low' high' s t)

-- ---- the object
object_same : (o q : Object) → o.name ≡ q.name → o.height ≡ q.height → o.bands ≡ q.bands → o.low ≡ q.low → o.high ≡ q.high → o.zones ≡ q.zones → o ≡ q
object_same o q n h b l t z =
    ap₂ (λ name height. record { name = name; height = height; bands = o.bands; low = o.low; high = o.high; zones = o.zones }) n h
    ∙ ap₂ (λ bands low. record { name = q.name; height = q.height; bands = bands; low = low; high = o.high; zones = o.zones }) b l
    ∙ ap₂ (λ high zones. record { name = q.name; height = q.height; bands = q.bands; low = q.low; high = high; zones = zones }) t z

pub one_object : (name : List ℕ) (facets : List Facet) (printer : Printer) (o q : Object) → IsObjectOf name facets printer o → IsObjectOf name facets printer q → o ≡ q
one_object name facets printer o q a b =
    let S = spots_in printer facets in
    let bands = a.bands ∙ sym b.bands in
    let spans = subst (λ n. Spans n S q.low q.high) (sym bands) b.spans in
    let runs = from_zero S q.bands q.zones (runs_of S q.bands q.zones b.zones b.sound.zones) in
    object_same o q (a.named ∙ sym b.named) (a.height ∙ sym b.height) bands (same_low o.bands S o.low o.high q.low q.high a.spans spans) (same_high o.bands S o.low o.high q.low q.high a.spans spans)
    (same_zones S o.bands 0 o.zones q.zones (from_zero S o.bands o.zones (runs_of S o.bands o.zones a.zones a.sound.zones)) (subst (λ n. RunsFrom S n 0 q.zones) (sym bands) runs))
