-- A pair of objects collides where a contact of it does.
--
--   find_zone       a band of a zone finds it, since zones don't overlap
--   two_bands       zones that meet have two bands that meet
--   contact_collides            and then its objects do
--   collides_by_contact         which they do only so
use Rattle.std.proofs.Common.{◌≡◌, ◌≢◌, ℕ, zero, suc, ◌+◌, ◌-◌, ◌<◌, ◌≤◌, max, min, List, [], ◌∷◌, length, get_or, refl, ap, sym, subst, ◌∙◌, arith, Bool, true, false, ◌&&◌, Option, Some, None, AllPairs, inl, inr, ◌⊎◌, ◌↔◌}
use Rattle.std.proofs.lemmas.Bool.{cases_lt, and_parts}
use Rattle.std.proofs.lemmas.Bool.Decides.{nat_tests}
use Rattle.std.proofs.lemmas.Int.{ints}
use Rattle.std.proofs.lemmas.List.Elements.{All-get_or}
use Rattle.std.proofs.lemmas.Option.{same_Some, none-some}
use Rattle.std.specs.Prelude.{find, nat_le, cond, MatchOption}
use Rattle.seq_model.specs.Contacts.{ContactCollides, reaches_to, ZonesMeet, IsContact}
use Rattle.seq_model.specs.Jobs.{no_object, no_zone, no_part, object_at, zone_at, part_at, holds_band, corners_or_none, scene_of_job}
use Rattle.seq_model.specs.Outlines.{Inner}
use Rattle.seq_model.specs.Parts.{IsSoundPart}
use Rattle.seq_model.specs.Points.{Point}
use Rattle.seq_model.specs.Scenes.{Meets, Overlap, Collides}
use Rattle.seq_model.specs.Soundness.{IsSoundZone, IsSoundObject}
use Rattle.seq_model.specs.declared.job.Job.{Job}
use Rattle.seq_model.specs.declared.job.Object.{Object}
use Rattle.seq_model.specs.declared.job.Zone.{Zone}
use Rattle.seq_model.specs.declared.printer.Part.{Part}
use Rattle.seq_model.specs.declared.tree.Contact.{Contact}
use Rattle.model_laws.specs.Collisions.{ByBands, ByContact}

le_is : (a b : ℕ) → nat_le a b ≡ true → a ≤ b
le_is a b e = grind (arith, nat_tests)

is_le : (a b : ℕ) → a ≤ b → nat_le a b ≡ true
is_le a b h = grind (arith, nat_tests)

no_le : (a b : ℕ) → b < a → nat_le a b ≡ false
no_le a b h = grind (arith, nat_tests)

-- ---- a band and its zone
holds : (b : ℕ) (z : Zone) → z.first ≤ b → b ≤ z.last → holds_band b z ≡ true
holds b z l h = rw (is_le z.first b l, is_le b z.last h) refl

holds_band_is : (b : ℕ) (z : Zone) → holds_band b z ≡ true → (z.first ≤ b) × (b ≤ z.last)
holds_band_is b z e = let r = and_parts (nat_le z.first b) (nat_le b z.last) e in (le_is z.first b r.0, le_is b z.last r.1)

pub find_zone : (b : ℕ) (zones : List Zone) (k : ℕ) (d : Zone) → AllPairs (λ (y z : Zone). y.last < z.first) zones → k < length zones → (get_or zones k d).first ≤ b → b ≤ (get_or zones k d).last
    → find (holds_band b) zones ≡ Some (get_or zones k d)
find_zone b [] k d rise l low high = absurd (omega (arith, l))
find_zone b (y ∷ zones) zero d rise l low high = ap (λ t. cond t (Some y) (find (holds_band b) zones)) (holds b y low high)
find_zone b (y ∷ zones) (suc k) d rise l low high =
    ap (λ t. cond t (Some y) (find (holds_band b) zones)) (above y (rise 0 (suc k) d (omega arith) l))
    ∙ find_zone b zones k d (λ i j e m n. rise (suc i) (suc j) e (omega (arith, m)) (omega (arith, n))) (omega (arith, l)) low high
  where
    last : (a : Bool) → (a && false) ≡ false
    last true = refl
    last false = refl

    above : (y : Zone) → y.last < (get_or zones k d).first → holds_band b y ≡ false
    above y h = ap (λ t. nat_le y.first b && t) (no_le b y.last (omega (arith, h, low))) ∙ last (nat_le y.first b)

pub record Found (b : ℕ) (zones : List Zone) (z : Zone) : Type 0 where
  pub place : ℕ
  pub in_list : place < length zones
  pub is : (d : Zone) → get_or zones place d ≡ z
  pub low : z.first ≤ b
  pub high : b ≤ z.last

pub find_some : (b : ℕ) (zones : List Zone) (z : Zone) → find (holds_band b) zones ≡ Some z → Found b zones z
find_some b [] z e = absurd (none-some z e)
find_some b (y ∷ zones) z e = by (holds_band b y) refl e (find_some b zones z)
  where
    by : (t : Bool) → holds_band b y ≡ t → cond t (Some y) (find (holds_band b) zones) ≡ Some z → (find (holds_band b) zones ≡ Some z → Found b zones z) → Found b (y ∷ zones) z
    by true h s later =
        let same = same_Some y z s in
        let r = holds_band_is b y h in
        record { place = 0; in_list = omega arith; is = λ d. same; low = subst (λ (x : Zone). x.first ≤ b) same r.0; high = subst (λ (x : Zone). b ≤ x.last) same r.1 }
    by false h s later = let f = later s in record { place = suc f.place; in_list = omega (arith, f.in_list); is = f.is; low = f.low; high = f.high }

-- ---- bands that meet
record TwoBands (earlier later : Zone) (part : Part) : Type 0 where
  b : ℕ
  c : ℕ
  b_low : later.first ≤ b
  b_high : b ≤ later.last
  c_low : earlier.first ≤ c
  c_high : c ≤ earlier.last
  meets : Meets part b c

two_bands : (earlier later : Zone) (part : Part) → earlier.first ≤ earlier.last → later.first ≤ later.last → IsSoundPart part → ZonesMeet earlier part later → TwoBands earlier later part
two_bands earlier later part rises rises' sound meet = by part.hi refl
  where
    low : later.first + part.lo ≤ earlier.last
    low = le_is (later.first + part.lo) earlier.last (and_parts (nat_le (later.first + part.lo) earlier.last) (reaches_to part.hi later.last earlier.first) meet).0

    high : (n : ℕ) → part.hi ≡ Some n → earlier.first ≤ later.last + n
    high n e = le_is earlier.first (later.last + n) (subst (λ h. reaches_to h later.last earlier.first ≡ true) e (and_parts (nat_le (later.first + part.lo) earlier.last) (reaches_to part.hi later.last earlier.first) meet).1)

    by : (hi : Option ℕ) → part.hi ≡ hi → TwoBands earlier later part
    by None e =
        let l = low in
        record {
          b = later.first;
          c = max earlier.first (later.first + part.lo);
          b_low = omega arith;
          b_high = rises';
          c_low = omega arith;
          c_high = omega (arith, l, rises);
          meets = record { from_low = omega arith; to_high = subst (λ h. MatchOption h (Unit {0}) (λ hi. max earlier.first (later.first + part.lo) ≤ later.first + hi)) (sym e) tt };
        }
    by (Some n) e =
        let l = low in
        let h = high n e in
        let r = (sound.high n e).0 in
        record {
          b = min later.last (max earlier.first (later.first + part.lo) - part.lo);
          c = max earlier.first (later.first + part.lo);
          b_low = omega (arith, rises');
          b_high = omega arith;
          c_low = omega arith;
          c_high = omega (arith, l, rises);
          meets = record {
            from_low = omega (arith, l, rises');
            to_high = subst (λ t. MatchOption t (Unit {0}) (λ hi. max earlier.first (later.first + part.lo) ≤ min later.last (max earlier.first (later.first + part.lo) - part.lo) + hi)) (sym e) (omega (arith, h, r, rises'));
          };
        }

meet_by : (earlier later : Zone) (part : Part) (b c : ℕ) → later.first ≤ b → b ≤ later.last → earlier.first ≤ c → c ≤ earlier.last → Meets part b c → ZonesMeet earlier part later
meet_by earlier later part b c bl bh cl ch meets = rw (is_le (later.first + part.lo) earlier.last (let l = meets.from_low in omega (arith, l, bl, ch)), reaches part.hi refl) refl
  where
    reaches : (hi : Option ℕ) → part.hi ≡ hi → reaches_to part.hi later.last earlier.first ≡ true
    reaches None e = ap (λ h. reaches_to h later.last earlier.first) e
    reaches (Some n) e =
        let h : c ≤ b + n = subst (λ t. MatchOption t (Unit {0}) (λ hi. c ≤ b + hi)) e meets.to_high in
        ap (λ h. reaches_to h later.last earlier.first) e ∙ is_le earlier.first (later.last + n) (omega (arith, h, cl, bh))

pub any_default : {X : Type 0} (xs : List X) (k : ℕ) (a b : X) → k < length xs → get_or xs k a ≡ get_or xs k b
any_default [] k a b h = absurd (omega (arith, h))
any_default (x ∷ xs) zero a b h = refl
any_default (x ∷ xs) (suc k) a b h = any_default xs k a b (omega (arith, h))

-- ---- a contact collides only where its objects do
pub sound_object : (job : Job) (i : ℕ) → i < length job.objects → IsSoundObject (object_at job i)
sound_object job i l = All-get_or IsSoundObject job.objects i no_object l job.sound.each

pub sound_zone : (job : Job) (i z : ℕ) → i < length job.objects → z < length (object_at job i).zones → IsSoundZone (zone_at job i z)
sound_zone job i z l m = All-get_or IsSoundZone (object_at job i).zones z no_zone m (sound_object job i l).zones.each

pub spots_of_zone : (job : Job) (i z b : ℕ) → i < length job.objects → z < length (object_at job i).zones → (zone_at job i z).first ≤ b → b ≤ (zone_at job i z).last
    → (scene_of_job job).spots i b ≡ (zone_at job i z).corners
spots_of_zone job i z b l m low high = ap corners_or_none (find_zone b (object_at job i).zones z no_zone (sound_object job i l).zones.rise m low high)

pub below_bands : (job : Job) (i z b : ℕ) → i < length job.objects → z < length (object_at job i).zones → b ≤ (zone_at job i z).last → b < (object_at job i).bands
below_bands job i z b l m high =
    let e : (zone_at job i z).last < (object_at job i).bands = All-get_or (λ (y : Zone). y.last < (object_at job i).bands) (object_at job i).zones z no_zone m (sound_object job i l).zones.end in
    omega (arith, e, high)

by_bands : (job : Job) (contact : Contact) (p r : Point) → ContactCollides job contact p r → ByBands job contact p r
by_bands job contact p r k =
    let is = k.is in
    let earlier = zone_at job contact.i contact.zi in
    let later = zone_at job contact.j contact.zj in
    let part = part_at job contact.part in
    let sound_part = All-get_or IsSoundPart job.printer.parts contact.part no_part is.part_in job.printer.parts_are.sound in
    let two = two_bands earlier later part (sound_zone job contact.i contact.zi is.i_in is.zi_in).rises (sound_zone job contact.j contact.zj is.j_in is.zj_in).rises sound_part is.meet in
    record {
      b = two.b;
      c = two.c;
      b_low = two.b_low;
      b_high = two.b_high;
      c_low = two.c_low;
      c_high = two.c_high;
      meets = two.meets;
      overlap = subst (λ A. Overlap A ((scene_of_job job).spots contact.j two.b) part.corners p r) (sym (spots_of_zone job contact.i contact.zi two.c is.i_in is.zi_in two.c_low two.c_high))
          (subst (λ B. Overlap earlier.corners B part.corners p r) (sym (spots_of_zone job contact.j contact.zj two.b is.j_in is.zj_in two.b_low two.b_high)) k.overlap);
    }

bands_do : (job : Job) (contact : Contact) (p r : Point) → IsContact job contact → ByBands job contact p r → ContactCollides job contact p r
bands_do job contact p r is y =
    let part = part_at job contact.part in
    record {
      is = is;
      overlap = subst (λ A. Overlap A (zone_at job contact.j contact.zj).corners part.corners p r) (spots_of_zone job contact.i contact.zi y.c is.i_in is.zi_in y.c_low y.c_high)
          (subst (λ B. Overlap ((scene_of_job job).spots contact.i y.c) B part.corners p r) (spots_of_zone job contact.j contact.zj y.b is.j_in is.zj_in y.b_low y.b_high) y.overlap);
    }

pub contact_by_bands : (job : Job) (contact : Contact) (p r : Point) → ContactCollides job contact p r ↔ (IsContact job contact × ByBands job contact p r)
contact_by_bands job contact p r = (λ k. (k.is, by_bands job contact p r k), λ y. bands_do job contact p r y.0 y.1)

pub contact_collides : (job : Job) (c : Contact) (p r : Point) → ContactCollides job c p r → Collides (scene_of_job job) c.i p c.j r
contact_collides job c p r k =
    let is = k.is in
    let y = by_bands job c p r k in
    let part = part_at job c.part in
    record {
      b = y.b;
      c = y.c;
      part = part;
      band_of_later = below_bands job c.j c.zj y.b is.j_in is.zj_in y.b_high;
      band_of_earlier = below_bands job c.i c.zi y.c is.i_in is.zi_in y.c_high;
      part_of_scene = (c.part, is.part_in, any_default job.printer.parts c.part part no_part is.part_in);
      meets = y.meets;
      overlap = y.overlap;
    }

pub known : (job : Job) (i b : ℕ) → b < (object_at job i).bands → i < length job.objects
known job i b h = by (cases_lt i (length job.objects))
  where
    past : (os : List Object) (i : ℕ) → length os ≤ i → get_or os i no_object ≡ no_object
    past [] i l = refl
    past (o ∷ os) zero l = absurd (omega (arith, l))
    past (o ∷ os) (suc i) l = past os i (omega (arith, l))

    by : (i < length job.objects) ⊎ (length job.objects ≤ i) → i < length job.objects
    by (inl l) = l
    by (inr l) = (let none : b < 0 = subst (λ (o : Object). b < o.bands) (past job.objects i l) h in absurd (omega (arith, none)))

-- some point is inner to the spots of a band only where a zone holds it
pub record Zoned (job : Job) (i b : ℕ) : Type 0 where
  pub z : ℕ
  pub known : z < length (object_at job i).zones
  pub low : (zone_at job i z).first ≤ b
  pub high : b ≤ (zone_at job i z).last

pub zoned : (job : Job) (i b : ℕ) (q : Point) → Inner ((scene_of_job job).spots i b) q → Zoned job i b
zoned job i b q m = by (find (holds_band b) (object_at job i).zones) refl m
  where
    by : (o : Option Zone) → find (holds_band b) (object_at job i).zones ≡ o → Inner (corners_or_none o) q → Zoned job i b
    by None e n = (let some = n.some in absurd (omega (arith, ints, some)))
    by (Some z) e n =
        let f = find_some b (object_at job i).zones z e in
        record { z = f.place; known = f.in_list; low = subst (λ (y : Zone). y.first ≤ b) (sym (f.is no_zone)) f.low; high = subst (λ (y : Zone). b ≤ y.last) (sym (f.is no_zone)) f.high }

pub collides_by_contact : (job : Job) (i j : ℕ) (p r : Point) → i ≢ j → Collides (scene_of_job job) i p j r → ByContact job i j p r
collides_by_contact job i j p r apart k =
    let a = zoned job i k.c _ k.overlap.earlier in
    let l = zoned job j k.b _ k.overlap.later in
    let i_in = known job i k.c k.band_of_earlier in
    let j_in = known job j k.b k.band_of_later in
    let n = k.part_of_scene.0 in
    let part : part_at job n ≡ k.part = any_default job.printer.parts n no_part k.part k.part_of_scene.1 ∙ k.part_of_scene.2 in
    record {
      contact = record { i = i; zi = a.z; part = n; zj = l.z; j = j };
      earlier = refl;
      later = refl;
      collides = record {
        is = record {
          i_in = i_in;
          j_in = j_in;
          apart = apart;
          zi_in = a.known;
          zj_in = l.known;
          part_in = k.part_of_scene.1;
          meet = meet_by (zone_at job i a.z) (zone_at job j l.z) (part_at job n) k.b k.c l.low l.high a.low a.high (subst (λ t. Meets t k.b k.c) (sym part) k.meets);
        };
        overlap = subst (λ A. Overlap A (zone_at job j l.z).corners (part_at job n).corners p r) (spots_of_zone job i a.z k.c i_in a.known a.low a.high)
            (subst (λ B. Overlap ((scene_of_job job).spots i k.c) B (part_at job n).corners p r) (spots_of_zone job j l.z k.b j_in l.known l.low l.high)
            (subst (λ (t : Part). Overlap ((scene_of_job job).spots i k.c) ((scene_of_job job).spots j k.b) t.corners p r) (sym part) k.overlap));
      };
    }
