-- How many zones sound objects have.
--
--   few_zones      a sound object has at most 200 zones
use Rattle.std.proofs.Common.{ℕ, zero, suc, ◌-◌, ◌<◌, ◌≤◌, ◌⊎◌, inl, inr, List, [], length, get_or, arith}
use Rattle.std.proofs.lemmas.Bool.{cases_lt}
use Rattle.seq_model.specs.Soundness.{AreSoundZones, IsSoundObject}
use Rattle.seq_model.specs.declared.job.Object.{Object}
use Rattle.seq_model.specs.declared.job.Zone.{Zone}

-- zone k ends no lower than band k
rises : (bands : ℕ) (zones : List Zone) (d : Zone) → AreSoundZones bands zones → (k : ℕ) → k < length zones → k ≤ (get_or zones k d).last
rises bands zones d s zero h = omega arith
rises bands zones d s (suc k) h =
    let before = rises bands zones d s k (omega (arith, h)) in
    let apart = s.rise k (suc k) d (omega arith) h in
    let here = (s.each (suc k) d h).rises in
    omega (arith, before, apart, here)

few_of : (bands : ℕ) (zones : List Zone) → AreSoundZones bands zones → (0 < length zones) ⊎ (length zones ≤ 0) → length zones ≤ bands
few_of bands zones s (inl h) =
    let d : Zone = record { corners = []; first = 0; last = 0 } in
    let k = length zones - 1 in
    let last = rises bands zones d s k (omega (arith, h)) in
    let end = s.end k d (omega (arith, h)) in
    omega (arith, last, end, h)
few_of bands zones s (inr h) = omega (arith, h)

pub few_zones : (o : Object) → IsSoundObject o → length o.zones ≤ 200
few_zones o s = (let few = few_of o.bands o.zones s.zones (cases_lt 0 (length o.zones)) in omega (arith, few, s.few_bands))
