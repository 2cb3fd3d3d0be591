-- Quotients by a positive number, rounded down and up.
--
--   floor a d, ceil a d              a / d rounded down, and rounded up. floor is std's `int_div_euclid`
--   IsFloor a d q, IsCeil a d q      q is that number, by inequalities
use Rattle.std.proofs.Common.{ℤ, neg_ℤ, ◌+ℤ◌, ◌-ℤ◌, ◌*ℤ◌, ◌≤ℤ◌, ◌<ℤ◌}
use Rattle.std.specs.Int.{int_div_euclid}

abbrev pub floor : ℤ → ℤ → ℤ
floor a d = int_div_euclid a d

abbrev pub ceil : ℤ → ℤ → ℤ
ceil a d = neg_ℤ (int_div_euclid (neg_ℤ a) d)

pub record IsFloor (a d q : ℤ) : Type 0 where
  pub low : (d *ℤ q) ≤ℤ a
  pub high : a <ℤ (d *ℤ q +ℤ d)

pub record IsCeil (a d q : ℤ) : Type 0 where
  pub low : (d *ℤ q -ℤ d) <ℤ a
  pub high : a ≤ℤ (d *ℤ q)
