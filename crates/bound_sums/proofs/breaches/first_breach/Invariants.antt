use Rattle.std.proofs.Common.{◌≡◌, ◌≤◌, ◌*◌, ◌^◌, length, drop, take, All, unsigned_abs}
use Rattle.seq_model.specs.Systems.{IsTaken}
use Rattle.bound_sums.proofs.Contradicts.{AreSums}
use Rattle.bound_sums.specs.Sparse.{IsAtMost, rows_of}
use Rattle.bound_sums.proofs.breaches.first_breach.Given as goal

abbrev pub invariant-loop-mult : goal.invariant-loop-mult
invariant-loop-mult l = record {
  sums : AreSums (rows_of l.rooms l.sides) l.mults (drop l.mult-index l.mults) l.sums l.constant;
  taken : All (IsTaken (rows_of l.rooms l.sides)) (take l.mult-index l.mults);
  width : length l.sums ≡ length l.rooms;
  small : All (IsAtMost (l.mult-index * 2 ^ 86)) l.sums;
  constant : unsigned_abs l.constant ≤ l.mult-index * 2 ^ 109;
}
