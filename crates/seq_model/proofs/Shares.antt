-- A share of a size is at most the size.
use Rattle.std.proofs.Common.{ℕ, ◌*◌, ◌/◌, ◌≤◌, ℤ, pos, negsuc, ◌≤ℤ◌, arith}
use Rattle.std.proofs.Math.Nat.{mul-le-mul_left, div-le_of_le-mul}
use Rattle.std.proofs.lemmas.Int.{ints}
use Rattle.seq_model.specs.Plates.{share_of}

pub share_of-le : (size : ℤ) (grid extent : ℕ) → pos 0 ≤ℤ size → extent ≤ grid → share_of size grid extent ≤ℤ size
share_of-le (pos s) grid extent h e =
    let m : s * extent ≤ s * grid = mul-le-mul_left s e in
    let d : s * extent / grid ≤ s = div-le_of_le-mul grid (omega (arith, m)) in
    omega (arith, ints, d)
share_of-le (negsuc s) grid extent h e = absurd (omega (arith, ints))
