-- For the proofs of functions that are made of the exact steps of this crate (`sum`, `difference`, `product`, `wide_product`).
--
--   steps            `grind (arith, steps)`: a number that a call was passed, or returned, is itself
--   product_below    `grind (arith, steps, product_below)`: a product lies below the product of two bounds
use Rattle.std.proofs.Common.{ℕ, zero, suc, ◌<◌, ◌≤◌, ◌*◌, arith, mul-le-mul, to_z-of_z}

pub ruleset steps = (to_z-of_z)

pub product_below : (x y m n : ℕ) → x < m → y < n → x * y < m * n
product_below x y zero n h k = absurd (omega arith)
product_below x y (suc m) zero h k = absurd (omega arith)
product_below x y (suc m) (suc n) h k =
    let a : x ≤ m = omega arith in
    let b : y ≤ n = omega arith in
    omega (arith, mul-le-mul a b)
