-- Halves of rows and of their bytes take no more than their part of a plane.
use Rattle.std.proofs.Common.{ℕ, ◌*◌, ◌/◌, ◌≤◌, arith}
use Rattle.std.proofs.Math.Nat.{mul-le-mul_left}

half_of : (n : ℕ) → 2 * (n / 2) ≤ n
half_of n = omega arith

pub halves : (pitch rows : ℕ) → 2 * (pitch * (rows / 2)) ≤ pitch * rows
halves pitch rows = omega (arith, mul-le-mul_left pitch (half_of rows))

pub quarters : (pitch rows : ℕ) → 4 * (pitch / 2 * (rows / 2)) ≤ pitch * rows
quarters pitch rows = omega (arith, mul-le-mul_left (rows / 2) (half_of pitch), halves pitch rows)
