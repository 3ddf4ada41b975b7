-- Divisors and multiples.
use Rattle.std.proofs.Common.{◌≡◌, ℕ, ◌+◌, ◌-◌, ◌*◌, ◌/◌, ◌%◌, ◌<◌, ◌≤◌, sym, ap, subst, arith}
use Rattle.std.specs.Int.{◌∣◌}
use Rattle.std.proofs.Math.Nat.{dvd-add_iff_left, dvd-mul_right, dvd-mul_left, dvd_of_mul-dvd-mul_right, mod-add-div, div-mul_cancel, mul-dvd-mul_right, mul-pos, pos_of_dvd_of_pos, dvd-sub, lt_of_not-le}
use Rattle.std.proofs.lemmas.Nat.Gcd.{dvd_trans, dvd_refl, dvd-zero, le_of_dvd}
use Rattle.sysmem_image.specs.Multiples.{IsLcm, IsAboveLimit}
use Rattle.sysmem_counts.specs.Bounds.{most_number}

-- a turn of Euclid's loop for the numbers a and b
pub record IsStep (a b x y : ℕ) : Type 0 where
  pub some : 1 ≤ x
  pub divides : (d : ℕ) → d ∣ x → d ∣ y → (d ∣ a) × (d ∣ b)
  pub joins_x : (k : ℕ) → a ∣ k → b ∣ k → a * b ∣ k * x
  pub joins_y : (k : ℕ) → a ∣ k → b ∣ k → a * b ∣ k * y

-- what divides two products of k divides that of k and the remainder
pub divides_remainder : (n k x y : ℕ) → n ∣ k * x → n ∣ k * y → n ∣ k * (x % y)
divides_remainder n k x y p q =
    let e : k * (x % y) + k * y * (x / y) ≡ k * x = omega (arith, ap (λ z. k * z) (mod-add-div x y)) in
    let product : n ∣ k * y * (x / y) = dvd_trans n q (dvd-mul_right (k * y) (x / y)) in
    (dvd-add_iff_left n product).1 (subst (λ z. n ∣ z) (sym e) p)

-- what divides two numbers divides the remainder, and what divides the remainder divides the first
pub divides_back : (d x y : ℕ) → d ∣ y → d ∣ x % y → d ∣ x
divides_back d x y p q =
    let product : d ∣ y * (x / y) = dvd_trans d p (dvd-mul_right y (x / y)) in
    subst (λ z. d ∣ z) (mod-add-div x y) ((dvd-add_iff_left d product).0 q)

-- the least common multiple by the greatest common divisor
pub lcm_from_gcd : (a b g : ℕ) → 0 < g → g ∣ a → g ∣ b → ((k : ℕ) → a ∣ k → b ∣ k → a * b ∣ k * g) → IsLcm a b (a / g * b)
lcm_from_gcd a b g some p q joins =
    let ea : a / g * g ≡ a = div-mul_cancel g p in
    let eb : b / g * g ≡ b = div-mul_cancel g q in
    let left : a * (b / g) ≡ a / g * b = omega (arith, ap (λ z. z * (b / g)) ea, ap (λ z. a / g * z) eb) in
    let whole : a / g * b * g ≡ a * b = omega (arith, ap (λ z. z * b) ea) in
    record {
      left = subst (λ z. a ∣ z) left (dvd-mul_right a (b / g));
      right = dvd-mul_left b (a / g);
      least = λ k r s. dvd_of_mul-dvd-mul_right (a / g * b) some (subst (λ z. z ∣ k * g) (sym whole) (joins k r s));
    }

-- a number is the least common multiple of itself and what divides it
pub lcm_of_multiple : (a b : ℕ) → b ∣ a → IsLcm a b a
lcm_of_multiple a b p = record { left = dvd_refl a; right = p; least = λ k r s. r }

-- the loop begins with the numbers themselves
pub first_step : (a b : ℕ) → 1 ≤ a → IsStep a b a b
first_step a b some = record {
  some = some;
  divides = λ d p q. (p, q);
  joins_x = λ k p q. let e : b * a ≡ a * b = omega arith in subst (λ z. z ∣ k * a) e (mul-dvd-mul_right b q a);
  joins_y = λ k p q. mul-dvd-mul_right a p b;
}

-- a turn leaves the divisor and the remainder
pub next_step : (a b x y : ℕ) → 1 ≤ y → IsStep a b x y → IsStep a b y (x % y)
next_step a b x y some s = record {
  some = some;
  divides = λ d p q. s.divides d (divides_back d x y p q) p;
  joins_x = s.joins_y;
  joins_y = λ k p q. divides_remainder (a * b) k x y (s.joins_x k p q) (s.joins_y k p q);
}

-- at the end the number that is left divides both
pub last_step : (a b x y : ℕ) → y ≡ 0 → IsStep a b x y → (x ∣ a) × (x ∣ b)
last_step a b x y none s = s.divides x (dvd_refl x) (subst (λ z. x ∣ z) (sym none) (dvd-zero x))

-- the least common multiple of two numbers isn't 0
pub lcm_some : (a b g : ℕ) → 1 ≤ a → 1 ≤ b → g ∣ a → 1 ≤ a / g * b
lcm_some a b g a_some b_some p =
    let part : a / g ∣ a = subst (λ z. a / g ∣ z) (div-mul_cancel g p) (dvd-mul_right (a / g) g) in
    mul-pos (pos_of_dvd_of_pos part a_some) b_some

-- where the least common multiple is above the limit, each common multiple is
pub lcm_above : (a b m : ℕ) → IsLcm a b m → most_number < m → IsAboveLimit a b
lcm_above a b m is above k some p q =
    let up_to : m ≤ k = le_of_dvd some (is.least k p q) in omega arith

-- a multiple less than a divisor above a number is the least that isn't below the number
pub least_multiple : (divisor from m k : ℕ) → divisor ∣ m → m < from + divisor → divisor ∣ k → from ≤ k → m ≤ k
least_multiple divisor from m k p near q above =
    let below : m < k + 1 = lt_of_not-le (λ (h : k + 1 ≤ m).
    let gap : 0 < m - k = omega arith in
    let wide : divisor ≤ m - k = le_of_dvd gap (dvd-sub divisor p q) in
    let no : ⊥ = omega arith in no) in
    omega arith
