-- The numbers that are kept of what participants ask.
use Rattle.std.specs.Prelude.{ℕ}

-- the sum of what each has alone, the greatest shared slack and minimum, and the least maximum
pub record Tally : Type 0 where
  pub own : ℕ
  pub shared : ℕ
  pub minimum : ℕ
  pub maximum : ℕ

-- the sum of camping and dedicated slack so far
abbrev pub sum_of : Tally → ℕ
sum_of kept = kept.own
