-- Common multiples and their limit.
use Rattle.std.specs.Prelude.{◌≡◌, ℕ, ◌≤◌, ◌<◌, ◌⊎◌, Option, Some, None}
use Rattle.std.specs.Int.{◌∣◌}
use Rattle.sysmem_image.specs.declared.size.Size.{Size}
use Rattle.sysmem_counts.specs.Bounds.{most_number}

-- m is the least common multiple of a and b: a common multiple that divides each other one
pub record IsLcm (a b m : ℕ) : Type 0 where
  pub left : a ∣ m
  pub right : b ∣ m
  pub least : (k : ℕ) → a ∣ k → b ∣ k → m ∣ k

-- the same of both dimensions
pub record IsSizeLcm (a b m : Size) : Type 0 where
  pub width : IsLcm a.width b.width m.width
  pub height : IsLcm a.height b.height m.height

-- each common multiple of a and b, but 0, is above the limit
abbrev pub IsAboveLimit : ℕ → ℕ → Type 0
IsAboveLimit a b = (k : ℕ) → 1 ≤ k → a ∣ k → b ∣ k → most_number < k

-- the same of one dimension at least
abbrev pub IsSizeAboveLimit : Size → Size → Type 0
IsSizeAboveLimit a b = IsAboveLimit a.width b.width ⊎ IsAboveLimit a.height b.height

-- a and b have a common multiple up to the limit
pub record HasMultiple (a b : ℕ) : Type 0 where
  pub multiple : ℕ
  pub some : 1 ≤ multiple
  pub small : multiple ≤ most_number
  pub left : a ∣ multiple
  pub right : b ∣ multiple

-- the same of both dimensions
pub record HasSizeMultiple (a b : Size) : Type 0 where
  pub width : HasMultiple a.width b.width
  pub height : HasMultiple a.height b.height

-- the least common multiple with one more, or nothing where it is above the limit
abbrev pub IsJoined : Option ℕ → ℕ → Option ℕ → Type 0
IsJoined None more m = m ≡ None
IsJoined (Some a) more None = IsAboveLimit a more
IsJoined (Some a) more (Some m) = IsLcm a more m

-- the same of both dimensions, or nothing where one is above the limit
abbrev pub IsSizeJoined : Option Size → Size → Option Size → Type 0
IsSizeJoined None more m = m ≡ None
IsSizeJoined (Some a) more None = IsSizeAboveLimit a more
IsSizeJoined (Some a) more (Some m) = IsSizeLcm a more m
