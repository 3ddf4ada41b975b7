-- Sizes, compared in both dimensions.
use Rattle.std.specs.Prelude.{ℕ, ◌≤◌, ◌≡◌, max, min}
use Rattle.std.specs.Int.{◌∣◌}
use Rattle.sysmem_counts.specs.Bounds.{most_number}
use Rattle.sysmem_image.specs.declared.size.Size.{Size}

-- the greatest alignment or divisor that a participant may state
abbrev pub most_multiple : ℕ
most_multiple = 65536

-- one number in both dimensions
abbrev pub square : ℕ → Size
square n = record { width = n; height = n }

-- a size whose dimensions are 1 or more
abbrev pub some_sides : Size → Size
some_sides a = record { width = max a.width 1; height = max a.height 1 }

-- both dimensions of a are at most those of b
pub record IsSizeUpTo (a b : Size) : Type 0 where
  pub width : a.width ≤ b.width
  pub height : a.height ≤ b.height

-- both dimensions of a divide those of b
pub record DividesSize (a b : Size) : Type 0 where
  pub width : a.width ∣ b.width
  pub height : a.height ∣ b.height

-- both dimensions are within 32 bits
pub record IsSizeInRange (a : Size) : Type 0 where
  pub width : a.width ≤ most_number
  pub height : a.height ≤ most_number

-- m has the greater width and the greater height
pub record IsSizeGreatest (a b m : Size) : Type 0 where
  pub width : m.width ≡ max a.width b.width
  pub height : m.height ≡ max a.height b.height

-- m has the lesser width and the lesser height
pub record IsSizeLeast (a b m : Size) : Type 0 where
  pub width : m.width ≡ min a.width b.width
  pub height : m.height ≡ min a.height b.height
