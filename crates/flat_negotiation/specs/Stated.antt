-- Numbers that may say nothing, and bits.
use Rattle.std.specs.Prelude.{ℕ, ◌^◌, ◌/◌, ◌%◌, Bool, ◌==◌, if◌then◌else◌}
use Rattle.sysmem_image.specs.declared.size.Size.{Size}
use Rattle.flat_negotiation.specs.declared.parts.flat.FlatSize.{FlatSize}

-- a number, or what is absent where it is 0
abbrev pub stated : ℕ → ℕ → ℕ
stated absent n = if n == 0 then absent else n

-- the same of both sides
abbrev pub sides_stated : ℕ → FlatSize → Size
sides_stated absent s = record { width = stated absent s.width; height = stated absent s.height }

-- a set has the bit of this index
abbrev pub has_bit : ℕ → ℕ → Bool
has_bit bits index = bits / 2 ^ index % 2 == 1
