-- What a usage stands for.
use Rattle.std.specs.Prelude.{ℕ, Bool, ◌==◌}
use Rattle.std.specs.Int.RustNames.{bit_and}
use Rattle.sysmem_counts.specs.declared.usage.Usage.{Usage}

-- the bits of a usage's families
abbrev pub usage_bits : Usage → ℕ
usage_bits usage = usage.0

-- whether a usage has the family cpu
abbrev pub uses_cpu : Usage → Bool
uses_cpu usage = bit_and (usage_bits usage) 2 == 2
