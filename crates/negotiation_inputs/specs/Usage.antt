-- What the buffers are used for.
use Rattle.std.specs.Prelude.{◌&&◌, ◌||◌, ◌==◌, Bool, not}
use Rattle.std.specs.Int.RustNames.{bit_and}
use Rattle.sysmem_counts.specs.declared.usage.Usage.{Usage}
use Rattle.sysmem_counts.specs.Usage.{usage_bits}

-- some families, and none alone or absent
abbrev pub is_usage : Usage → Bool
is_usage usage =
    usage_bits usage == 1
    || (not (usage_bits usage == 0) && not (bit_and (usage_bits usage) 1 == 1))
