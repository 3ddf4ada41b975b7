-- The counts and the wishes of memory after a change.
use Rattle.std.specs.Prelude.{ℕ, ◌-◌, ◌^◌, Bool, true, false, Option, Some, None, nat_le}
use Rattle.std.specs.Prelude.{option_map, if◌then◌else◌}
use Rattle.sysmem_counts.specs.Bounds.{most_number}
use Rattle.sysmem_counts.specs.declared.constraints.CountConstraints.{CountConstraints}
use Rattle.sysmem_counts.specs.declared.field.Field.{Field}
use Rattle.sysmem_counts.specs.declared.field.Field.TheVariants as field
use Rattle.sysmem_memory.specs.Wishes.{MemoryWishes}
use Rattle.constraint_edits.specs.declared.amount.Amount.{Amount}
use Rattle.constraint_edits.specs.declared.amount.Amount.TheVariants.{Number, Sides}

-- the count that is stated, or this one where none is
abbrev pub count_or : ℕ → Option Amount → Option ℕ
count_or absent None = Some absent
count_or absent (Some (Number n)) = if nat_le n most_number then Some n else None
count_or absent (Some (Sides width height)) = None

-- the counts after a field is left out, or has this amount
abbrev pub counts_edited : Field → Option Amount → CountConstraints → Option CountConstraints
counts_edited field.MinBufferCountForCamping amount c =
    option_map (λ n. record c { min_buffer_count_for_camping = n }) (count_or 0 amount)
counts_edited field.MinBufferCountForDedicatedSlack amount c =
    option_map (λ n. record c { min_buffer_count_for_dedicated_slack = n }) (count_or 0 amount)
counts_edited field.MinBufferCountForSharedSlack amount c =
    option_map (λ n. record c { min_buffer_count_for_shared_slack = n }) (count_or 0 amount)
counts_edited field.MinBufferCount amount c =
    option_map (λ n. record c { min_buffer_count = n }) (count_or 0 amount)
counts_edited field.MaxBufferCount amount c =
    option_map (λ n. record c { max_buffer_count = n }) (count_or most_number amount)
counts_edited _ amount c = None

-- the least count is the greatest, and the other way round
abbrev pub counts_exchanged : CountConstraints → CountConstraints
counts_exchanged c =
    record c { min_buffer_count = c.max_buffer_count; max_buffer_count = c.min_buffer_count }

-- the wishes after a field is left out, or has this amount
abbrev pub memory_edited : Field → Option Amount → MemoryWishes → Option MemoryWishes
memory_edited field.MinSizeBytes None m = Some (record m { min_size_bytes = 0 })
memory_edited field.MinSizeBytes (Some (Number n)) m = Some (record m { min_size_bytes = n })
memory_edited field.MaxSizeBytes None m = Some (record m { max_size_bytes = 2 ^ 64 - 1 })
memory_edited field.MaxSizeBytes (Some (Number n)) m = Some (record m { max_size_bytes = n })
memory_edited field.PhysicallyContiguousRequired None m =
    Some (record m { physically_contiguous_required = false })
memory_edited field.SecureRequired None m = Some (record m { secure_required = false })
memory_edited _ _ m = None

-- the wishes with a flag set: a coherency domain is supported, or contiguous or secure memory is
-- needed
abbrev pub supporting : Field → MemoryWishes → Option MemoryWishes
supporting field.CpuDomainSupported m = Some (record m { cpu_domain_supported = true })
supporting field.RamDomainSupported m = Some (record m { ram_domain_supported = true })
supporting field.InaccessibleDomainSupported m =
    Some (record m { inaccessible_domain_supported = true })
supporting field.PhysicallyContiguousRequired m =
    Some (record m { physically_contiguous_required = true })
supporting field.SecureRequired m = Some (record m { secure_required = true })
supporting _ m = None

-- the wishes with a coherency domain not supported
abbrev pub unsupporting : Field → MemoryWishes → Option MemoryWishes
unsupporting field.CpuDomainSupported m = Some (record m { cpu_domain_supported = false })
unsupporting field.RamDomainSupported m = Some (record m { ram_domain_supported = false })
unsupporting field.InaccessibleDomainSupported m =
    Some (record m { inaccessible_domain_supported = false })
unsupporting _ m = None

-- the least size is the greatest, and the other way round
abbrev pub sizes_exchanged : MemoryWishes → MemoryWishes
sizes_exchanged m =
    record m { min_size_bytes = m.max_size_bytes; max_size_bytes = m.min_size_bytes }
