-- What a participant asks for beside images.
use Rattle.std.specs.Prelude.{◌^◌, ◌-◌, ◌||◌, ◌&&◌, not}
use Rattle.sysmem_counts.specs.Bounds.{most_number}
use Rattle.sysmem_counts.specs.declared.constraints.CountConstraints.{CountConstraints}
use Rattle.sysmem_memory.specs.Wishes.{MemoryWishes}
use Rattle.sysmem_memory.specs.declared.bounds.TheConstants.{MOST_HEAPS}
use Rattle.flat_negotiation.specs.declared.parts.flat.FlatParticipant.{FlatParticipant}
use Rattle.flat_negotiation.specs.Heaps.{permitted_said}
use Rattle.flat_negotiation.specs.Stated.{stated}

abbrev pub counts_said : FlatParticipant → CountConstraints
counts_said p = record {
  min_buffer_count_for_camping = p.camping;
  min_buffer_count_for_dedicated_slack = p.dedicated_slack;
  min_buffer_count_for_shared_slack = p.shared_slack;
  min_buffer_count = p.min_count;
  max_buffer_count = stated most_number p.max_count;
}

-- the domain cpu is taken where it is named, and where none is
abbrev pub memory_said : FlatParticipant → MemoryWishes
memory_said p = record {
  min_size_bytes = p.min_bytes;
  max_size_bytes = stated (2 ^ 64 - 1) p.max_bytes;
  physically_contiguous_required = p.contiguous;
  secure_required = p.secure;
  cpu_domain_supported = p.cpu || (not p.ram && not p.inaccessible);
  ram_domain_supported = p.ram;
  inaccessible_domain_supported = p.inaccessible;
  permitted_heaps = permitted_said MOST_HEAPS p.heaps;
}
