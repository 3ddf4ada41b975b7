-- What callers need of the definitions of records: what names name, that what `==` calls equal is
-- equal, that a platform's record states a platform, and what the parts of a participant's record
-- state.
pub use Rattle.record_reading.proofs.Names.{named_by, format_found, modifier_found, colour_found, domain_found, own_format_name, own_modifier_name, own_colour_name, own_domain_name}
pub use Rattle.record_reading.proofs.Participants.{usage_of-is, memory-permits, entries-are, ArePermitted, AreEntries}
pub use Rattle.record_reading.proofs.Refusals.{later-participant}
pub use Rattle.negotiation_inputs.proofs.CallerLemmas.{same_pair, same_colour, same_bounds}
use Rattle.std.proofs.Common.{◌≡◌, ◌≤◌, ◌-◌, ◌^◌, Ok}
use Rattle.std.specs.Prelude.{All}
use Rattle.serde_json.specs.Data.{Data}
use Rattle.sysmem_image.specs.declared.entry.EntryBounds.{EntryBounds}
use Rattle.record_reading.specs.Reading.Bounds.{stated_by, bounds_by}
use Rattle.negotiation_inputs.specs.Platform.{PlatformFacts, IsPlatform}
use Rattle.record_reading.specs.Reading.{platform_of}
use Rattle.record_reading.proofs.Bounds as bounds
use Rattle.record_reading.proofs.Platforms.{platform_of-is}

-- bounds are those of their numbers
pub bounds_by_numbers : (b : EntryBounds) → bounds_by (stated_by b) ≡ b
bounds_by_numbers = bounds.bounds_by-stated_by

-- what a platform's record states is what a platform may have
pub stated_platform : (d : Data) (p : PlatformFacts) → platform_of d ≡ Ok p → IsPlatform p.heaps p.pairs p.colours
stated_platform d p gives = (platform_of-is d p gives).platform

-- and the ids of its heaps are of 64 bits
pub stated_ids : (d : Data) (p : PlatformFacts) → platform_of d ≡ Ok p → All (λ h. h.heap.id ≤ 2 ^ 64 - 1) p.heaps
stated_ids d p gives = (platform_of-is d p gives).ids
