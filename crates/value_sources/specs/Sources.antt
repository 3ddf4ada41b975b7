-- Who asks for a number.
use Rattle.std.specs.Prelude.{◌≡◌, ℕ, Bool, true, false, List, Any, map, nat_lt}
use Rattle.std.specs.Option.{option_map_or}
use Rattle.sysmem_counts.specs.declared.constraints.CountConstraints.{CountConstraints}
use Rattle.sysmem_formats.specs.declared.offer.Offer.{Offer}
use Rattle.sysmem_image.specs.Entries.{first_match}
use Rattle.sysmem_image.specs.declared.entry.Entry.{Entry}
use Rattle.sysmem_image.specs.declared.size.Size.{Size}
use Rattle.negotiation_inputs.specs.Participant.{Participant}
use Rattle.value_sources.specs.declared.participant.NamedParticipant.{NamedParticipant}
use Rattle.value_sources.specs.declared.counting.CountPart.{CountPart}
use Rattle.value_sources.specs.declared.counting.CountPart.TheVariants.{Camping, Dedicated, Shared}
use Rattle.value_sources.specs.declared.counting.CountPart.TheVariants.{Minimum}
use Rattle.value_sources.specs.declared.wishes.Side.{Side}
use Rattle.value_sources.specs.declared.wishes.Side.TheVariants.{Width, Height}
use Rattle.value_sources.specs.declared.wishes.Wish.{Wish}
use Rattle.value_sources.specs.declared.wishes.Wish.TheVariants.{Least, Most, RequiredLeast}
use Rattle.value_sources.specs.declared.wishes.Wish.TheVariants.{RequiredMost}
use Rattle.value_sources.specs.declared.wishes.Wish.TheVariants.{Alignment, LeastRow, MostRow}
use Rattle.value_sources.specs.declared.wishes.Wish.TheVariants.{RowDivisor}
use Rattle.value_sources.specs.declared.wishes.Wish.TheVariants.{WholePixels, MostPixels}

-- what participants ask, in their order
abbrev pub all_asked : List NamedParticipant → List Participant
all_asked participants = map (λ one. one.asked.now) participants

-- somebody of this name has this number
abbrev pub IsNumberOf : (NamedParticipant → ℕ) → List NamedParticipant → List ℕ → ℕ → Type 0
IsNumberOf number participants name n =
    Any (λ one. (one.name.now ≡ name) × (number one ≡ n)) participants

-- what participants ask of the count, in their order
abbrev pub counts_of : List NamedParticipant → List CountConstraints
counts_of participants = map (λ one. one.asked.now.counts) participants

-- a part of the count that a participant asks for
abbrev pub part_of : CountPart → NamedParticipant → ℕ
part_of Camping one = one.asked.now.counts.min_buffer_count_for_camping
part_of Dedicated one = one.asked.now.counts.min_buffer_count_for_dedicated_slack
part_of Shared one = one.asked.now.counts.min_buffer_count_for_shared_slack
part_of Minimum one = one.asked.now.counts.min_buffer_count

-- whether a participant takes fewer buffers than so many
abbrev pub takes_fewer : ℕ → NamedParticipant → Bool
takes_fewer count one = nat_lt one.asked.now.counts.max_buffer_count count

-- a side of a size
abbrev pub side_of : Side → Size → ℕ
side_of Width size = size.width
side_of Height size = size.height

-- the bytes of a pixel where rows are to end at a whole one, else 1
abbrev pub whole_pixels : Bool → ℕ → ℕ
whole_pixels true bytes = bytes
whole_pixels false bytes = 1

-- a number that an entry asks for
abbrev pub wish_of : Wish → Entry → ℕ
wish_of (Least side) entry = side_of side entry.bounds.asked.min_size
wish_of (Most side) entry = side_of side entry.bounds.asked.max_size
wish_of (RequiredLeast side) entry = side_of side entry.bounds.asked.required_min_size
wish_of (RequiredMost side) entry = side_of side entry.bounds.asked.required_max_size
wish_of (Alignment side) entry = side_of side entry.bounds.asked.size_alignment
wish_of LeastRow entry = entry.bounds.asked.min_bytes_per_row
wish_of MostRow entry = entry.bounds.asked.max_bytes_per_row
wish_of RowDivisor entry = entry.bounds.asked.bytes_per_row_divisor
wish_of (WholePixels bytes) entry = whole_pixels entry.bounds.at_pixel_boundary bytes
wish_of MostPixels entry = entry.bounds.asked.max_width_times_height

-- what a participant's entry for the offer asks for; this number where it has none
abbrev pub wish_or : ℕ → Offer → Wish → NamedParticipant → ℕ
wish_or absent offer wish one =
    option_map_or (wish_of wish) (first_match offer one.asked.now.entries) absent
