-- What records state, and where one contradicts itself.
use Rattle.std.specs.Prelude.{◌≡◌, ◌||◌, Bool, true, false, nat_lt}
use Rattle.std.specs.Prelude.{Contains, IfSome, Option, Some, None}
use Rattle.sysmem_counts.specs.declared.field.Field.{Field}
use Rattle.sysmem_counts.specs.declared.field.Field.TheVariants as field
use Rattle.sysmem_image.specs.declared.bounds.ImageBounds.{ImageBounds}
use Rattle.sysmem_image.specs.declared.entry.Entry.{Entry}
use Rattle.negotiation_inputs.specs.Participant.{Participant}
use Rattle.settings_reasons.specs.declared.amounts.Amount.{Amount}
use Rattle.settings_reasons.specs.declared.amounts.Amount.TheVariants.{Number, Sides}

-- whether an amount is above another one of its kind: of two sizes, whether it is wider or higher
abbrev pub is_above : Amount → Amount → Bool
is_above (Number mine) (Number most) = nat_lt most mine
is_above (Sides mine) (Sides most) =
    nat_lt most.width mine.width || nat_lt most.height mine.height
is_above _ _ = false

-- what bounds state at a field; 0 where it is none of theirs
abbrev pub bound_at : ImageBounds → Field → Amount
bound_at b field.MinSize = Sides b.min_size
bound_at b field.MaxSize = Sides b.max_size
bound_at b field.SizeAlignment = Sides b.size_alignment
bound_at b field.MinBytesPerRow = Number b.min_bytes_per_row
bound_at b field.MaxBytesPerRow = Number b.max_bytes_per_row
bound_at b field.BytesPerRowDivisor = Number b.bytes_per_row_divisor
bound_at b field.StartOffsetDivisor = Number b.start_offset_divisor
bound_at b field.DisplayRectAlignment = Sides b.display_rect_alignment
bound_at b field.RequiredMinSize = Sides b.required_min_size
bound_at b field.RequiredMaxSize = Sides b.required_max_size
bound_at b field.MaxWidthTimesHeight = Number b.max_width_times_height
bound_at b _ = Number 0

-- what a participant states at a field apart from its entries; 0 where it is none of these
abbrev pub whole_at : Participant → Field → Amount
whole_at p field.MinBufferCount = Number p.counts.min_buffer_count
whole_at p field.MaxBufferCount = Number p.counts.max_buffer_count
whole_at p field.MinBufferCountForSharedSlack =
    Number p.counts.min_buffer_count_for_shared_slack
whole_at p field.MinSizeBytes = Number p.memory.min_size_bytes
whole_at p field.MaxSizeBytes = Number p.memory.max_size_bytes
whole_at p _ = Number 0

-- what a participant states at a field: in an entry, or apart from its entries
abbrev pub stated_at : Participant → Option Entry → Field → Amount
stated_at p None field = whole_at p field
stated_at p (Some entry) field = bound_at entry.bounds.asked field

-- two fields of a participant's record, in one of its entries or apart from these
pub record ClashFacts : Type 0 where
  pub participant : Participant
  pub entry : Option Entry
  pub least : Field
  pub most : Field

-- the entry is its own, and what it states at the first is above what it states at the second
pub record IsClash (c : ClashFacts) : Type 0 where
  pub own : IfSome c.entry (Contains c.participant.entries)
  pub above : is_above (stated_at c.participant c.entry c.least)
      (stated_at c.participant c.entry c.most) ≡ true
