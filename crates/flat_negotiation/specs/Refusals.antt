-- Refusals as a C program is told them.
use Rattle.std.specs.Prelude.{ℕ, ◌^◌, ◌-◌, Option, Some, None, if◌then◌else◌}
use Rattle.std.specs.Option.{unwrap_or, option_map_or}
use Rattle.drm_images.specs.Codes.{fourcc, modifier_bits}
use Rattle.sysmem_counts.specs.declared.field.Field.{Field}
use Rattle.sysmem_counts.specs.declared.field.Field.TheVariants as field
use Rattle.sysmem_formats.specs.declared.offer.Offer.{Offer}
use Rattle.sysmem_formats.specs.declared.offer.Offer.TheVariants as offer
use Rattle.sysmem_merge.specs.declared.reason.Reason.{Reason}
use Rattle.sysmem_merge.specs.declared.reason.Reason.TheVariants.{Count, NoPlace, NoOffer}
use Rattle.sysmem_merge.specs.declared.settings.Settings.{Settings}
use Rattle.flat_negotiation.specs.Colours.{colour_bit}
use Rattle.flat_negotiation.specs.declared.flat.FlatRefusal.{FlatRefusal}
use Rattle.flat_negotiation.specs.declared.unsettled.Refusal.{Refusal}
use Rattle.flat_negotiation.specs.declared.unsettled.Unsettled.{Unsettled}
use Rattle.flat_negotiation.specs.declared.unsettled.Unsettled.TheVariants as why
use Rattle.flat_negotiation.specs.Blame.{told_reason}
use Rattle.flat_negotiation.specs.Written.{domain_code}

-- a field's number, in the order in which records are read
abbrev pub field_number : Field → ℕ
field_number field.Usage = 1
field_number field.MinBufferCountForCamping = 2
field_number field.MinBufferCountForDedicatedSlack = 3
field_number field.MinBufferCountForSharedSlack = 4
field_number field.MinBufferCount = 5
field_number field.MaxBufferCount = 6
field_number field.BufferMemoryConstraints = 7
field_number field.ImageFormatConstraints = 8
field_number field.MinSizeBytes = 9
field_number field.MaxSizeBytes = 10
field_number field.PhysicallyContiguousRequired = 11
field_number field.SecureRequired = 12
field_number field.CpuDomainSupported = 13
field_number field.RamDomainSupported = 14
field_number field.InaccessibleDomainSupported = 15
field_number field.PermittedHeaps = 16
field_number field.PixelFormat = 17
field_number field.PixelFormatModifier = 18
field_number field.PixelFormatAndModifiers = 19
field_number field.ColorSpaces = 20
field_number field.MinSize = 21
field_number field.MaxSize = 22
field_number field.SizeAlignment = 23
field_number field.MinBytesPerRow = 24
field_number field.MaxBytesPerRow = 25
field_number field.BytesPerRowDivisor = 26
field_number field.StartOffsetDivisor = 27
field_number field.DisplayRectAlignment = 28
field_number field.RequiredMinSize = 29
field_number field.RequiredMaxSize = 30
field_number field.MaxWidthTimesHeight = 31
field_number field.RequireBytesPerRowAtPixelBoundary = 32
field_number field.BufferCountLimit = 33
field_number field.UnnamedPixelFormat = 34
field_number field.UnnamedPixelFormatModifier = 35
field_number field.UnnamedColorSpace = 36
field_number field.Heaps = 37
field_number field.Pairs = 38
field_number field.HeapType = 39
field_number field.Id = 40
field_number field.Contiguous = 41
field_number field.Secure = 42
field_number field.Domains = 43

-- where it is no participant
abbrev pub nobody : ℕ
nobody = 2 ^ 64 - 1

-- a refusal without settings that others share
abbrev pub refusal_with : ℕ → ℕ → ℕ → ℕ → ℕ → FlatRefusal
refusal_with size kind who index number = record {
  struct_size = size;
  who = who;
  index = index;
  heap = 0;
  modifier = 0;
  format = 0;
  colour = 0;
  coherency = 0;
  kind = kind;
  field = number;
  alone = 0;
}

-- the number of what there are none of
abbrev pub kind_of : Reason → ℕ
kind_of (Count _) = 4
kind_of NoPlace = 5
kind_of NoOffer = 6

-- what is told of an offer that others share
abbrev pub with_offer : Offer → FlatRefusal → FlatRefusal
with_offer offer.NoImage r = r
with_offer (offer.Image pair colour) r =
    record r {
      modifier = modifier_bits pair.modifier;
      format = unwrap_or (fourcc pair.format) 0;
      colour = colour_bit colour;
    }

-- what is told of settings that others share
abbrev pub with_shared : Option Settings → FlatRefusal → FlatRefusal
with_shared None r = r
with_shared (Some s) r = record r { heap = s.place.heap; coherency = domain_code s.place.coherency }

-- the number of whether there is such a reason
abbrev pub lone_number : Option Reason → ℕ
lone_number None = 0
lone_number (Some reason) = 1

-- what is told of who is in the way
abbrev pub told_refusal : ℕ → Refusal → FlatRefusal
told_refusal size r =
    record (refusal_with size (kind_of (told_reason r))
    (if r.stop.whole then nobody else r.stop.who) 0 (field_number r.field))
    { alone = lone_number r.lone }

-- what is told where no settings meet them
abbrev pub unmet_refusal : ℕ → Refusal → FlatRefusal
unmet_refusal size r =
    option_map_or (λ o. with_offer o (with_shared r.stop.shared (told_refusal size r))) r.offer
    (with_shared r.stop.shared (told_refusal size r))

-- what is told of why there are no settings
abbrev pub flat_refusal : ℕ → Unsettled → FlatRefusal
flat_refusal size why.NoMemory = refusal_with size 0 nobody 0 0
flat_refusal size (why.Platform amiss) =
    refusal_with size 1 nobody amiss.index (field_number amiss.field)
flat_refusal size (why.Participant who amiss) =
    refusal_with size 2 who amiss.index (field_number amiss.field)
flat_refusal size why.TooMany = refusal_with size 3 nobody 0 0
flat_refusal size (why.Unmet r) = unmet_refusal size r
