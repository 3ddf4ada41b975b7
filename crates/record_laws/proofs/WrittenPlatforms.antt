-- What is written of a platform is read as the platform.
use Rattle.std.proofs.Common.{◌≡◌, true, Some, None, Ok, refl}
use Rattle.serde_json.specs.Data.{string}
use Rattle.sysmem_counts.specs.declared.field.Field.TheVariants as field
use Rattle.sysmem_formats.specs.declared.modifier.Modifier.{Modifier}
use Rattle.sysmem_formats.specs.declared.modifier.Modifier.TheVariants.{Linear, IntelXTiled, IntelYTiled}
use Rattle.sysmem_formats.specs.declared.offer.Pair.{Pair}
use Rattle.sysmem_formats.specs.declared.pixel_format.PixelFormat.{PixelFormat}
use Rattle.sysmem_formats.specs.Names.{format_name, modifier_name}
use Rattle.record_reading.specs.declared.fault.Code.TheVariants as code
use Rattle.record_reading.specs.declared.fault.FaultPlace.TheVariants.{Whole, At}
use Rattle.record_reading.specs.Reading.Fields.{is_key_of, object_of, optional, required, named}
use Rattle.record_reading.specs.Reading.Heaps.{heaps_of}
use Rattle.record_reading.specs.Reading.Names.{format_named, modifier_named}
use Rattle.record_reading.specs.Reading.Pairs.{pair_fields}
use Rattle.record_reading.specs.Reading.Platform.{platform_fields, pair_of, pairs_of, colours_of}
use Rattle.record_laws.specs.Laws.{WrittenPlatformIsRead}
use Rattle.record_laws.specs.Records.{list, colour_record}
use Rattle.record_laws.specs.Sparse.{unless, heap_written, is_usual, formats_said, pair_written, platform_said, platform_written}
use Rattle.record_laws.proofs.Each.{next}
use Rattle.record_laws.proofs.Names.{named_stated}
use Rattle.record_laws.proofs.Platforms.{pairs_by, colours_list}
use Rattle.record_laws.proofs.Said.{object_taken, optional_reads, required_reads, unless_reads}
use Rattle.record_laws.proofs.WrittenHeaps.{heaps_back}
use Rattle.sysmem_sanitise.proofs.CallerLemmas.{own_format_name, own_modifier_name}

linear : (f : PixelFormat) (m : Modifier) → is_usual (Some f) (Some m) ≡ true → m ≡ Linear
linear f Linear usual = refl
linear f IntelXTiled usual = absurd (cc)
linear f IntelYTiled usual = absurd (cc)

pair_read : (p : Pair) → pair_of (pair_written p) ≡ Ok p
unfolding is_key_of
pair_read p =
    let fs = formats_said (Some p.format) (Some p.modifier) in
    let usual = is_usual (Some p.format) (Some p.modifier) in
    let read_modifier = named modifier_named field.PixelFormatModifier in
    let spelt = string (modifier_name p.modifier) in
    next (object_of (At field.Pairs) pair_fields (pair_written p)) (pair_written p) _ (Ok p) (object_taken (At field.Pairs) pair_fields fs refl)
    (next (required field.PixelFormat (named format_named field.PixelFormat) (pair_written p)) p.format _ (Ok p)
    (required_reads code.WrongKind field.PixelFormat p.format (named format_named field.PixelFormat) fs (string (format_name p.format)) refl
    (named_stated format_named field.PixelFormat (format_name p.format) p.format (own_format_name p.format)))
    (next (optional field.PixelFormatModifier Linear read_modifier (pair_written p)) p.modifier _ (Ok p)
    (optional_reads field.PixelFormatModifier Linear p.modifier read_modifier fs (unless usual spelt) refl
    (unless_reads Linear p.modifier read_modifier usual spelt (linear p.format p.modifier)
    (named_stated modifier_named field.PixelFormatModifier (modifier_name p.modifier) p.modifier (own_modifier_name p.modifier)))) refl))

pub platform_read : WrittenPlatformIsRead
unfolding is_key_of
platform_read p is small =
    let fs = platform_said p in
    next (object_of Whole platform_fields (platform_written p)) (platform_written p) _ (Ok p) (object_taken Whole platform_fields fs refl)
    (next (required field.Heaps (heaps_of None) (platform_written p)) p.heaps _ (Ok p)
    (required_reads code.WrongKind field.Heaps p.heaps (heaps_of None) fs (list heap_written p.heaps) refl (heaps_back p.heaps is.some_heaps is.few_heaps is.distinct_heaps is.each_heap small))
    (next (required field.Pairs (pairs_of None) (platform_written p)) p.pairs _ (Ok p)
    (required_reads code.WrongKind field.Pairs p.pairs (pairs_of None) fs (list pair_written p.pairs) refl (pairs_by pair_written p.pairs is.some_pairs is.distinct_pairs is.fitting_pairs pair_read))
    (next (required field.ColorSpaces (colours_of None) (platform_written p)) p.colours _ (Ok p)
    (required_reads code.WrongKind field.ColorSpaces p.colours (colours_of None) fs (list colour_record p.colours) refl (colours_list p.colours is.some_colours is.distinct_colours)) refl)))
