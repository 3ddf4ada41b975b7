-- The colour spaces that a record lists are those of the set.
use Rattle.std.proofs.Common.{◌≡◌, ◌≢◌, Bool, true, false, Ok, refl, ◌∙◌}
use Rattle.serde_json.specs.Data.{string, array, Items, no_items}
use Rattle.std.specs.Prelude.{codes}
use Rattle.sysmem_formats.specs.declared.colour_space.ColourSpace.TheVariants.{Srgb, Rec601Ntsc, Rec601NtscFullRange, Rec601Pal, Rec601PalFullRange, Rec709, Rec2020, Rec2100}
use Rattle.sysmem_image.specs.declared.colours.ColourSet.{ColourSet}
use Rattle.sysmem_image.specs.Colours.{no_colours}
use Rattle.record_reading.specs.declared.fault.Code.TheVariants as code
use Rattle.record_reading.specs.Faults.{wrong}
use Rattle.sysmem_counts.specs.declared.field.Field.TheVariants as field
use Rattle.record_reading.specs.Reading.Entries.{with_listed, colour_set_of}
use Rattle.record_reading.specs.Reading.Fields.{passing, read_each, has_items}
use Rattle.record_reading.specs.Reading.Names.{colour_named}
use Rattle.record_laws.specs.Records.{item_if, colour_record, colour_items}
use Rattle.record_laws.proofs.Each.{passes, next}

-- a set by its nine flags
abbrev set_by : Bool → Bool → Bool → Bool → Bool → Bool → Bool → Bool → Bool → ColourSet
set_by b0 b1 b2 b3 b4 b5 b6 b7 b8 = record { any = b0; srgb = b1; rec601_ntsc = b2; rec601_ntsc_full_range = b3; rec601_pal = b4; rec601_pal_full_range = b5; rec709 = b6; rec2020 = b7; rec2100 = b8 }

add_any : (b0 : Bool) (rest : Items) → read_each with_listed (set_by false false false false false false false false false) (item_if b0 (string (codes "DO_NOT_CARE")) rest) ≡ read_each with_listed (set_by b0 false false false false false false false false) rest
unfolding colour_named
add_any true rest = refl
add_any false rest = refl

add_srgb : (b0 b1 : Bool) (rest : Items) → read_each with_listed (set_by b0 false false false false false false false false) (item_if b1 (colour_record Srgb) rest) ≡ read_each with_listed (set_by b0 b1 false false false false false false false) rest
unfolding colour_named
add_srgb b0 true rest = refl
add_srgb b0 false rest = refl

add_rec601_ntsc : (b0 b1 b2 : Bool) (rest : Items) → read_each with_listed (set_by b0 b1 false false false false false false false) (item_if b2 (colour_record Rec601Ntsc) rest) ≡ read_each with_listed (set_by b0 b1 b2 false false false false false false) rest
unfolding colour_named
add_rec601_ntsc b0 b1 true rest = refl
add_rec601_ntsc b0 b1 false rest = refl

add_rec601_ntsc_full_range : (b0 b1 b2 b3 : Bool) (rest : Items) → read_each with_listed (set_by b0 b1 b2 false false false false false false) (item_if b3 (colour_record Rec601NtscFullRange) rest) ≡ read_each with_listed (set_by b0 b1 b2 b3 false false false false false) rest
unfolding colour_named
add_rec601_ntsc_full_range b0 b1 b2 true rest = refl
add_rec601_ntsc_full_range b0 b1 b2 false rest = refl

add_rec601_pal : (b0 b1 b2 b3 b4 : Bool) (rest : Items) → read_each with_listed (set_by b0 b1 b2 b3 false false false false false) (item_if b4 (colour_record Rec601Pal) rest) ≡ read_each with_listed (set_by b0 b1 b2 b3 b4 false false false false) rest
unfolding colour_named
add_rec601_pal b0 b1 b2 b3 true rest = refl
add_rec601_pal b0 b1 b2 b3 false rest = refl

add_rec601_pal_full_range : (b0 b1 b2 b3 b4 b5 : Bool) (rest : Items) → read_each with_listed (set_by b0 b1 b2 b3 b4 false false false false) (item_if b5 (colour_record Rec601PalFullRange) rest) ≡ read_each with_listed (set_by b0 b1 b2 b3 b4 b5 false false false) rest
unfolding colour_named
add_rec601_pal_full_range b0 b1 b2 b3 b4 true rest = refl
add_rec601_pal_full_range b0 b1 b2 b3 b4 false rest = refl

add_rec709 : (b0 b1 b2 b3 b4 b5 b6 : Bool) (rest : Items) → read_each with_listed (set_by b0 b1 b2 b3 b4 b5 false false false) (item_if b6 (colour_record Rec709) rest) ≡ read_each with_listed (set_by b0 b1 b2 b3 b4 b5 b6 false false) rest
unfolding colour_named
add_rec709 b0 b1 b2 b3 b4 b5 true rest = refl
add_rec709 b0 b1 b2 b3 b4 b5 false rest = refl

add_rec2020 : (b0 b1 b2 b3 b4 b5 b6 b7 : Bool) (rest : Items) → read_each with_listed (set_by b0 b1 b2 b3 b4 b5 b6 false false) (item_if b7 (colour_record Rec2020) rest) ≡ read_each with_listed (set_by b0 b1 b2 b3 b4 b5 b6 b7 false) rest
unfolding colour_named
add_rec2020 b0 b1 b2 b3 b4 b5 b6 true rest = refl
add_rec2020 b0 b1 b2 b3 b4 b5 b6 false rest = refl

add_rec2100 : (b0 b1 b2 b3 b4 b5 b6 b7 b8 : Bool) (rest : Items) → read_each with_listed (set_by b0 b1 b2 b3 b4 b5 b6 b7 false) (item_if b8 (colour_record Rec2100) rest) ≡ read_each with_listed (set_by b0 b1 b2 b3 b4 b5 b6 b7 b8) rest
unfolding colour_named
add_rec2100 b0 b1 b2 b3 b4 b5 b6 b7 true rest = refl
add_rec2100 b0 b1 b2 b3 b4 b5 b6 b7 false rest = refl

filled : (b0 b1 b2 b3 b4 b5 b6 b7 b8 : Bool) → set_by b0 b1 b2 b3 b4 b5 b6 b7 b8 ≢ no_colours → has_items (colour_items (set_by b0 b1 b2 b3 b4 b5 b6 b7 b8)) ≡ true
filled true b1 b2 b3 b4 b5 b6 b7 b8 some = refl
filled false true b2 b3 b4 b5 b6 b7 b8 some = refl
filled false false true b3 b4 b5 b6 b7 b8 some = refl
filled false false false true b4 b5 b6 b7 b8 some = refl
filled false false false false true b5 b6 b7 b8 some = refl
filled false false false false false true b6 b7 b8 some = refl
filled false false false false false false true b7 b8 some = refl
filled false false false false false false false true b8 some = refl
filled false false false false false false false false true some = refl
filled false false false false false false false false false some = absurd (some refl)

pub colour_set_stated : (s : ColourSet) → s ≢ no_colours → colour_set_of (array (colour_items s)) ≡ Ok s
colour_set_stated s some =
    next (passing (wrong code.NoColourSpaces field.ColorSpaces) has_items (colour_items s)) (colour_items s) _ (Ok s)
    (passes _ has_items (colour_items s) (filled s.any s.srgb s.rec601_ntsc s.rec601_ntsc_full_range s.rec601_pal s.rec601_pal_full_range s.rec709 s.rec2020 s.rec2100 some))
    (add_any s.any (item_if s.srgb (colour_record Srgb) (item_if s.rec601_ntsc (colour_record Rec601Ntsc) (item_if s.rec601_ntsc_full_range (colour_record Rec601NtscFullRange) (item_if s.rec601_pal (colour_record Rec601Pal) (item_if s.rec601_pal_full_range (colour_record Rec601PalFullRange) (item_if s.rec709 (colour_record Rec709) (item_if s.rec2020 (colour_record Rec2020) (item_if s.rec2100 (colour_record Rec2100) no_items))))))))
    ∙ add_srgb s.any s.srgb (item_if s.rec601_ntsc (colour_record Rec601Ntsc) (item_if s.rec601_ntsc_full_range (colour_record Rec601NtscFullRange) (item_if s.rec601_pal (colour_record Rec601Pal) (item_if s.rec601_pal_full_range (colour_record Rec601PalFullRange) (item_if s.rec709 (colour_record Rec709) (item_if s.rec2020 (colour_record Rec2020) (item_if s.rec2100 (colour_record Rec2100) no_items)))))))
    ∙ add_rec601_ntsc s.any s.srgb s.rec601_ntsc (item_if s.rec601_ntsc_full_range (colour_record Rec601NtscFullRange) (item_if s.rec601_pal (colour_record Rec601Pal) (item_if s.rec601_pal_full_range (colour_record Rec601PalFullRange) (item_if s.rec709 (colour_record Rec709) (item_if s.rec2020 (colour_record Rec2020) (item_if s.rec2100 (colour_record Rec2100) no_items))))))
    ∙ add_rec601_ntsc_full_range s.any s.srgb s.rec601_ntsc s.rec601_ntsc_full_range (item_if s.rec601_pal (colour_record Rec601Pal) (item_if s.rec601_pal_full_range (colour_record Rec601PalFullRange) (item_if s.rec709 (colour_record Rec709) (item_if s.rec2020 (colour_record Rec2020) (item_if s.rec2100 (colour_record Rec2100) no_items)))))
    ∙ add_rec601_pal s.any s.srgb s.rec601_ntsc s.rec601_ntsc_full_range s.rec601_pal (item_if s.rec601_pal_full_range (colour_record Rec601PalFullRange) (item_if s.rec709 (colour_record Rec709) (item_if s.rec2020 (colour_record Rec2020) (item_if s.rec2100 (colour_record Rec2100) no_items))))
    ∙ add_rec601_pal_full_range s.any s.srgb s.rec601_ntsc s.rec601_ntsc_full_range s.rec601_pal s.rec601_pal_full_range (item_if s.rec709 (colour_record Rec709) (item_if s.rec2020 (colour_record Rec2020) (item_if s.rec2100 (colour_record Rec2100) no_items)))
    ∙ add_rec709 s.any s.srgb s.rec601_ntsc s.rec601_ntsc_full_range s.rec601_pal s.rec601_pal_full_range s.rec709 (item_if s.rec2020 (colour_record Rec2020) (item_if s.rec2100 (colour_record Rec2100) no_items))
    ∙ add_rec2020 s.any s.srgb s.rec601_ntsc s.rec601_ntsc_full_range s.rec601_pal s.rec601_pal_full_range s.rec709 s.rec2020 (item_if s.rec2100 (colour_record Rec2100) no_items)
    ∙ add_rec2100 s.any s.srgb s.rec601_ntsc s.rec601_ntsc_full_range s.rec601_pal s.rec601_pal_full_range s.rec709 s.rec2020 s.rec2100 no_items)
