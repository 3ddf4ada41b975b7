-- The colour spaces that an entry lists.
use Rattle.std.specs.Prelude.{Bool, true, false, ◌||◌}
use Rattle.sysmem_formats.specs.declared.colour_space.ColourSpace.{ColourSpace}
use Rattle.sysmem_formats.specs.declared.colour_space.ColourSpace.TheVariants.{Srgb, Rec601Ntsc}
use Rattle.sysmem_formats.specs.declared.colour_space.ColourSpace.TheVariants.{Rec601NtscFullRange}
use Rattle.sysmem_formats.specs.declared.colour_space.ColourSpace.TheVariants.{Rec601Pal}
use Rattle.sysmem_formats.specs.declared.colour_space.ColourSpace.TheVariants.{Rec601PalFullRange}
use Rattle.sysmem_formats.specs.declared.colour_space.ColourSpace.TheVariants.{Rec709, Rec2020}
use Rattle.sysmem_formats.specs.declared.colour_space.ColourSpace.TheVariants.{Rec2100}
use Rattle.sysmem_image.specs.declared.colours.ColourSet.{ColourSet}

-- whether DO_NOT_CARE is listed
abbrev pub lists_any : ColourSet → Bool
lists_any set = set.any

-- whether the colour space itself is listed
abbrev pub lists : ColourSet → ColourSpace → Bool
lists set Srgb = set.srgb
lists set Rec601Ntsc = set.rec601_ntsc
lists set Rec601NtscFullRange = set.rec601_ntsc_full_range
lists set Rec601Pal = set.rec601_pal
lists set Rec601PalFullRange = set.rec601_pal_full_range
lists set Rec709 = set.rec709
lists set Rec2020 = set.rec2020
lists set Rec2100 = set.rec2100

-- whether the colour space or DO_NOT_CARE is listed
abbrev pub accepts : ColourSet → ColourSpace → Bool
accepts set colour = lists_any set || lists set colour

-- nothing is listed
abbrev pub no_colours : ColourSet
no_colours = record {
  any = false;
  srgb = false;
  rec601_ntsc = false;
  rec601_ntsc_full_range = false;
  rec601_pal = false;
  rec601_pal_full_range = false;
  rec709 = false;
  rec2020 = false;
  rec2100 = false;
}

-- DO_NOT_CARE is listed too
abbrev pub with_any : ColourSet → ColourSet
with_any set = record set { any = true }

-- the colour space is listed too
abbrev pub with_colour : ColourSet → ColourSpace → ColourSet
with_colour set Srgb = record set { srgb = true }
with_colour set Rec601Ntsc = record set { rec601_ntsc = true }
with_colour set Rec601NtscFullRange = record set { rec601_ntsc_full_range = true }
with_colour set Rec601Pal = record set { rec601_pal = true }
with_colour set Rec601PalFullRange = record set { rec601_pal_full_range = true }
with_colour set Rec709 = record set { rec709 = true }
with_colour set Rec2020 = record set { rec2020 = true }
with_colour set Rec2100 = record set { rec2100 = true }
