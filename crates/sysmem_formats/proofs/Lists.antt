-- The lists of all formats, modifiers and colour spaces leave nothing out.
use Rattle.std.proofs.Common.{rules}
use Rattle.list_lemmas.specs.Each.{ListsEach}
use Rattle.sysmem_formats.specs.Names.{colour_name, format_name, modifier_name}
use Rattle.sysmem_formats.specs.declared.colour_space.TheConstants.ColourSpace.{ALL as colours}
use Rattle.sysmem_formats.specs.declared.modifier.TheConstants.Modifier.{ALL as modifiers}
use Rattle.sysmem_formats.specs.declared.pixel_format.TheConstants.PixelFormat.{ALL as formats}

pub listed_formats : ListsEach format_name formats
listed_formats x = search rules

pub listed_modifiers : ListsEach modifier_name modifiers
listed_modifiers x = search rules

pub listed_colours : ListsEach colour_name colours
listed_colours x = search rules
