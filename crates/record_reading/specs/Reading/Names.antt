-- What the names in a record name.
use Rattle.std.specs.Prelude.{ℕ, List, Option, Some, None, codes, bytes_eq}
use Rattle.std.specs.Prelude.{find, option_map, if◌then◌else◌}
use Rattle.sysmem_formats.specs.declared.colour_space.ColourSpace.{ColourSpace}
use Rattle.sysmem_formats.specs.declared.colour_space.TheConstants.ColourSpace.{ALL as colours}
use Rattle.sysmem_formats.specs.declared.modifier.Modifier.{Modifier}
use Rattle.sysmem_formats.specs.declared.modifier.TheConstants.Modifier.{ALL as modifiers}
use Rattle.sysmem_formats.specs.declared.pixel_format.PixelFormat.{PixelFormat}
use Rattle.sysmem_formats.specs.declared.pixel_format.TheConstants.PixelFormat.{ALL as formats}
use Rattle.sysmem_formats.specs.Names.{format_name, modifier_name, colour_name}
use Rattle.sysmem_memory.specs.declared.domain.CoherencyDomain.{CoherencyDomain}
use Rattle.sysmem_memory.specs.declared.domain.TheConstants.CoherencyDomain.{ALL as domains}
use Rattle.sysmem_memory.specs.Domain.{domain_name}

-- the one of these that has the name
abbrev pub find_named : {X : Type 0} → (X → List ℕ) → List X → List ℕ → Option X
find_named name_of xs name = find (λ x. bytes_eq (name_of x) name) xs

unfoldable pub format_named : List ℕ → Option PixelFormat
format_named name = find_named format_name formats name

unfoldable pub modifier_named : List ℕ → Option Modifier
modifier_named name = find_named modifier_name modifiers name

unfoldable pub colour_named : List ℕ → Option ColourSpace
colour_named name = find_named colour_name colours name

unfoldable pub domain_named : List ℕ → Option CoherencyDomain
domain_named name = find_named domain_name domains name

-- DO_NOT_CARE, which is None, or what the name names
abbrev pub choice_named : {X : Type 0} → (List ℕ → Option X) → List ℕ → Option (Option X)
choice_named find name =
    if bytes_eq name (codes "DO_NOT_CARE") then Some None else option_map Some (find name)
