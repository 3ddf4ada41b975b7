-- Pairs of a format and a modifier.
use Rattle.std.specs.Prelude.{List, [], ◌∷◌}
use Rattle.sysmem_counts.specs.declared.field.Field.{Field}
use Rattle.sysmem_counts.specs.declared.field.Field.TheVariants as field
pub use Rattle.negotiation_inputs.specs.Pairs.{same_pair, has_pair, same_colour, lists_colour}
pub use Rattle.negotiation_inputs.specs.Pairs.{is_tiled_misfit}

-- the fields of a pair
abbrev pub pair_fields : List Field
pair_fields = field.PixelFormat ∷ field.PixelFormatModifier ∷ []
