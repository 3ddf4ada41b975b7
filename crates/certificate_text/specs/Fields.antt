-- Names of fields, read.
use Rattle.std.specs.Prelude.{ℕ, List, Option}
use Rattle.sysmem_counts.specs.declared.field.Field.{Field}
use Rattle.sysmem_counts.specs.declared.field.TheConstants.Field.{ALL as all_fields}
use Rattle.sysmem_counts.specs.Field.{field_name}
use Rattle.record_reading.specs.Reading.Names.{find_named}

-- the field of this name
unfoldable pub field_named : List ℕ → Option Field
field_named name = find_named field_name all_fields name
