-- The list of all fields leaves none out.
use Rattle.std.proofs.Common.{rules}
use Rattle.list_lemmas.specs.Each.{ListsEach}
use Rattle.sysmem_counts.specs.Field.{field_name}
use Rattle.sysmem_counts.specs.declared.field.TheConstants.Field.{ALL as fields}

pub listed_fields : ListsEach field_name fields
listed_fields x = search rules
