-- What is amiss in a list of structs.
use Rattle.std.specs.Prelude.{List, IsSomeAnd, slice_get}
use Rattle.sysmem_counts.specs.declared.field.Field.{Field}
use Rattle.flat_negotiation.specs.declared.parts.unsaid.Amiss.{Amiss}
use Rattle.flat_negotiation.specs.declared.parts.unsaid.Unsaid.{Unsaid}
use Rattle.flat_negotiation.specs.declared.parts.unsaid.Unsaid.TheVariants.{NoMemory, Misstated}

-- the item of this index is amiss in the field
abbrev pub IsAmiss : {X : Type 0} → (Field → X → Type 0) → List X → Amiss → Type 0
IsAmiss Bad xs amiss = IsSomeAnd (slice_get xs amiss.index) (Bad amiss.field)

-- where it isn't for want of memory
abbrev pub IfAmiss : (Amiss → Type 0) → Unsaid → Type 0
IfAmiss P NoMemory = Unit {0}
IfAmiss P (Misstated amiss) = P amiss
