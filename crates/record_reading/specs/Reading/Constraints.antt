-- What a participant's record says.
use Rattle.std.specs.Prelude.{◌-◌, ◌^◌, List, [], ◌∷◌, true, false, Option, None, Result, Ok}
use Rattle.std.specs.Int.RustNames.{bit_or}
use Rattle.serde_json.specs.Data.{Data}
use Rattle.sysmem_counts.specs.declared.constraints.CountConstraints.{CountConstraints}
use Rattle.sysmem_counts.specs.declared.field.Field.{Field}
use Rattle.sysmem_counts.specs.declared.field.Field.TheVariants as field
use Rattle.sysmem_counts.specs.declared.usage.Usage.{Usage}
use Rattle.sysmem_counts.specs.Families.{family_named}
use Rattle.sysmem_counts.specs.Usage.{usage_bits}
use Rattle.sysmem_memory.specs.Wishes.{MemoryWishes, no_wishes}
use Rattle.record_reading.specs.declared.fault.Code.TheVariants as code
use Rattle.record_reading.specs.declared.fault.Fault.{Fault}
use Rattle.record_reading.specs.declared.fault.FaultPlace.TheVariants.{Whole, At}
use Rattle.record_reading.specs.Faults.{wrong}
use Rattle.negotiation_inputs.specs.Participant.{Participant}
pub use Rattle.negotiation_inputs.specs.Usage.{is_usage}
use Rattle.sysmem_counts.specs.Bounds.{most_number}
use Rattle.record_reading.specs.Reading.Entries.{entries_of}
use Rattle.record_reading.specs.Reading.Fields.{◌>>=◌, passing, read_each, object_of, optional}
use Rattle.record_reading.specs.Reading.Fields.{stated, number_or, flag_or, list_of, named}
use Rattle.record_reading.specs.Reading.Heaps.{permitted_of}

-- before the first item
abbrev pub no_usage : Usage
no_usage = record { 0 = 0 }

-- a usage, and the family that an item names; a repeated one counts once
abbrev pub with_family : Usage → Data → Result Usage Fault
with_family usage d = do
  family ← named family_named field.Usage d
  Ok (record { 0 = bit_or (usage_bits usage) family })

-- a list of families
abbrev pub usage_of : Data → Result Usage Fault
usage_of d = do
  items ← list_of field.Usage d
  usage ← read_each with_family no_usage items
  passing (wrong code.BadUsage field.Usage) is_usage usage

-- the buffers that are asked for: what is missing asks for none, and sets no limit
abbrev pub counts_of : Data → Result CountConstraints Fault
counts_of d = do
  camping ← number_or field.MinBufferCountForCamping 0 most_number d
  dedicated ← number_or field.MinBufferCountForDedicatedSlack 0 most_number d
  shared ← number_or field.MinBufferCountForSharedSlack 0 most_number d
  minimum ← number_or field.MinBufferCount 0 most_number d
  maximum ← number_or field.MaxBufferCount most_number most_number d
  Ok (record {
    min_buffer_count_for_camping = camping;
    min_buffer_count_for_dedicated_slack = dedicated;
    min_buffer_count_for_shared_slack = shared;
    min_buffer_count = minimum;
    max_buffer_count = maximum;
  })

-- the fields of memory constraints
abbrev pub memory_fields : List Field
memory_fields = field.MinSizeBytes ∷ field.MaxSizeBytes ∷ field.PhysicallyContiguousRequired
    ∷ field.SecureRequired ∷ field.CpuDomainSupported ∷ field.RamDomainSupported
    ∷ field.InaccessibleDomainSupported ∷ field.PermittedHeaps ∷ []

-- what is asked of memory: where nothing is said, any size, the domain cpu alone, and every heap
abbrev pub memory_of : Option Field → Data → Result MemoryWishes Fault
memory_of lack d = do
  _ ← object_of (At field.BufferMemoryConstraints) memory_fields d
  min_size ← number_or field.MinSizeBytes 0 (2 ^ 64 - 1) d
  max_size ← number_or field.MaxSizeBytes (2 ^ 64 - 1) (2 ^ 64 - 1) d
  contiguous ← flag_or field.PhysicallyContiguousRequired false d
  secure ← flag_or field.SecureRequired false d
  cpu ← flag_or field.CpuDomainSupported true d
  ram ← flag_or field.RamDomainSupported false d
  inaccessible ← flag_or field.InaccessibleDomainSupported false d
  heaps ← optional field.PermittedHeaps [] (permitted_of lack) d
  Ok (record {
    min_size_bytes = min_size;
    max_size_bytes = max_size;
    physically_contiguous_required = contiguous;
    secure_required = secure;
    cpu_domain_supported = cpu;
    ram_domain_supported = ram;
    inaccessible_domain_supported = inaccessible;
    permitted_heaps = heaps;
  })

-- the fields of a participant's constraints
abbrev pub constraints_fields : List Field
constraints_fields = field.Usage ∷ field.MinBufferCountForCamping
    ∷ field.MinBufferCountForDedicatedSlack ∷ field.MinBufferCountForSharedSlack
    ∷ field.MinBufferCount ∷ field.MaxBufferCount ∷ field.BufferMemoryConstraints
    ∷ field.ImageFormatConstraints ∷ []

-- the participant that a value states, or its first fault, while memory for one field, or for none,
-- is refused
abbrev pub participant_with : Option Field → Data → Result Participant Fault
participant_with lack d = do
  _ ← object_of Whole constraints_fields d
  usage ← stated code.BadUsage field.Usage d >>= usage_of
  counts ← counts_of d
  memory ← optional field.BufferMemoryConstraints no_wishes (memory_of lack) d
  entries ← optional field.ImageFormatConstraints [] (entries_of lack) d
  Ok (record { usage = usage; counts = counts; memory = memory; entries = entries })

-- the participant that a value states, or its first fault
abbrev pub participant_of : Data → Result Participant Fault
participant_of d = participant_with None d
