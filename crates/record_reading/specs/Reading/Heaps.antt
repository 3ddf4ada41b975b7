-- What a heap's name says, and what a platform's heap says.
use Rattle.std.specs.Prelude.{ℕ, ◌-◌, ◌^◌, ◌++◌, ◌==◌, List, [], ◌∷◌, length}
use Rattle.std.specs.Prelude.{true, false, not, Option, Result, Ok, nat_lt}
use Rattle.serde_json.specs.Data.{Data}
use Rattle.sysmem_counts.specs.declared.field.Field.{Field}
use Rattle.sysmem_counts.specs.declared.field.Field.TheVariants as field
use Rattle.sysmem_memory.specs.declared.bounds.TheConstants.{MOST_HEAPS}
use Rattle.sysmem_memory.specs.declared.domain.CoherencyDomain.{CoherencyDomain}
use Rattle.sysmem_memory.specs.declared.domain.CoherencyDomain.TheVariants.{Cpu, Ram, Inaccessible}
use Rattle.sysmem_memory.specs.declared.domain.CoherencyDomains.{CoherencyDomains}
use Rattle.sysmem_memory.specs.Domain.{has_domain}
use Rattle.sysmem_memory.specs.Heap.{HeapName, HeapFacts}
pub use Rattle.negotiation_inputs.specs.Heaps.{is_heap_byte, is_heap_type, IsHeapName}
pub use Rattle.negotiation_inputs.specs.Heaps.{has_domains, has_heap, has_permitted}
use Rattle.record_reading.specs.declared.fault.Code.TheVariants as code
use Rattle.record_reading.specs.declared.fault.Fault.{Fault}
use Rattle.record_reading.specs.declared.fault.FaultPlace.TheVariants.{At}
use Rattle.record_reading.specs.Faults.{wrong}
use Rattle.record_reading.specs.Reading.Fields.{◌>>=◌, passing, kept, read_each}
use Rattle.record_reading.specs.Reading.Fields.{object_of, required, number_or, flag_or}
use Rattle.record_reading.specs.Reading.Fields.{text_of, list_of, named}
use Rattle.record_reading.specs.Reading.Names.{domain_named}

-- a heap's type, which takes memory
abbrev pub heap_type_of : Option Field → Data → Result (List ℕ) Fault
heap_type_of lack d = do
  text ← text_of field.HeapType d
  heap_type ← passing (wrong code.WrongKind field.HeapType) is_heap_type text
  kept lack field.HeapType heap_type

-- the name of a heap: its type, and its id
abbrev pub heap_name_of : Option Field → Data → Result HeapName Fault
heap_name_of lack d = do
  heap_type ← required field.HeapType (heap_type_of lack) d
  id ← number_or field.Id 0 (2 ^ 64 - 1) d
  Ok (record { heap_type = heap_type; id = id })

-- before the first item
abbrev pub no_domains : CoherencyDomains
no_domains = record { cpu = false; ram = false; inaccessible = false }

-- the set, and the domain too
abbrev pub with_domain : CoherencyDomains → CoherencyDomain → CoherencyDomains
with_domain s Cpu = record s { cpu = true }
with_domain s Ram = record s { ram = true }
with_domain s Inaccessible = record s { inaccessible = true }

-- the set, and the domain that an item names, which isn't there yet
abbrev pub with_named : CoherencyDomains → Data → Result CoherencyDomains Fault
with_named s d = do
  domain ← named domain_named field.Domains d
  new ← passing (wrong code.BadPlatformList field.Domains) (λ domain. not (has_domain s domain))
      domain
  Ok (with_domain s new)

-- a list of domains that isn't empty, with none twice
abbrev pub domains_of : Data → Result CoherencyDomains Fault
domains_of d = do
  items ← list_of field.Domains d
  domains ← read_each with_named no_domains items
  passing (wrong code.BadPlatformList field.Domains) has_domains domains

-- the fields of a platform's heap
abbrev pub heap_info_fields : List Field
heap_info_fields = field.HeapType ∷ field.Id ∷ field.Contiguous ∷ field.Secure ∷ field.Domains ∷ []

-- a platform's heap, neither contiguous nor secure where it doesn't say so
abbrev pub heap_of : Option Field → Data → Result HeapFacts Fault
heap_of lack d = do
  _ ← object_of (At field.Heaps) heap_info_fields d
  heap ← heap_name_of lack d
  contiguous ← flag_or field.Contiguous false d
  secure ← flag_or field.Secure false d
  domains ← required field.Domains domains_of d
  Ok (record { heap = heap; contiguous = contiguous; secure = secure; domains = domains })

-- the heaps, and the one that an item states: the 65th is refused before a repeated one
abbrev pub with_heap : Option Field → List HeapFacts → Data → Result (List HeapFacts) Fault
with_heap lack heaps d = do
  heap ← heap_of lack d
  roomy ← passing (wrong code.TooMany field.Heaps) (λ _. nat_lt (length heaps) MOST_HEAPS) heap
  new ← passing (wrong code.BadPlatformList field.Heaps) (λ heap. not (has_heap heaps heap)) roomy
  kept lack field.Heaps (heaps ++ new ∷ [])

-- a list of heaps that isn't empty: at most 64, and none twice
abbrev pub heaps_of : Option Field → Data → Result (List HeapFacts) Fault
heaps_of lack d = do
  items ← list_of field.Heaps d
  heaps ← read_each (with_heap lack) [] items
  passing (wrong code.BadPlatformList field.Heaps) (λ heaps. not (length heaps == 0)) heaps

-- the fields of a permitted heap
abbrev pub name_fields : List Field
name_fields = field.HeapType ∷ field.Id ∷ []

-- a heap that a participant permits: its name alone
abbrev pub permitted_heap : Option Field → Data → Result HeapName Fault
permitted_heap lack d = do
  _ ← object_of (At field.PermittedHeaps) name_fields d
  heap_name_of lack d

-- the permitted heaps, and the one that an item states: the 65th is refused before a repeated one
abbrev pub with_permitted : Option Field → List HeapName → Data → Result (List HeapName) Fault
with_permitted lack heaps d = do
  heap ← permitted_heap lack d
  roomy ← passing (wrong code.TooMany field.PermittedHeaps)
      (λ _. nat_lt (length heaps) MOST_HEAPS) heap
  new ← passing (wrong code.RepeatedHeap field.PermittedHeaps)
      (λ heap. not (has_permitted heaps heap)) roomy
  kept lack field.PermittedHeaps (heaps ++ new ∷ [])

-- a list of at most 64 heaps, with none twice; an empty list permits every heap
abbrev pub permitted_of : Option Field → Data → Result (List HeapName) Fault
permitted_of lack d = do
  items ← list_of field.PermittedHeaps d
  read_each (with_permitted lack) [] items
