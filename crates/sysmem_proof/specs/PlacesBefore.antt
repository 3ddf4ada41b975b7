-- The places before one, and lines for the first of them.
use Rattle.std.specs.Prelude.{ℕ, ◌++◌, ◌≤◌, Bool, false, List, [], length, take}
use Rattle.std.specs.List.{AllZip}
use Rattle.sysmem_memory.specs.declared.domain.CoherencyDomain.{CoherencyDomain}
use Rattle.sysmem_memory.specs.declared.domain.CoherencyDomain.TheVariants.{Cpu, Ram, Inaccessible}
use Rattle.sysmem_memory.specs.declared.domain.CoherencyDomains.{CoherencyDomains}
use Rattle.sysmem_memory.specs.declared.place.Place.{Place}
use Rattle.sysmem_memory.specs.Heap.{HeapFacts}
use Rattle.sysmem_memory.specs.Listed.{HeapPlace, put_if, places_of}
use Rattle.sysmem_tree.specs.Shape.{Member}
use Rattle.verdict_claims.specs.Conflict.{RefusesPlace}
use Rattle.verdict_claims.specs.Fault.{EachFaults, Faults, LineFaults}
use Rattle.verdict_claims.specs.Line.{LineFacts}

-- a place, if it is there
abbrev pub place_if : Bool → Place → HeapFacts → List HeapPlace
place_if there place heap = put_if there (record { place = place; heap = heap }) []

-- the places of one heap, by its index, in these domains
abbrev pub places_in : ℕ → HeapFacts → CoherencyDomains → List HeapPlace
places_in i heap domains =
    place_if domains.cpu (record { heap = i; coherency = Cpu }) heap
    ++ (place_if domains.ram (record { heap = i; coherency = Ram }) heap
    ++ place_if domains.inaccessible (record { heap = i; coherency = Inaccessible }) heap)

-- the domains of a set that come before one
abbrev pub domains_before : CoherencyDomains → CoherencyDomain → CoherencyDomains
domains_before s Cpu = record { cpu = false; ram = false; inaccessible = false }
domains_before s Ram = record { cpu = s.cpu; ram = false; inaccessible = false }
domains_before s Inaccessible = record { cpu = s.cpu; ram = s.ram; inaccessible = false }

-- the places before one that is in this heap
abbrev pub places_before : List HeapFacts → HeapFacts → Place → List HeapPlace
places_before heaps heap place =
    places_of (take place.heap heaps)
    ++ places_in place.heap heap (domains_before heap.domains place.coherency)

-- the first lines, so many, refuse these places
pub record AreTold (ms : List Member) (places : List HeapPlace) (lines : List LineFacts)
    (many : ℕ) : Type 0 where
  pub each : AllZip (RefusesPlace ms) places (take many lines)
  pub within : many ≤ length lines

-- what fails of a line for each of these places
abbrev pub PlaceLinesFault : List Member → List HeapPlace → List LineFacts → Faults
PlaceLinesFault ms places lines = EachFaults (RefusesPlace ms)
    (λ p line. LineFaults ms (RefusesPlace ms p line) line) places lines
