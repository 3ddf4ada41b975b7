-- The places of a platform as a list.
use Rattle.std.specs.Prelude.{if◌then◌else◌, ℕ, ◌+◌, Bool, List, [], ◌∷◌}
use Rattle.sysmem_memory.specs.declared.domain.CoherencyDomain.TheVariants.{Cpu, Ram, Inaccessible}
use Rattle.sysmem_memory.specs.declared.place.Place.{Place}
use Rattle.sysmem_memory.specs.Heap.{HeapFacts}

-- a place, and what the platform says of its heap
pub record HeapPlace : Type 0 where
  pub place : Place
  pub heap : HeapFacts

-- x before the others, if it is there
abbrev pub put_if : {X : Type 0} → Bool → X → List X → List X
put_if there x xs = if there then x ∷ xs else xs

-- the places of these heaps, the first of which has the index i
abbrev pub places_from : ℕ → List HeapFacts → List HeapPlace
places_from i [] = []
places_from i (h ∷ hs) =
    put_if h.domains.cpu (record { place = record { heap = i; coherency = Cpu }; heap = h })
    (put_if h.domains.ram (record { place = record { heap = i; coherency = Ram }; heap = h })
    (put_if h.domains.inaccessible
    (record { place = record { heap = i; coherency = Inaccessible }; heap = h })
    (places_from (i + 1) hs)))

-- the places of a platform with these heaps
abbrev pub places_of : List HeapFacts → List HeapPlace
places_of heaps = places_from 0 heaps
