-- The places of a platform, their order, and the first one that nobody refuses.
use Rattle.std.specs.Prelude.{◌≡◌, ◌⊎◌, ℕ, ◌<◌, ◌≤◌, Bool, ◌&&◌, List, length, Some, IsTrue}
use Rattle.std.specs.Prelude.{All, is_none, slice_get}
use Rattle.std.specs.List.{list_all}
use Rattle.sysmem_counts.specs.declared.field.Field.{Field}
use Rattle.sysmem_memory.specs.declared.bounds.TheConstants.{MOST_HEAPS}
use Rattle.sysmem_memory.specs.declared.bounds.MemoryBounds.{MemoryBounds}
use Rattle.sysmem_memory.specs.declared.domain.CoherencyDomain.{CoherencyDomain}
use Rattle.sysmem_memory.specs.declared.place.Place.{Place}
use Rattle.sysmem_memory.specs.Domain.{has_domain, rank}
use Rattle.sysmem_memory.specs.Heap.{HeapFacts}
use Rattle.sysmem_memory.specs.Left.{has_left}
use Rattle.sysmem_memory.specs.PlaceTable.{AllowsPlace, IsPlaceLine, PlaceDemand, first_refusing}

-- the place is one of the platform's: its heap is h, which has its coherency domain
pub record IsPlace (heaps : List HeapFacts) (p : Place) (h : HeapFacts) : Type 0 where
  pub heap : slice_get heaps p.heap ≡ Some h
  pub domain : IsTrue (has_domain h.domains p.coherency)

-- places come in the order of their heaps; those of one heap in the order cpu, ram, inaccessible
abbrev pub IsEarlier : Place → Place → Type 0
IsEarlier p q = (p.heap < q.heap) ⊎ ((p.heap ≡ q.heap) × (rank p.coherency < rank q.coherency))

-- some field refuses the coherency domain of the heap to some participant of the list
abbrev pub IsRefused : HeapFacts → CoherencyDomain → List PlaceDemand → Type 0
IsRefused h d ps = (f : Field) × IsPlaceLine f h d ps

-- the place is the platform's, nobody refuses it, and each earlier one is refused by somebody
pub record IsFirstPlace (heaps : List HeapFacts) (ps : List PlaceDemand) (p : Place) : Type 0 where
  pub info : HeapFacts
  pub place : IsPlace heaps p info
  pub allowed : All (λ d. AllowsPlace d.memory d.usage info p.coherency) ps
  pub earlier : (q : Place) (h : HeapFacts) → IsPlace heaps q h → IsEarlier q p
      → IsRefused h q.coherency ps

-- each place of the platform is refused by somebody
abbrev pub HasNoPlace : List HeapFacts → List PlaceDemand → Type 0
HasNoPlace heaps ps = (q : Place) (h : HeapFacts) → IsPlace heaps q h → IsRefused h q.coherency ps

-- the heap has the domain, and nobody refuses it
abbrev pub is_left : HeapFacts → List PlaceDemand → CoherencyDomain → Bool
is_left h ps d =
    has_domain h.domains d && list_all (λ p. is_none (first_refusing p.memory p.usage h d)) ps

-- what is kept of each heap is the domains that nobody of the list refuses
pub record AreDomainsLeft (kept : MemoryBounds) (heaps : List HeapFacts)
    (ps : List PlaceDemand) : Type 0 where
  pub limit : length heaps ≤ MOST_HEAPS
  pub exactly : (k : ℕ) (h : HeapFacts) (d : CoherencyDomain) → slice_get heaps k ≡ Some h
      → has_left kept k d ≡ is_left h ps d
