-- The laws of heaps' names, of places' order and of refusals.
use Rattle.std.specs.Prelude.{◌≡◌, ◌↔◌, true, List, All, Contains}
use Rattle.std.specs.List.{AllPairs}
use Rattle.sysmem_counts.specs.declared.field.Field.{Field}
use Rattle.sysmem_memory.specs.declared.domain.CoherencyDomain.{CoherencyDomain}
use Rattle.sysmem_memory.specs.declared.place.Place.{Place}
use Rattle.sysmem_memory.specs.Heap.{HeapName, HeapFacts, same_heap}
use Rattle.sysmem_memory.specs.Listed.{places_of}
use Rattle.sysmem_memory.specs.PlaceTable.{AllowsPlace, IsPlaceLine, PlaceDemand}
use Rattle.sysmem_memory.specs.Place.{IsPlace, IsEarlier, IsFirstPlace, HasNoPlace}

-- two names are of one heap exactly where they are equal
abbrev pub SameHeapIsEqual : Type 0
SameHeapIsEqual = (a b : HeapName) → (same_heap a b ≡ true) ↔ (a ≡ b)

-- no place comes before itself
abbrev pub NoPlaceBeforeItself : Type 0
NoPlaceBeforeItself = (p : Place) → ¬ IsEarlier p p

-- what comes before a place comes before each later one
abbrev pub EarlierIsTransitive : Type 0
EarlierIsTransitive = (p q r : Place) → IsEarlier p q → IsEarlier q r → IsEarlier p r

-- of two places neither of which comes before the other, both are the same
abbrev pub PlacesAreInOneOrder : Type 0
PlacesAreInOneOrder = (p q : Place) → ¬ IsEarlier p q → ¬ IsEarlier q p → p ≡ q

-- where a field refuses a place to one of some participants, no participants
-- among whom these are all allow it
abbrev pub TrueLineLeavesNoPlace : Type 0
TrueLineLeavesNoPlace =
    (f : Field) (h : HeapFacts) (d : CoherencyDomain) (qs ps : List PlaceDemand)
    → IsPlaceLine f h d qs → All (Contains ps) qs → ¬ All (λ p. AllowsPlace p.memory p.usage h d) ps

-- a list of participants has one first place at most
abbrev pub OneFirstPlace : Type 0
OneFirstPlace =
    (heaps : List HeapFacts) (ps : List PlaceDemand) (p q : Place) → IsFirstPlace heaps ps p
    → IsFirstPlace heaps ps q → p ≡ q

-- where each place is refused by somebody, no place is allowed by all
abbrev pub RefusedByAllIsNoPlace : Type 0
RefusedByAllIsNoPlace =
    (heaps : List HeapFacts) (ps : List PlaceDemand) → HasNoPlace heaps ps
    → (p : Place) (h : HeapFacts) → IsPlace heaps p h
    → ¬ All (λ d. AllowsPlace d.memory d.usage h p.coherency) ps

-- the list of a platform's places has each of them with its heap, and nothing else
abbrev pub ListedIsPlace : Type 0
ListedIsPlace = (heaps : List HeapFacts) (p : Place) (h : HeapFacts)
    → IsPlace heaps p h ↔ Contains (places_of heaps) (record { place = p; heap = h })

-- each place of the list comes before all later ones
abbrev pub ListedInOrder : Type 0
ListedInOrder = (heaps : List HeapFacts)
    → AllPairs (λ a b. IsEarlier a.place b.place) (places_of heaps)
