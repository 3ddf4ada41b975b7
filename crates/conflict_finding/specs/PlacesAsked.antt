-- What participants said of places.
use Rattle.std.specs.Prelude.{◌≡◌, true, List, [], Option, Some, All, Any, IfNone}
use Rattle.std.specs.Prelude.{IfSome, IsSomeAnd, slice_get}
use Rattle.std.specs.List.{cons_option}
use Rattle.sysmem_counts.specs.declared.field.Field.{Field}
use Rattle.sysmem_memory.specs.declared.domain.CoherencyDomain.{CoherencyDomain}
use Rattle.sysmem_memory.specs.Heap.{HeapFacts}
use Rattle.sysmem_memory.specs.PlaceTable.{AllowsPlace, first_refusing, refuses_by}
use Rattle.negotiation_inputs.specs.Participant.{Participant}
use Rattle.sysmem_tree.specs.Node.{NodeFacts}
use Rattle.conflict_finding.specs.declared.places_asked.KeptAnswer.{KeptAnswer}
use Rattle.conflict_finding.specs.declared.places_asked.PlacesAsked.{PlacesAsked}

-- what a participant, if there is one, says of a coherency domain of a heap: the first field
-- that refuses it, or that it takes it
pub record IsPlaceAnswer (asked : Option Participant) (heap : HeapFacts) (domain : CoherencyDomain)
    (answer : Option Field) : Type 0 where
  pub refused : IfSome answer (λ field.
      Any (λ p. refuses_by field p.memory p.usage heap domain ≡ true) (cons_option asked []))
  pub allowed : IfNone answer
      (All (λ p. AllowsPlace p.memory p.usage heap domain) (cons_option asked []))
  pub first : IfSome answer
      (λ field. IsSomeAnd asked (λ p. first_refusing p.memory p.usage heap domain ≡ Some field))

-- it is what the participant at its node says of its place
abbrev pub IsAsked : List NodeFacts → List HeapFacts → KeptAnswer → Type 0
IsAsked nodes heaps one = IfSome (slice_get nodes one.number)
    (λ n. IfSome (slice_get heaps one.place.heap)
    (λ heap. IsPlaceAnswer n.constraints heap one.place.coherency one.refused))

-- whatever stands in the slots is
abbrev pub AreSlots : List NodeFacts → List HeapFacts → List (Option KeptAnswer) → Type 0
AreSlots nodes heaps slots = All (λ slot. IfSome slot (IsAsked nodes heaps)) slots

-- whatever is kept is
abbrev pub AreAsked : List NodeFacts → List HeapFacts → PlacesAsked → Type 0
AreAsked nodes heaps asked = AreSlots nodes heaps asked.slots.items
