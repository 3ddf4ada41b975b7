-- What is kept of a participant's answer is what the participant says, and what
-- the participant says may be kept.
use Rattle.std.proofs.Common.{◌≡◌, ◌<◌, ℕ, List, Option, Some, None, length, slice_get, sym, subst}
use Rattle.std.specs.Prelude.{IfSome}
use Rattle.std.proofs.lemmas.Option.{same_Some}
use Rattle.list_lemmas.proofs.CallerLemmas.{of_some, slice_get_some}
use Rattle.sysmem_memory.specs.declared.place.Place.{Place}
use Rattle.sysmem_memory.specs.Heap.{HeapFacts}
use Rattle.negotiation_inputs.specs.Participant.{Participant}
use Rattle.sysmem_tree.specs.Node.{NodeFacts}
use Rattle.conflict_finding.specs.declared.places_asked.KeptAnswer.{KeptAnswer}
use Rattle.conflict_finding.specs.PlacesAsked.{IsAsked, IsPlaceAnswer}

module _ (nodes : List NodeFacts) (heaps : List HeapFacts) (o : Option Participant) (node : ℕ) (place : Place) (heap : HeapFacts) (one : KeptAnswer) (number : one.number ≡ node) (at : one.place ≡ place)
    (here : slice_get heaps place.heap ≡ Some heap) (asks : IfSome (slice_get nodes node) (λ n. o ≡ n.constraints)) where
  -- of the node and the place that are asked for
  same : (i j : ℕ) (p q : Place) → i ≡ j → p ≡ q → IfSome (slice_get nodes i) (λ n. IfSome (slice_get heaps p.heap) (λ h. IsPlaceAnswer n.constraints h p.coherency one.refused))
      → IfSome (slice_get nodes j) (λ n. IfSome (slice_get heaps q.heap) (λ h. IsPlaceAnswer n.constraints h q.coherency one.refused))
  same i j p q is also all = subst (λ k. IfSome (slice_get nodes k) (λ n. IfSome (slice_get heaps q.heap) (λ h. IsPlaceAnswer n.constraints h q.coherency one.refused))) is
      (subst (λ (r : Place). IfSome (slice_get nodes i) (λ n. IfSome (slice_get heaps r.heap) (λ h. IsPlaceAnswer n.constraints h r.coherency one.refused))) also all)

  pub is_answer : node < length nodes → IsAsked nodes heaps one → IsPlaceAnswer o heap place.coherency one.refused
  is_answer inside is =
      let (n, there) = slice_get_some nodes node inside in
      subst (λ c. IsPlaceAnswer c heap place.coherency one.refused) (sym (of_some (λ x. o ≡ x.constraints) (slice_get nodes node) n there asks))
      (of_some (λ h. IsPlaceAnswer n.constraints h place.coherency one.refused) (slice_get heaps place.heap) heap here
      (of_some (λ x. IfSome (slice_get heaps place.heap) (λ h. IsPlaceAnswer x.constraints h place.coherency one.refused)) (slice_get nodes node) n there (same one.number node one.place place number at is)))

  pub is_asked : IsPlaceAnswer o heap place.coherency one.refused → IsAsked nodes heaps one
  is_asked says = same node one.number place one.place (sym number) (sym at) (by (slice_get nodes node) asks (slice_get heaps place.heap) here) where
    by : (u : Option NodeFacts) → IfSome u (λ n. o ≡ n.constraints) → (v : Option HeapFacts) → v ≡ Some heap
        → IfSome u (λ n. IfSome v (λ h. IsPlaceAnswer n.constraints h place.coherency one.refused))
    by None a v e = tt
    by (Some n) a None e = absurd (cc)
    by (Some n) a (Some h) e = subst (λ c. IsPlaceAnswer c h place.coherency one.refused) a (subst (λ x. IsPlaceAnswer o x place.coherency one.refused) (sym (same_Some h heap e)) says)
