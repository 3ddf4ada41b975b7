-- The first of some participants for whom something is true, or all for whom it isn't.
use Rattle.std.proofs.Common.{◌≡◌, ◌<◌, ◌≤◌, inl, inr, ℕ, ◌+◌, Bool, true, false, List, [], ◌∷◌, ◌++◌, length, Option, Some, None, take, get_or, slice_get, sym, subst}
use Rattle.std.specs.Prelude.{◌↔◌, All, Any, Contains, IfSome, IsTrue, MatchOption, is_some, not}
use Rattle.std.specs.List.{cons_option}
use Rattle.std.proofs.lemmas.List.Elements.{All-append}
use Rattle.sysmem_counts.specs.Counts.{IsFixedCountLine}
use Rattle.sysmem_counts.specs.declared.constraints.CountConstraints.{CountConstraints}
use Rattle.sysmem_counts.specs.declared.field.Field.{Field}
use Rattle.sysmem_counts.specs.declared.field.Field.TheVariants.{MinBufferCount, MaxBufferCount}
use Rattle.sysmem_formats.specs.declared.offer.Offer.{Offer}
use Rattle.sysmem_merge.specs.declared.offer_read.OfferRead.{OfferRead}
use Rattle.offer_fits.specs.Demands.{OfferDemand, offer_demands}
use Rattle.sysmem_merge.specs.OfferRead.{IsOfferRead}
use Rattle.negotiation_inputs.specs.Participant.{Participant}
use Rattle.sysmem_tree.specs.Node.{NodeFacts}
use Rattle.sysmem_tree.specs.Nodes.{HasNode}
use Rattle.verdict_claims.specs.Members.{participants, members_at}
use Rattle.conflict_finding.proofs.AskedNodes.{asked_one, asked_more, offers_more, members_whole, node_there}
use Rattle.verdict_claims.proofs.OnRoll.{any_parts}

-- an element by its index is one of a list
pub contained_at : {X : Type 0} (xs : List X) (k : ℕ) (x : X) → k < length xs → x ≡ get_or xs k x → Contains xs x
contained_at xs k x inside here = (k, inside, sym here)

module _ (nodes : List NodeFacts) (ns : List ℕ) (there : All (HasNode nodes) ns) (k n : ℕ) (inside : k < length ns) (here : n ≡ get_or ns k n) (o : Option Participant)
    (asks : IfSome (slice_get nodes n) (λ x. o ≡ x.constraints)) where
  -- what is true of the one at hand is true of what its node asks
  pub one_here : (P : List Participant → Type 0) → P (cons_option o []) → P (participants (members_at nodes (n ∷ [])))
  one_here P p = subst P (sym (asked_one nodes n o (node_there nodes ns k n inside here there) asks)) p

  -- what all so far have and it has, all up to it have
  pub all_more : (P : Participant → Type 0) → All P (participants (members_at nodes (take k ns))) → All P (cons_option o []) → All P (participants (members_at nodes (take (k + 1) ns)))
  all_more P all one = subst (All P) (asked_more nodes ns k n inside here there o asks) (All-append P (participants (members_at nodes (take k ns))) (cons_option o []) all one)

-- what all have up to the last, all have
pub all_have : (nodes : List NodeFacts) (ns : List ℕ) (k : ℕ) (P : Participant → Type 0) → length ns ≤ k → All P (participants (members_at nodes (take k ns))) → All P (participants (members_at nodes ns))
all_have nodes ns k P over all = subst (λ ms. All P (participants ms)) (members_whole nodes ns k over) all

-- a test that fails is false
pub is_false : (t u : Bool) → t ≡ u → IsTrue (not t) → u ≡ false
is_false true u is fails = absurd (cc)
is_false false u is fails = sym is

pub is_true : (t u : Bool) → t ≡ u → not t ≡ false → u ≡ true
is_true true u is fails = sym is
is_true false u is fails = absurd (cc)

-- what is known stays so, whatever would be true else; what isn't known is as it is now
pub still_known : {X : Type 0} (o : Option X) (A C : Type 0) (B : X → Type 0) (t : Bool) → is_some o ≡ not t → t ≡ false → MatchOption o A B → MatchOption o C B
still_known None A C B t is known h = absurd (cc)
still_known (Some x) A C B t is known h = h

pub still_none : {X : Type 0} (o : Option X) (C : Type 0) (B : X → Type 0) (t : Bool) → is_some o ≡ not t → t ≡ true → C → MatchOption o C B
still_none None C B t is none c = c
still_none (Some x) C B t is none c = absurd (cc)

pub was_none : {X : Type 0} (o : Option X) (A : Type 0) (B : X → Type 0) (t : Bool) → is_some o ≡ not t → t ≡ true → MatchOption o A B → A
was_none None A B t is none h = h
was_none (Some x) A B t is none h = absurd (cc)

module _ (nodes : List NodeFacts) (ns : List ℕ) (there : All (HasNode nodes) ns) (k n : ℕ) (inside : k < length ns) (here : n ≡ get_or ns k n) (o : Option Participant)
    (asks : IfSome (slice_get nodes n) (λ x. o ≡ x.constraints)) where
  -- what one more asks of an offer is read
  pub read_more : (offer : Offer) (old new : OfferRead) → IsOfferRead offer (offer_demands (participants (members_at nodes (take k ns)))) old
      → ((f : Offer) (ds : List OfferDemand) → IsOfferRead f ds old → IsOfferRead f (ds ++ offer_demands (cons_option o [])) new)
      → IsOfferRead offer (offer_demands (participants (members_at nodes (take (k + 1) ns)))) new
  read_more offer old new so added = subst (λ ds. IsOfferRead offer ds new) (offers_more nodes ns k n inside here there o asks) (added offer (offer_demands (participants (members_at nodes (take k ns)))) so)

  -- who of all up to one has what none before it has, is that one
  pub last_one : (P : OfferDemand → Type 0) → Any P (offer_demands (participants (members_at nodes (take (k + 1) ns)))) → ¬ (Any P (offer_demands (participants (members_at nodes (take k ns)))))
      → Any P (offer_demands (participants (members_at nodes (n ∷ []))))
  last_one P any none =
      elim (any_parts P (offer_demands (participants (members_at nodes (take k ns)))) (offer_demands (cons_option o [])) (subst (Any P) (sym (offers_more nodes ns k n inside here there o asks)) any))
      as (λ _. Any P (offer_demands (participants (members_at nodes (n ∷ []))))) [
        | inl front ↦ absurd (none front)
        | inr one ↦ subst (λ ps. Any P (offer_demands ps)) (sym (asked_one nodes n o (node_there nodes ns k n inside here there) asks)) one
      ]

-- of a fixed count that doesn't suit, the maximum's line is true where the minimum's isn't
pub other_line : (count : ℕ) (ps : List CountConstraints) (t : Bool) → t ≡ false → IsTrue t ↔ IsFixedCountLine count MinBufferCount ps → (field : Field) → IsFixedCountLine count field ps
    → IsFixedCountLine count MaxBufferCount ps
other_line count ps t no' test MinBufferCount line = (let yes' : t ≡ true = test.1 line in absurd (cc))
other_line count ps t no' test MaxBufferCount line = line
other_line count ps t no' test _ line = absurd line

pub unsuited : (t : Bool) (P : Type 0) → t ≡ false → IsTrue t ↔ P → ¬ P
unsuited t P no' test p = (let yes' : t ≡ true = test.1 p in absurd (cc))
