-- What the first of some participants in a row said of an offer.
use Rattle.std.specs.Prelude.{◌≡◌, ◌≤◌, ◌+◌, ℕ, List, Some, All, length, slice_get, take}
use Rattle.sysmem_formats.specs.declared.offer.Offer.{Offer}
use Rattle.sysmem_merge.specs.declared.offer_read.OfferRead.{OfferRead}
use Rattle.offer_fits.specs.Offers.{IsListed}
use Rattle.offer_fits.specs.Demands.{offer_demand, offer_demands}
use Rattle.sysmem_merge.specs.OfferRead.{IsOfferRead}
use Rattle.negotiation_inputs.specs.Participant.{Participant}
use Rattle.sysmem_tree.specs.Node.{NodeFacts}
use Rattle.verdict_claims.specs.Members.{members_at, participants}
use Rattle.conflict_finding.specs.declared.offer_asked.OfferAsked.{OfferAsked}

-- a participant takes an offer's format and its colour space
abbrev pub TakesOffer : Offer → Participant → Type 0
TakesOffer o p = IsListed o (offer_demand p)

-- of each front of a row what it asks of the offer, as far as there is something
abbrev pub AreFrontReads : List NodeFacts → List ℕ → Offer → List OfferRead → Type 0
AreFrontReads nodes row o reads = (k : ℕ) (read : OfferRead) → slice_get reads k ≡ Some read
    → IsOfferRead o (offer_demands (participants (members_at nodes (take (k + 1) row)))) read

-- it is true of the first of these participants
pub record IsOfferAsked (nodes : List NodeFacts) (row : List ℕ) (one : OfferAsked) : Type 0 where
  pub takes : All (TakesOffer one.offer) (participants (members_at nodes (take one.taking row)))
  pub few : length one.reads.items ≤ length row
  pub reads : AreFrontReads nodes row one.offer one.reads.items
