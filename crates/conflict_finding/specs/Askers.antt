-- Participants who ask something of offers, among others.
use Rattle.std.specs.Prelude.{◌≡◌, ◌==◌, ◌||◌, not, ℕ, Bool, List, All, Contains, filter, length}
use Rattle.offer_fits.specs.Demands.{OfferDemand, offer_demand}
use Rattle.negotiation_inputs.specs.Participant.{Participant}
use Rattle.sysmem_tree.specs.Node.{NodeFacts}
use Rattle.sysmem_tree.specs.Nodes.{HasNode}
use Rattle.verdict_claims.specs.Members.{participants, members_at}

-- it has entries, or wants other sizes of buffers than any
abbrev pub asks_offers : OfferDemand → Bool
asks_offers d = not (length d.entries == 0) || not (d.min_size_bytes == 0)
    || not (d.max_size_bytes == 18446744073709551615)

abbrev pub is_asker : Participant → Bool
is_asker p = asks_offers (offer_demand p)

-- some of these nodes, which are those of the participants who ask something of offers
pub record AreAskers (nodes : List NodeFacts) (ns some : List ℕ) : Type 0 where
  pub there : All (HasNode nodes) some
  pub among : All (Contains ns) some
  pub asks : participants (members_at nodes some)
      ≡ filter is_asker (participants (members_at nodes ns))
