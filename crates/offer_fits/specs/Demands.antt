-- What participants ask of each part of settings.
use Rattle.std.specs.Prelude.{ℕ, List, map}
use Rattle.sysmem_counts.specs.declared.constraints.CountConstraints.{CountConstraints}
use Rattle.sysmem_image.specs.declared.entry.Entry.{Entry}
use Rattle.sysmem_memory.specs.PlaceTable.{PlaceDemand}
use Rattle.negotiation_inputs.specs.Participant.{Participant}

-- what the participants ask of the buffer count
abbrev pub counts_asked : List Participant → List CountConstraints
counts_asked ps = map (λ p. p.counts) ps

-- what a participant asks of a place: its memory constraints and its usage
abbrev pub place_demand : Participant → PlaceDemand
place_demand p = record { memory = p.memory; usage = p.usage }

-- what the participants ask of a place
abbrev pub place_demands : List Participant → List PlaceDemand
place_demands ps = map place_demand ps

-- what is asked of an offer: entries, and the sizes in bytes that are taken
pub record OfferDemand : Type 0 where
  pub entries : List Entry
  pub min_size_bytes : ℕ
  pub max_size_bytes : ℕ

-- what a participant asks of an offer
abbrev pub offer_demand : Participant → OfferDemand
offer_demand p = record {
  entries = p.entries;
  min_size_bytes = p.memory.min_size_bytes;
  max_size_bytes = p.memory.max_size_bytes;
}

-- what the participants ask of an offer
abbrev pub offer_demands : List Participant → List OfferDemand
offer_demands ps = map offer_demand ps
