-- What is kept of participants apart from their platform: of those that a prefix settles,
-- and of those that one choice does.
use Rattle.std.specs.Prelude.{◌≡◌, ℕ, List, Bool, false, Contains, length, take, Option, MatchOption}
use Rattle.std.specs.Prelude.{IsPermutation}
use Rattle.sysmem_counts.specs.Bounds as counts
use Rattle.sysmem_counts.specs.Tally.{Tally}
use Rattle.sysmem_memory.specs.declared.bounds.MemoryBounds.{MemoryBounds}
use Rattle.sysmem_formats.specs.declared.offer.Offer.{Offer}
use Rattle.sysmem_formats.specs.declared.offer.Offer.TheVariants.{NoImage}
use Rattle.sysmem_formats.specs.Offers.{images}
use Rattle.sysmem_memory.specs.declared.place.Place.{Place}
use Rattle.sysmem_memory.specs.Place as places
use Rattle.sysmem_merge.specs.declared.kept.KeptOffer.{KeptOffer}
use Rattle.sysmem_merge.specs.declared.pair.KeptPair.{KeptPair}
use Rattle.sysmem_merge.specs.Aggregate.{AreSizes, IsKept}
use Rattle.sysmem_merge.specs.Demands.{counts_asked, place_demands, offer_demands}
use Rattle.sysmem_merge.specs.declared.settings.Settings.{Settings}
use Rattle.sysmem_merge.specs.Pairs.{ArePairsJoined}
use Rattle.sysmem_merge.specs.Settings.{MeetsAs}
use Rattle.negotiation_inputs.specs.Participant.{Participant}
use Rattle.negotiation_inputs.specs.Platform.{PlatformFacts}

-- what is kept of counts, of places, of the offer of no image, of pairs and of sizes; the first
-- place that is left; how many pairs are passed, and up to which they are joined; how many
-- participants they are
pub record SumFacts : Type 0 where
  pub counts : Tally
  pub places : MemoryBounds
  pub place : Option Place
  pub no_image : KeptOffer
  pub pairs : List KeptPair
  pub passed : ℕ
  pub joined : ℕ
  pub least_size : ℕ
  pub greatest_size : ℕ
  pub added : ℕ

-- it is the first place that nobody of these participants refuses, or there is none
abbrev pub IsPlaced : PlatformFacts → List Participant → Option Place → Type 0
IsPlaced platform ps found =
    MatchOption found (places.HasNoPlace platform.heaps (place_demands ps))
    (places.IsFirstPlace platform.heaps (place_demands ps))

-- no settings with one of these offers meet the participants
abbrev pub HasNone : List Offer → Bool → PlatformFacts → List Participant → Type 0
HasNone os whole platform ps =
    (t : Settings) → MeetsAs whole platform ps t → ¬ (Contains os t.offer)

-- nor do any with an image of the first n pairs
abbrev pub HasNoImage : ℕ → Bool → PlatformFacts → List Participant → Type 0
HasNoImage n whole platform =
    HasNone (images (take n platform.pairs) platform.colours) whole platform

-- the sum is that of these participants on the platform, part by part: of pairs those that are
-- joined, and no image of those that are passed suits them
pub record SumsUp (sum : SumFacts) (platform : PlatformFacts) (ps : List Participant) : Type 0 where
  pub counts : counts.IsTallyOf sum.counts (counts_asked ps)
  pub places : places.AreDomainsLeft sum.places platform.heaps (place_demands ps)
  pub place : IsPlaced platform ps sum.place
  pub no_image : IsKept NoImage (offer_demands ps) sum.no_image
  pub pairs : ArePairsJoined sum.passed sum.joined platform.pairs (offer_demands ps) sum.pairs
  pub passed : HasNoImage sum.passed false platform ps
  pub sizes : AreSizes (offer_demands ps) sum.least_size sum.greatest_size
  pub many : sum.added ≡ length ps

-- each pair is joined
pub record IsWhole (platform : PlatformFacts) (sum : SumFacts) : Type 0 where
  pub from : sum.passed ≡ 0
  pub to : sum.joined ≡ length platform.pairs

-- a sum of participants is their sum in any order
abbrev pub SumsInAnyOrder : Type 0
SumsInAnyOrder = (sum : SumFacts) (platform : PlatformFacts) (ps qs : List Participant)
    → IsPermutation ps qs → SumsUp sum platform ps → SumsUp sum platform qs
