-- Which platform and which participants structs state.
use Rattle.std.specs.Prelude.{◌≡◌, List}
use Rattle.std.specs.List.{AllZip}
use Rattle.sysmem_counts.specs.Usage.{usage_bits}
use Rattle.sysmem_counts.specs.declared.usage.Usage.{Usage}
use Rattle.sysmem_formats.specs.declared.colour_space.ColourSpace.{ColourSpace}
use Rattle.sysmem_formats.specs.declared.offer.Pair.{Pair}
use Rattle.sysmem_image.specs.declared.entry.Entry.{Entry}
use Rattle.negotiation_inputs.specs.Amiss.{PlatformAmiss, ParticipantAmiss}
use Rattle.negotiation_inputs.specs.Participant.{IsParticipant, Participant}
use Rattle.negotiation_inputs.specs.Platform.{IsPlatform, PlatformFacts}
use Rattle.flat_negotiation.specs.declared.parts.flat.FlatParticipant.{FlatParticipant}
use Rattle.flat_negotiation.specs.declared.parts.flat.FlatPlatform.{FlatPlatform}
use Rattle.flat_negotiation.specs.declared.parts.unsaid.Amiss.{Amiss}
use Rattle.flat_negotiation.specs.Colours.{ColourUnsaid, IsColourSaid}
use Rattle.flat_negotiation.specs.Entries.{EntryUnsaid, IsEntrySaid}
use Rattle.flat_negotiation.specs.Heaps.{heaps_said}
use Rattle.flat_negotiation.specs.Pairs.{IsPairSaid, PairUnsaid}
use Rattle.flat_negotiation.specs.Unsaid.{IsAmiss}
use Rattle.flat_negotiation.specs.Wishes.{counts_said, memory_said}

-- the platform has the heaps, pairs and colour spaces of the struct, and may have them
pub record IsPlatformSaid (flat : FlatPlatform) (platform : PlatformFacts) : Type 0 where
  pub heaps : platform.heaps ≡ heaps_said 0 flat.heaps.now
  pub pairs : AllZip IsPairSaid flat.pairs.now platform.pairs
  pub colours : AllZip IsColourSaid flat.colours.now platform.colours
  pub is : IsPlatform platform.heaps platform.pairs platform.colours

-- the struct's lists state these pairs and colour spaces, and with its
-- heaps no platform is so in the field
pub record ArePartsAmiss (flat : FlatPlatform) (amiss : Amiss) : Type 0 where
  pub pairs : List Pair
  pub pairs_said : AllZip IsPairSaid flat.pairs.now pairs
  pub colours : List ColourSpace
  pub colours_said : AllZip IsColourSaid flat.colours.now colours
  pub field : PlatformAmiss amiss.field (heaps_said 0 flat.heaps.now) pairs colours

-- a pair or a colour space has no such code, or the parts are those of no platform
pub data IsPlatformAmiss (flat : FlatPlatform) (amiss : Amiss) : Type 0 where
  pair_amiss : IsAmiss PairUnsaid flat.pairs.now amiss → IsPlatformAmiss flat amiss
  colour_amiss : IsAmiss ColourUnsaid flat.colours.now amiss → IsPlatformAmiss flat amiss
  parts_amiss : ArePartsAmiss flat amiss → IsPlatformAmiss flat amiss

-- the participant has what the struct states, and may ask it
pub record IsParticipantSaid (flat : FlatParticipant) (p : Participant) : Type 0 where
  pub usage : usage_bits p.usage ≡ flat.usage
  pub counts : p.counts ≡ counts_said flat
  pub memory : p.memory ≡ memory_said flat
  pub entries : AllZip IsEntrySaid flat.entries.now p.entries
  pub is : IsParticipant p.usage p.memory p.entries

-- the struct states this usage and these entries, and no participant is so in the field
pub record AreWishesAmiss (flat : FlatParticipant) (amiss : Amiss) : Type 0 where
  pub usage : Usage
  pub usage_said : usage_bits usage ≡ flat.usage
  pub entries : List Entry
  pub entries_said : AllZip IsEntrySaid flat.entries.now entries
  pub field : ParticipantAmiss amiss.field usage (memory_said flat) entries

-- an entry states none, or the parts are those of no participant
pub data IsParticipantAmiss (flat : FlatParticipant) (amiss : Amiss) : Type 0 where
  entry_amiss : IsAmiss EntryUnsaid flat.entries.now amiss → IsParticipantAmiss flat amiss
  wishes_amiss : AreWishesAmiss flat amiss → IsParticipantAmiss flat amiss
