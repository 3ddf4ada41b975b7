-- Conflicts: why no settings meet the participants that are settled.
use Rattle.std.specs.Prelude.{◌≡◌, ◌⊎◌, Bool, true, List, [], ◌∷◌, ◌++◌, Option}
use Rattle.std.specs.Prelude.{Some, None, is_none, Any}
use Rattle.std.specs.List.{AllZip}
use Rattle.sysmem_counts.specs.Counts.{IsCountLine, IsFixedCountLine}
use Rattle.sysmem_formats.specs.declared.offer.Offer.{Offer}
use Rattle.sysmem_memory.specs.Listed.{HeapPlace, places_of}
use Rattle.sysmem_memory.specs.PlaceTable.{IsPlaceLine}
use Rattle.offer_fits.specs.Demands.{counts_asked, place_demands, offer_demands}
use Rattle.offer_fits.specs.OfferLines.{IsOfferLine}
use Rattle.sysmem_merge.specs.Reasons.{IsUnnamedLine}
use Rattle.negotiation_inputs.specs.Platform.{PlatformFacts, offers_of}
use Rattle.sysmem_tree.specs.Forest.{Forest, choices, settled}
use Rattle.sysmem_tree.specs.Shape.{Member}
use Rattle.verdict_claims.specs.declared.conflict.Conflict.{Conflict}
use Rattle.verdict_claims.specs.declared.conflict.Conflict.TheVariants.{Count, Places, Offers}
use Rattle.verdict_claims.specs.declared.conflict.Conflict.TheVariants.{Fixed}
use Rattle.verdict_claims.specs.Base.{Terms}
use Rattle.verdict_claims.specs.Line.{LineFacts}
use Rattle.sysmem_merge.specs.Failing.{FailsOn}
use Rattle.verdict_claims.specs.Members.{participants}
use Rattle.verdict_claims.specs.Naming.{IsTrueOf}

-- the line refuses the place
abbrev pub RefusesPlace : List Member → HeapPlace → LineFacts → Type 0
RefusesPlace ms p line = IsTrueOf ms line.nodes
    (λ ps. IsPlaceLine line.field p.heap p.place.coherency (place_demands ps))

-- the line refuses the offer; where the members are all that a decision has, for want
-- of a name too, whomever it lists
abbrev pub RefusesOffer : Bool → List Member → Offer → LineFacts → Type 0
RefusesOffer whole ms o line = IsTrueOf ms line.nodes
    (λ ps. IsOfferLine line.field o (offer_demands ps)
    ⊎ ((whole ≡ true) × IsUnnamedLine line.field o (offer_demands (participants ms))))

-- of an initial domain: a conflict of what is settled, in each place, or for each offer
abbrev pub IsConflict : PlatformFacts → Forest Member → Conflict → Type 0
IsConflict platform d (Count line) =
    IsTrueOf (settled d) line.nodes (λ ps. IsCountLine line.field (counts_asked ps))
IsConflict platform d (Places lines) =
    AllZip (RefusesPlace (settled d)) (places_of platform.heaps) lines
IsConflict platform d (Offers lines) =
    AllZip (RefusesOffer (is_none (choices d)) (settled d)) (offers_of platform) lines
IsConflict platform d (Fixed field node) = ⊥

-- of an attached domain: the terms' count doesn't suit, where those accepted before may
-- take part; or one participant fails
abbrev pub IsFixedConflict : PlatformFacts → Terms → Forest Member → Conflict → Type 0
IsFixedConflict platform terms d (Count line) =
    IsTrueOf (terms.accepted ++ settled d) line.nodes
    (λ ps. IsFixedCountLine terms.settings.count line.field (counts_asked ps))
IsFixedConflict platform terms d (Fixed field node) =
    IsTrueOf (settled d) (node ∷ []) (λ ps. Any (FailsOn field platform terms.settings) ps)
IsFixedConflict platform terms d (Places lines) = ⊥
IsFixedConflict platform terms d (Offers lines) = ⊥

-- of both kinds of domain
abbrev pub IsConflictFor : PlatformFacts → Option Terms → Forest Member → Conflict → Type 0
IsConflictFor platform None = IsConflict platform
IsConflictFor platform (Some terms) = IsFixedConflict platform terms
