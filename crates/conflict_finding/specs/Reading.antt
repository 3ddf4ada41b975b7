-- What is read of an offer until one participant refuses it altogether.
use Rattle.std.specs.Prelude.{◌≡◌, ℕ, Bool, true, List, [], ◌∷◌, Contains}
use Rattle.sysmem_counts.specs.declared.field.Field.{Field}
use Rattle.sysmem_counts.specs.declared.field.Field.TheVariants.{PixelFormat, ColorSpaces}
use Rattle.sysmem_formats.specs.declared.offer.Offer.{Offer}
use Rattle.offer_fits.specs.Demands.{OfferDemand, offer_demands}
use Rattle.sysmem_merge.specs.First.{IsFirstOf}
use Rattle.sysmem_merge.specs.OfferRead.{IsOfferRead, IsRefusingLine, offer_lines}
use Rattle.offer_fits.specs.Offers.{has_format, has_colour}
use Rattle.offer_fits.specs.OfferLines.{IsOfferLine}
use Rattle.sysmem_tree.specs.Node.{NodeFacts}
use Rattle.conflict_finding.specs.declared.first_refusing.Reading.{Reading}
use Rattle.conflict_finding.specs.declared.first_refusing.Reading.TheVariants.{Refused, Read}
use Rattle.verdict_claims.specs.Members.{participants, members_at}

-- a participant takes the part of an offer that the field speaks of: its format or its colour space
abbrev pub TakesIn : Field → Offer → OfferDemand → Type 0
TakesIn PixelFormat o d = has_format o d ≡ true
TakesIn ColorSpaces o d = has_colour o d ≡ true
TakesIn _ o d = Unit {0}

-- the field is the first of the table that is true of what is asked of the offer, also where the
-- lines of what nobody names count
abbrev pub HeadsFirst : Offer → List OfferDemand → Field → Type 0
HeadsFirst o ds field = (whole : Bool) → IsFirstOf (IsRefusingLine whole o ds) offer_lines field

-- what participants of a tree ask of the offer was read, or the line is the first that is true of
-- them, and true of one of them alone
abbrev pub IsReading : List NodeFacts → List ℕ → Offer → Reading → Type 0
IsReading nodes ns o (Refused field node) = Contains ns node
    × IsOfferLine field o (offer_demands (participants (members_at nodes (node ∷ []))))
    × HeadsFirst o (offer_demands (participants (members_at nodes ns))) field
IsReading nodes ns o (Read read) =
    IsOfferRead o (offer_demands (participants (members_at nodes ns))) read
