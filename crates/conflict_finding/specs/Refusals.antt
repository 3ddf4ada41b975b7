-- Lines for one after another of a platform's offers, or of its places.
use Rattle.std.specs.Prelude.{◌≡◌, ◌≢◌, ◌⊎◌, ◌-◌, length, slice_get, Bool, true, false, List, []}
use Rattle.std.specs.Prelude.{◌∷◌}
use Rattle.std.specs.Prelude.{◌++◌, Option, Some, All}
use Rattle.std.specs.List.{AllZip}
use Rattle.sysmem_formats.specs.declared.offer.Offer.{Offer}
use Rattle.sysmem_formats.specs.declared.offer.Offer.TheVariants.{NoImage}
use Rattle.sysmem_memory.specs.Listed.{HeapPlace}
use Rattle.sysmem_memory.specs.PlaceTable.{AllowsPlace}
use Rattle.offer_fits.specs.declared.fit.Fit.{Fit}
use Rattle.offer_fits.specs.Demands.{offer_demands}
use Rattle.offer_fits.specs.Fit.{IsBestFit}
use Rattle.offer_fits.specs.Offers.{is_named}
use Rattle.sysmem_tree.specs.Shape.{Member}
use Rattle.conflict_finding.specs.declared.refusals.Refusals.{Refusals}
use Rattle.conflict_finding.specs.declared.refusals.Refusals.TheVariants.{Whole, UpTo}
use Rattle.verdict_claims.specs.Line.{LineFacts}
use Rattle.verdict_claims.specs.Members.{participants}

-- the members share the offer: some size and bounds of it suit them, and where they are all that a
-- decision has, its names are named
pub record ShareOffer (whole : Bool) (ms : List Member) (o : Offer) : Type 0 where
  pub fit : Fit
  pub best : IsBestFit o (offer_demands (participants ms)) fit
  pub named : whole ≡ true → is_named o (offer_demands (participants ms)) ≡ true

-- the members share the place: none of them refuses it
abbrev pub SharePlace : List Member → HeapPlace → Type 0
SharePlace ms p =
    All (λ one. AllowsPlace one.memory one.usage p.heap p.place.coherency) (participants ms)

-- where lines end: at what they were to go up to, or before it at what is shared
abbrev pub Ends : {X Y : Type 0} → Option Y → (X → Y) → (X → Type 0) → X → Type 0
Ends until key Share x = (until ≡ Some (key x)) ⊎ ((until ≢ Some (key x)) × Share x)

-- a line for each of xs before one at which they end
pub record EndsAt {X : Type 0} (R : X → LineFacts → Type 0) (End : X → Type 0) (xs : List X)
    (lines : List LineFacts) : Type 0 where
  pub before : List X
  pub at : X
  pub behind : List X
  pub there : xs ≡ before ++ at ∷ behind
  pub each : AllZip R before lines
  pub end : End at

-- a line for each, or for each before that one
abbrev pub AreRefusals : {X : Type 0} → (X → LineFacts → Type 0) → (X → Type 0) → List X → Refusals
    → Type 0
AreRefusals R End xs (Whole lines) = AllZip R xs lines
AreRefusals R End xs (UpTo lines) = EndsAt R End xs lines

-- a line for each of xs so far, and these are left
pub record AreSoFar {X : Type 0} (R : X → LineFacts → Type 0) (xs : List X) (lines : List LineFacts)
    (left : List X) : Type 0 where
  pub done : List X
  pub there : xs ≡ done ++ left
  pub each : AllZip R done lines

-- they go on with what is left, or have ended
abbrev pub GoOn : {X : Type 0} → (X → LineFacts → Type 0) → (X → Type 0) → List X → List LineFacts
    → List X → Bool → Type 0
GoOn R End xs lines left true = AreSoFar R xs lines left
GoOn R End xs lines left false = EndsAt R End xs lines

-- the last of some lines refuses an offer of an image
abbrev pub RefusesLast : (Offer → LineFacts → Type 0) → Offer → List LineFacts → Type 0
RefusesLast R o lines =
    o ≢ NoImage → (last : LineFacts) → slice_get lines (length lines - 1) ≡ Some last → R o last

-- there is a last line, and it is such a one
pub record HasLast (R : LineFacts → Type 0) (lines : List LineFacts) : Type 0 where
  pub last : LineFacts
  pub there : slice_get lines (length lines - 1) ≡ Some last
  pub is : R last

-- such a line was put behind the others
pub record HasOneMore (R : LineFacts → Type 0) (old new : List LineFacts) : Type 0 where
  pub line : LineFacts
  pub added : new ≡ old ++ line ∷ []
  pub is : R line
