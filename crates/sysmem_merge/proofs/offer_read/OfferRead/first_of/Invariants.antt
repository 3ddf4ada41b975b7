use Rattle.std.proofs.Common.{◌≡◌, ℕ, ◌<◌, List, Some, slice_get}
use Rattle.sysmem_counts.specs.declared.field.Field.{Field}
use Rattle.sysmem_formats.specs.declared.offer.Offer.{Offer}
use Rattle.sysmem_merge.specs.Demands.{OfferDemand}
use Rattle.sysmem_merge.specs.OfferRead.{IsOfferRead, IsRefusingLine}
use Rattle.sysmem_merge.proofs.offer_read.OfferRead.first_of.Given as goal

-- no line so far is refusing
abbrev pub invariant-loop-field : goal.invariant-loop-field
invariant-loop-field l = (o : Offer) (ds : List OfferDemand) → IsOfferRead o ds l.self
    → (k : ℕ) (other : Field) → k < l.field-index → slice_get l.lines k ≡ Some other → ¬ IsRefusingLine l.whole o ds other
