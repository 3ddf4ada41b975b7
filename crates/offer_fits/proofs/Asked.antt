-- What the participants' entries ask of an offer, as a list of bounds.
use Rattle.std.proofs.Common.{◌≡◌, List, [], ◌∷◌, ◌++◌, Option, Some, None, IfSome, All}
use Rattle.std.proofs.lemmas.List.Elements.{All-nil, All-cons, All-head, All-tail, filter_map-append}
use Rattle.std.specs.List.{cons_option}
use Rattle.sysmem_formats.specs.declared.offer.Offer.{Offer}
use Rattle.sysmem_image.specs.declared.bounds.ImageBounds.{ImageBounds}
use Rattle.offer_fits.specs.Demands.{OfferDemand}
use Rattle.offer_fits.specs.Offers.{entry_bounds, Asks, bounds_asked}

-- one more participant: the bounds of its entry come last
pub bounds_asked_push : (o : Offer) (ds : List OfferDemand) (d : OfferDemand) → bounds_asked o (ds ++ d ∷ []) ≡ bounds_asked o ds ++ cons_option (entry_bounds o d) []
bounds_asked_push o ds d = filter_map-append (entry_bounds o) ds (d ∷ [])

-- what holds of an entry's bounds and of the others holds of all
entry_all : (P : ImageBounds → Type 0) (x : Option ImageBounds) (rest : List ImageBounds) → IfSome x P → All P rest → All P (cons_option x rest)
entry_all P (Some e) rest on all = All-cons P e rest on all
entry_all P None rest on all = all

-- and the other way round
all_entry : (P : ImageBounds → Type 0) (x : Option ImageBounds) (rest : List ImageBounds) → All P (cons_option x rest) → IfSome x P
all_entry P (Some e) rest all = All-head P e rest all
all_entry P None rest all = tt

all_rest : (P : ImageBounds → Type 0) (x : Option ImageBounds) (rest : List ImageBounds) → All P (cons_option x rest) → All P rest
all_rest P (Some e) rest all = All-tail P e rest all
all_rest P None rest all = all

-- what the bounds that each participant asks have, all bounds that are asked have
pub asked_all : (o : Offer) (P : ImageBounds → Type 0) (ds : List OfferDemand) → All (Asks o P) ds → All P (bounds_asked o ds)
asked_all o P [] all = All-nil P
asked_all o P (d ∷ ds) all =
    entry_all P (entry_bounds o d) (bounds_asked o ds) (All-head (Asks o P) d ds all) (asked_all o P ds (All-tail (Asks o P) d ds all))

-- and what all of them have, those that each participant asks have
pub asked_each : (o : Offer) (P : ImageBounds → Type 0) (ds : List OfferDemand) → All P (bounds_asked o ds) → All (Asks o P) ds
asked_each o P [] all = All-nil (Asks o P)
asked_each o P (d ∷ ds) all =
    All-cons (Asks o P) d ds (all_entry P (entry_bounds o d) (bounds_asked o ds) all) (asked_each o P ds (all_rest P (entry_bounds o d) (bounds_asked o ds) all))
