-- What is kept after one more participant.
use Rattle.std.proofs.Common.{arith, ℕ, length, take, drop, ◌≡◌, ◌+◌, List, [], ◌∷◌, ◌++◌, max, min, map, refl, sym, ap, ◌∙◌, subst, length-append}
use Rattle.std.proofs.Math.Seq.{take-append_seam}
use Rattle.sysmem_counts.specs.Bounds as counts
use Rattle.sysmem_counts.specs.declared.constraints.CountConstraints.{CountConstraints}
use Rattle.sysmem_memory.specs.Heap.{HeapFacts}
use Rattle.sysmem_memory.specs.Place as places
use Rattle.sysmem_memory.specs.PlaceTable.{PlaceDemand}
use Rattle.sysmem_merge.specs.Kept.{Kept}
use Rattle.sysmem_merge.specs.Aggregate.{AreKept, StandsFor}
use Rattle.sysmem_merge.specs.Demands.{OfferDemand, counts_asked, place_demand, place_demands, offer_demand, offer_demands}
use Rattle.negotiation_inputs.specs.Participant.{Participant}
use Rattle.negotiation_inputs.specs.Platform.{PlatformFacts, offers_of}
use Rattle.sysmem_merge.proofs.Sizes.{sizes_push}

-- a list with one more element, each changed alike
pub map_push : {X Y : Type 0} (f : X → Y) (xs : List X) (x : X) → map f (xs ++ x ∷ []) ≡ map f xs ++ f x ∷ []
map_push f [] x = refl
map_push f (y ∷ xs) x = ap (λ rest. f y ∷ rest) (map_push f xs x)

-- a vector whose elements were all written has those that were written
pub all_written : {X : Type 0} (many : ℕ) (old new : List X) → many ≡ length new → take many (new ++ drop (length new) old) ≡ new
all_written many old new is = ap (λ n. take n (new ++ drop (length new) old)) is ∙ take-append_seam new (drop (length new) old)

-- each part stands for one more, so the whole does
pub stands_push : (kept new : Kept) (platform : PlatformFacts) (ps : List Participant) (p : Participant) → StandsFor kept platform ps → new.platform ≡ kept.platform
    → ((asked : List CountConstraints) → counts.IsTallyOf kept.counts asked → counts.IsTallyOf new.counts (asked ++ p.counts ∷ []))
    → ((demands : List PlaceDemand) → places.AreDomainsLeft kept.places kept.platform.heaps demands → places.AreDomainsLeft new.places kept.platform.heaps (demands ++ place_demand p ∷ []))
    → ((ds : List OfferDemand) → AreKept (offers_of kept.platform) ds kept.offers → AreKept (offers_of kept.platform) (ds ++ offer_demand p ∷ []) new.offers)
    → new.least_size ≡ max kept.least_size p.memory.min_size_bytes → new.greatest_size ≡ min kept.greatest_size p.memory.max_size_bytes → new.added ≡ kept.added + 1
    → StandsFor new platform (ps ++ p ∷ [])
stands_push kept new platform ps p stands same counted placed offered least greatest many = record {
  on = same ∙ stands.on;
  counts = rw map_push (counted (counts_asked ps) stands.counts);
  places = subst (λ (f : PlatformFacts). places.AreDomainsLeft new.places f.heaps (place_demands (ps ++ p ∷ []))) stands.on
      (rw map_push (placed (place_demands ps) (subst (λ (f : PlatformFacts). places.AreDomainsLeft kept.places f.heaps (place_demands ps)) (sym stands.on) stands.places)));
  offers = subst (λ (f : PlatformFacts). AreKept (offers_of f) (offer_demands (ps ++ p ∷ [])) new.offers) stands.on
      (rw map_push (offered (offer_demands ps) (subst (λ (f : PlatformFacts). AreKept (offers_of f) (offer_demands ps) kept.offers) (sym stands.on) stands.offers)));
  sizes = rw (map_push, least, greatest) (sizes_push (offer_demands ps) (offer_demand p) kept.least_size kept.greatest_size stands.sizes);
  many = omega (arith, many, stands.many, length-append ps (p ∷ []));
}

-- the heaps that are read are those of the platform that it stands on
pub heaps_read : (kept : Kept) (platform : PlatformFacts) (ps : List Participant) (heaps : List HeapFacts) → StandsFor kept platform ps
    → heaps ≡ kept.platform.heaps → heaps ≡ platform.heaps
heaps_read kept platform ps heaps stands read = read ∙ ap (λ (f : PlatformFacts). f.heaps) stands.on

-- what is kept of the places, for the heaps of the platform as they are read
pub places_kept : (kept : Kept) (platform : PlatformFacts) (ps : List Participant) (heaps : List HeapFacts) → StandsFor kept platform ps
    → heaps ≡ kept.platform.heaps → places.AreDomainsLeft kept.places heaps (place_demands ps)
places_kept kept platform ps heaps stands read =
    subst (λ hs. places.AreDomainsLeft kept.places hs (place_demands ps)) (sym (heaps_read kept platform ps heaps stands read)) stands.places
