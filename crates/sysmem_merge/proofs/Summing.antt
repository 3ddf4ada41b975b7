-- What stands for participants and for more of them stands for both together.
use Rattle.std.proofs.Common.{arith, ℕ, ◌≡◌, ◌≤◌, ◌+◌, max, min, false, List, [], ◌∷◌, ◌++◌, All, Option, Some, None, IfSome, IfNone, length-append}
use Rattle.std.proofs.lemmas.List.{map-append}
use Rattle.std.proofs.lemmas.List.Elements.{All-append, All-nil, All-cons, All-head, All-tail}
use Rattle.sysmem_counts.specs.Counts.{HasNoCount, IsLeastCount}
use Rattle.sysmem_counts.specs.Bounds as counts
use Rattle.sysmem_memory.specs.declared.place.Place.{Place}
use Rattle.sysmem_memory.specs.Place as places
use Rattle.sysmem_formats.specs.declared.offer.Offer.TheVariants.{NoImage}
use Rattle.sysmem_merge.specs.declared.pair.KeptPair.{KeptPair}
use Rattle.sysmem_merge.specs.Aggregate.{AreSizes, IsKept}
use Rattle.sysmem_merge.specs.Demands.{OfferDemand, counts_asked, place_demand, place_demands, offer_demand, offer_demands}
use Rattle.sysmem_merge.specs.Asked.{HasCountAndPlace}
use Rattle.sysmem_merge.specs.Pairs.{ArePairsJoined}
use Rattle.sysmem_merge.specs.Sum.{HasNoImage, IsPlaced, SumFacts, SumsUp}
use Rattle.negotiation_inputs.specs.Participant.{Participant}
use Rattle.negotiation_inputs.specs.Platform.{PlatformFacts}
use Rattle.sysmem_merge.proofs.Adding.{map_push}
use Rattle.sysmem_merge.proofs.Sizes.{sizes_push}
use Rattle.sysmem_merge.proofs.Together.{refused_clash}

-- what holds of each of two lists together holds of each of both
pub all_parts : {X : Type 0} (P : X → Type 0) (xs ys : List X) → All P (xs ++ ys) → All P xs × All P ys
all_parts P [] ys all = (All-nil P, all)
all_parts P (x ∷ xs) ys all =
    let rest = all_parts P xs ys (All-tail P x (xs ++ ys) all) in (All-cons P x xs (All-head P x (xs ++ ys) all) rest.0, rest.1)

-- what was found is the first place, or there is none
pub found_place : (platform : PlatformFacts) (ps : List Participant) (o : Option Place) → IfSome o (places.IsFirstPlace platform.heaps (place_demands ps))
    → IfNone o (places.HasNoPlace platform.heaps (place_demands ps)) → IsPlaced platform ps o
found_place platform ps (Some place) first none = first
found_place platform ps None first none = none

-- the least number and the first place are such
pub both_found : (platform : PlatformFacts) (ps : List Participant) (number : ℕ) (place : Place) → IsLeastCount (counts_asked ps) number
    → places.IsFirstPlace platform.heaps (place_demands ps) place → HasCountAndPlace platform ps
both_found platform ps number place counted first = record {
  number = number;
  counted = counted.counted;
  place = place;
  heap = first.info;
  there = first.place;
  allowed = first.allowed;
}

-- where there is no number or no place, they haven't both
pub no_number : (platform : PlatformFacts) (ps : List Participant) → HasNoCount (counts_asked ps) → ¬ (HasCountAndPlace platform ps)
no_number platform ps none has = none has.number has.counted

pub no_place : (platform : PlatformFacts) (ps : List Participant) → places.HasNoPlace platform.heaps (place_demands ps) → ¬ (HasCountAndPlace platform ps)
no_place platform ps none has = refused_clash has.heap has.place.coherency (place_demands ps) (none has.place has.heap has.there) has.allowed

-- the greater least, and the lesser greatest
sizes_both : (ds es : List OfferDemand) (least greatest more_least more_greatest : ℕ) → AreSizes ds least greatest → AreSizes es more_least more_greatest
    → AreSizes (ds ++ es) (max least more_least) (min greatest more_greatest)
sizes_both ds es least greatest more_least more_greatest first second = record {
  low = λ n. (
    λ within. All-append (λ x. x.min_size_bytes ≤ n) ds es ((first.low n).0 (omega (arith, within))) ((second.low n).0 (omega (arith, within))),
    λ all. let parts = all_parts (λ x. x.min_size_bytes ≤ n) ds es all in omega (arith, (first.low n).1 parts.0, (second.low n).1 parts.1),
  );
  high = λ n small. (
    λ within. All-append (λ x. n ≤ x.max_size_bytes) ds es ((first.high n small).0 (omega (arith, within))) ((second.high n small).0 (omega (arith, within))),
    λ all. let parts = all_parts (λ x. n ≤ x.max_size_bytes) ds es all in omega (arith, (first.high n small).1 parts.0, (second.high n small).1 parts.1),
  );
}

-- each part stands for both lists, so the whole does
pub sums_both : (above more new : SumFacts) (platform : PlatformFacts) (ps qs : List Participant) → SumsUp above platform ps → SumsUp more platform qs
    → counts.IsTallyOf new.counts (counts_asked ps ++ counts_asked qs) → places.AreDomainsLeft new.places platform.heaps (place_demands ps ++ place_demands qs)
    → IsPlaced platform (ps ++ qs) new.place
    → IsKept NoImage (offer_demands ps ++ offer_demands qs) new.no_image
    → ArePairsJoined new.passed new.joined platform.pairs (offer_demands ps ++ offer_demands qs) new.pairs → HasNoImage new.passed false platform (ps ++ qs)
    → new.least_size ≡ max above.least_size more.least_size → new.greatest_size ≡ min above.greatest_size more.greatest_size → new.added ≡ above.added + more.added
    → SumsUp new platform (ps ++ qs)
sums_both above more new platform ps qs first second counted placed place imageless paired passed least greatest many = record {
  counts = rw map-append counted;
  places = rw map-append placed;
  place = place;
  no_image = rw map-append imageless;
  pairs = rw map-append paired;
  passed = passed;
  sizes = rw (map-append, least, greatest) (sizes_both (offer_demands ps) (offer_demands qs) above.least_size above.greatest_size more.least_size more.greatest_size first.sizes second.sizes);
  many = omega (arith, many, first.many, second.many, length-append ps qs);
}

-- each part stands for one more, so the whole does
pub sums_push : (kept new : SumFacts) (platform : PlatformFacts) (ps : List Participant) (p : Participant) → SumsUp kept platform ps
    → counts.IsTallyOf new.counts (counts_asked ps ++ p.counts ∷ []) → places.AreDomainsLeft new.places platform.heaps (place_demands ps ++ place_demand p ∷ [])
    → IsPlaced platform (ps ++ p ∷ []) new.place
    → IsKept NoImage (offer_demands ps ++ offer_demand p ∷ []) new.no_image
    → ArePairsJoined new.passed new.joined platform.pairs (offer_demands ps ++ offer_demand p ∷ []) new.pairs → HasNoImage new.passed false platform (ps ++ p ∷ [])
    → new.least_size ≡ max kept.least_size p.memory.min_size_bytes → new.greatest_size ≡ min kept.greatest_size p.memory.max_size_bytes → new.added ≡ kept.added + 1
    → SumsUp new platform (ps ++ p ∷ [])
sums_push kept new platform ps p sums counted placed place imageless paired passed least greatest many = record {
  counts = rw map_push counted;
  places = rw map_push placed;
  place = place;
  no_image = rw map_push imageless;
  pairs = rw map_push paired;
  passed = passed;
  sizes = rw (map_push, least, greatest) (sizes_push (offer_demands ps) (offer_demand p) kept.least_size kept.greatest_size sums.sizes);
  many = omega (arith, many, sums.many, length-append ps (p ∷ []));
}

-- other pairs of the same participants stand in their place
pub sums_with : (sum : SumFacts) (platform : PlatformFacts) (ps : List Participant) (pairs : List KeptPair) (passed joined : ℕ) → SumsUp sum platform ps
    → ArePairsJoined passed joined platform.pairs (offer_demands ps) pairs → HasNoImage passed false platform ps
    → SumsUp (record {
      counts = sum.counts;
      places = sum.places;
      place = sum.place;
      no_image = sum.no_image;
      pairs = pairs;
      passed = passed;
      joined = joined;
      least_size = sum.least_size;
      greatest_size = sum.greatest_size;
      added = sum.added;
    }) platform ps
sums_with sum platform ps pairs passed joined sums are none = record {
  counts = sums.counts;
  places = sums.places;
  place = sums.place;
  no_image = sums.no_image;
  pairs = are;
  passed = none;
  sizes = sums.sizes;
  many = sums.many;
}
