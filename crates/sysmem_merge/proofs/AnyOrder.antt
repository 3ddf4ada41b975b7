-- What stands for participants stands for them in any order.
use Rattle.std.proofs.Common.{ℕ, ◌≡◌, ◌≤◌, ◌<◌, ◌^◌, ◌&&◌, Bool, true, false, List, All, Any, Option, Some, None, refl, sym, ap, ◌∙◌}
use Rattle.std.proofs.lemmas.List.Sorted.{All-permutation, Contains-permutation, IsPermutation-map, IsPermutation-sym, list_any-IsPermutation, length_permutation}
use Rattle.std.proofs.lemmas.List.Sums.{AllPass-from_list_all, list_all-from_AllPass}
use Rattle.std.specs.Int.{◌∣◌}
use Rattle.std.specs.List.{list_all}
use Rattle.std.specs.List.Sorted.{IsPermutation}
use Rattle.sysmem_counts.proofs.CallerLemmas.{tally_in_order}
use Rattle.sysmem_counts.specs.Bounds as counts
use Rattle.sysmem_counts.specs.Tally.{Tally}
use Rattle.sysmem_counts.specs.declared.constraints.CountConstraints.{CountConstraints}
use Rattle.sysmem_counts.specs.declared.field.Field.TheVariants.{PixelFormat, ColorSpaces, SizeAlignment, BytesPerRowDivisor, StartOffsetDivisor, DisplayRectAlignment}
use Rattle.sysmem_formats.specs.declared.offer.Offer.{Offer}
use Rattle.sysmem_formats.specs.declared.offer.Offer.TheVariants.{NoImage, Image}
use Rattle.sysmem_formats.specs.declared.offer.Pair.{Pair}
use Rattle.sysmem_image.specs.declared.bounds.ImageBounds.{ImageBounds}
use Rattle.sysmem_image.specs.Entries.{first_match}
use Rattle.sysmem_image.specs.Fields as bound
use Rattle.sysmem_image.specs.Fields.{Bound, Keeps, rule_of, value, own_value}
use Rattle.sysmem_image.specs.Lines.{MeetsIn}
use Rattle.sysmem_image.specs.Merged.{IsMergeOf, MergedOf}
use Rattle.sysmem_memory.specs.declared.bounds.MemoryBounds.{MemoryBounds}
use Rattle.sysmem_memory.specs.declared.domain.CoherencyDomain.{CoherencyDomain}
use Rattle.sysmem_memory.specs.declared.place.Place.{Place}
use Rattle.sysmem_memory.specs.Domain.{has_domain}
use Rattle.sysmem_memory.specs.Heap.{HeapFacts}
use Rattle.sysmem_memory.specs.PlaceTable.{AllowsPlace, PlaceDemand}
use Rattle.sysmem_memory.specs.Place as places
use Rattle.offer_fits.proofs.CallerLemmas.{asked_all, asked_each}
use Rattle.sysmem_merge.specs.declared.kept.KeptBounds.{KeptBounds}
use Rattle.sysmem_merge.specs.declared.kept.KeptBounds.TheVariants.{Merged, Refused}
use Rattle.sysmem_merge.specs.declared.kept.KeptOffer.{KeptOffer}
use Rattle.sysmem_merge.specs.declared.pair.KeptPair.{KeptPair}
use Rattle.sysmem_merge.specs.Aggregate.{AreSizes, IsListed, AreKeptBounds, IsKept}
use Rattle.sysmem_merge.specs.Demands.{OfferDemand, counts_asked, place_demand, place_demands, offer_demand, offer_demands}
use Rattle.sysmem_merge.specs.Laws.{StandsInAnyOrder}
use Rattle.sysmem_merge.specs.Offers.{has_format, has_colour, Asks, bounds_asked, names_format, names_modifier, names_colour}
use Rattle.sysmem_merge.specs.Pairs.{in_colour, ArePairsJoined, IsPairKept}
use Rattle.sysmem_merge.specs.Sum.{IsPlaced, SumsInAnyOrder}
use Rattle.list_lemmas.proofs.CallerLemmas.{some_in_order}
use Rattle.sysmem_merge.proofs.Passed.{none_more}
use Rattle.negotiation_inputs.specs.Participant.{Participant}
use Rattle.negotiation_inputs.specs.Platform.{PlatformFacts}

-- two tests that pass together are one
same_bool : (a b : Bool) → (a ≡ true → b ≡ true) → (b ≡ true → a ≡ true) → a ≡ b
same_bool true true there back = refl
same_bool true false there back = sym (there refl)
same_bool false true there back = back refl
same_bool false false there back = refl

-- a test that all pass, all pass in another order
all_half : {X : Type 0} (p : X → Bool) (xs ys : List X) → IsPermutation xs ys → list_all p xs ≡ true → list_all p ys ≡ true
all_half p xs ys order is = list_all-from_AllPass p ys (All-permutation (λ x. p x ≡ true) xs ys order (AllPass-from_list_all p xs is))

-- so it answers the same of them in any order
all_in_order : {X : Type 0} (p : X → Bool) (xs ys : List X) → IsPermutation xs ys → list_all p xs ≡ list_all p ys
all_in_order p xs ys order = same_bool (list_all p xs) (list_all p ys) (all_half p xs ys order) (all_half p ys xs (IsPermutation-sym xs ys order))

-- what some have, some have in another order
any_in_order : {X : Type 0} (P : X → Type 0) (xs ys : List X) → IsPermutation xs ys → Any P xs → Any P ys
any_in_order P xs ys order (k, x, below, is, p) = let at = Contains-permutation xs ys x order (k, below, is) in (at.0, x, at.1, at.2, p)

-- what the bounds asked have, they have in another order
bounds_in_order : (o : Offer) (P : ImageBounds → Type 0) (ds es : List OfferDemand) → IsPermutation ds es → All P (bounds_asked o ds) → All P (bounds_asked o es)
bounds_in_order o P ds es order all = asked_all o P es (All-permutation (Asks o P) ds es order (asked_each o P ds all))

-- nor does what a number is merged of depend on the order
merge_in_order : (R : ℕ → ℕ → Type 0) (own : ℕ) (f : ImageBounds → ℕ) (o : Offer) (ds es : List OfferDemand) (m : ℕ) → IsPermutation ds es
    → IsMergeOf R own f (bounds_asked o ds) m → IsMergeOf R own f (bounds_asked o es) m
merge_in_order R own f o ds es m order row = record {
  suits = row.suits;
  exactly = λ n keeps. (
    λ r. bounds_in_order o (λ e. R (f e) n) ds es order ((row.exactly n keeps).0 r),
    λ all. (row.exactly n keeps).1 (bounds_in_order o (λ e. R (f e) n) es ds (IsPermutation-sym ds es order) all),
  );
}

-- merged bounds stand for the same participants in another order
merged_in_order : (o : Offer) (ds es : List OfferDemand) (b : ImageBounds) → IsPermutation ds es → MergedOf o (bounds_asked o ds) b → MergedOf o (bounds_asked o es) b
merged_in_order o ds es b order m = record {
  in_range = m.in_range;
  each = λ f side. merge_in_order (Keeps (rule_of f)) (own_value o f side) (value f side) o ds es (value f side b) order (m.each f side);
}

-- what has common multiples has them in another order
meets_in_order : (f : Bound) (o : Offer) (ds es : List OfferDemand) → IsPermutation ds es → MeetsIn f o (bounds_asked o ds) → MeetsIn f o (bounds_asked o es)
meets_in_order f o ds es order meet side = let c = meet side in (
  c.0,
  record {
    some = c.1.some;
    small = c.1.small;
    own = c.1.own;
    each = bounds_in_order o (λ e. value f side e ∣ c.0) ds es order c.1.each;
  },
)

-- and what has none has none
none_in_order : (f : Bound) (o : Offer) (ds es : List OfferDemand) → IsPermutation ds es → ¬ (MeetsIn f o (bounds_asked o ds)) → ¬ (MeetsIn f o (bounds_asked o es))
none_in_order f o ds es order none meet = none (meets_in_order f o es ds (IsPermutation-sym ds es order) meet)

-- what is kept of an offer's bounds
kept_bounds_in_order : (o : Offer) (ds es : List OfferDemand) (kept : KeptBounds) → IsPermutation ds es → AreKeptBounds o ds kept → AreKeptBounds o es kept
kept_bounds_in_order o ds es (Merged b) order are = (merged_in_order o ds es b order are.0, All-permutation (IsListed o) ds es order are.1)
kept_bounds_in_order o ds es (Refused PixelFormat) order are = (are.0, any_in_order (λ d. has_format o d ≡ false) ds es order are.1)
kept_bounds_in_order o ds es (Refused ColorSpaces) order are = (are.0, any_in_order (λ d. has_colour o d ≡ false) ds es order are.1)
kept_bounds_in_order o ds es (Refused SizeAlignment) order are = (are.0, none_in_order bound.SizeAlignment o ds es order are.1)
kept_bounds_in_order o ds es (Refused BytesPerRowDivisor) order are = (are.0, none_in_order bound.BytesPerRowDivisor o ds es order are.1)
kept_bounds_in_order o ds es (Refused StartOffsetDivisor) order are = (are.0, none_in_order bound.StartOffsetDivisor o ds es order are.1)
kept_bounds_in_order o ds es (Refused DisplayRectAlignment) order are = (are.0, none_in_order bound.DisplayRectAlignment o ds es order are.1)
kept_bounds_in_order o ds es (Refused _) order are = absurd are.0

-- and of the offer
kept_in_order : (o : Offer) (ds es : List OfferDemand) (kept : KeptOffer) → IsPermutation ds es → IsKept o ds kept → IsKept o es kept
kept_in_order o ds es kept order is = record {
  bounds = kept_bounds_in_order o ds es kept.bounds order is.bounds;
  format = is.format ∙ list_any-IsPermutation (λ d. names_format (first_match o d.entries)) ds es order;
  modifier = is.modifier ∙ list_any-IsPermutation (λ d. names_modifier (first_match o d.entries)) ds es order;
  colour = is.colour ∙ list_any-IsPermutation (λ d. names_colour o (first_match o d.entries)) ds es order;
}

-- and of sizes
sizes_in_order : (ds es : List OfferDemand) (low high : ℕ) → IsPermutation ds es → AreSizes ds low high → AreSizes es low high
sizes_in_order ds es low high order s = record {
  low = λ n. (
    λ within. All-permutation (λ d. d.min_size_bytes ≤ n) ds es order ((s.low n).0 within),
    λ all. (s.low n).1 (All-permutation (λ d. d.min_size_bytes ≤ n) es ds (IsPermutation-sym ds es order) all),
  );
  high = λ n small. (
    λ within. All-permutation (λ d. n ≤ d.max_size_bytes) ds es order ((s.high n small).0 within),
    λ all. (s.high n small).1 (All-permutation (λ d. n ≤ d.max_size_bytes) es ds (IsPermutation-sym ds es order) all),
  );
}

-- and of counts
counts_in_order : (kept : Tally) (ps qs : List Participant) → IsPermutation ps qs → counts.IsTallyOf kept (counts_asked ps) → counts.IsTallyOf kept (counts_asked qs)
counts_in_order kept ps qs order is =
    let asked = IsPermutation-map (λ (p : Participant). p.counts) ps qs order in record {
      tallied = is.tallied ∙ tally_in_order (counts_asked ps) (counts_asked qs) asked;
      fits = All-permutation (λ (q : CountConstraints). q.max_buffer_count < 2 ^ 32) (counts_asked ps) (counts_asked qs) asked is.fits;
    }

-- and of places
places_in_order : (kept : MemoryBounds) (platform : PlatformFacts) (ps qs : List Participant) → IsPermutation ps qs
    → places.AreDomainsLeft kept platform.heaps (place_demands ps) → places.AreDomainsLeft kept platform.heaps (place_demands qs)
places_in_order kept platform ps qs order is = record {
  limit = is.limit;
  exactly = λ k h d here. is.exactly k h d here
      ∙ ap (λ b. has_domain h.domains d && b) (all_in_order _ (place_demands ps) (place_demands qs) (IsPermutation-map place_demand ps qs order));
}

-- what they refuse is refused
refused_in_order : (h : HeapFacts) (d : CoherencyDomain) (ps qs : List Participant) → IsPermutation ps qs → places.IsRefused h d (place_demands ps) → places.IsRefused h d (place_demands qs)
refused_in_order h d ps qs order (f, line) = (f, any_in_order _ (place_demands ps) (place_demands qs) (IsPermutation-map place_demand ps qs order) line)

-- so their first place is the first, and where they have none there is none
place_in_order : (platform : PlatformFacts) (ps qs : List Participant) → IsPermutation ps qs → (found : Option Place) → IsPlaced platform ps found → IsPlaced platform qs found
place_in_order platform ps qs order (Some place) first = record {
  info = first.info;
  place = first.place;
  allowed = All-permutation (λ (d : PlaceDemand). AllowsPlace d.memory d.usage first.info place.coherency) (place_demands ps) (place_demands qs) (IsPermutation-map place_demand ps qs order) first.allowed;
  earlier = λ q h there before. refused_in_order h q.coherency ps qs order (first.earlier q h there before);
}
place_in_order platform ps qs order None none = λ q h there. refused_in_order h q.coherency ps qs order (none q h there)

-- what stands for participants stands for them in any order
pub stands_in_order : StandsInAnyOrder
stands_in_order kept platform ps qs order stands =
    let offered = IsPermutation-map offer_demand ps qs order in record {
      on = stands.on;
      counts = counts_in_order kept.counts ps qs order stands.counts;
      places = places_in_order kept.places platform ps qs order stands.places;
      offers = record {
        many = stands.offers.many;
        each = λ k o one here got. kept_in_order o (offer_demands ps) (offer_demands qs) one offered (stands.offers.each k o one here got);
      };
      sizes = sizes_in_order (offer_demands ps) (offer_demands qs) kept.least_size kept.greatest_size offered stands.sizes;
      many = stands.many ∙ sym (length_permutation ps qs order);
    }

-- and of a pair
pair_in_order : (pair : Pair) (ds es : List OfferDemand) (kept : KeptPair) → IsPermutation ds es → IsPairKept pair ds kept → IsPairKept pair es kept
pair_in_order pair ds es kept order is = record {
  each = λ c. kept_in_order (Image pair c) ds es (in_colour kept c) order (is.each c);
  plain = is.plain;
}

-- nor does for whom pairs are joined depend on the order
pub joined_in_order : (from to : ℕ) (pairs : List Pair) (ds es : List OfferDemand) (kept : List KeptPair) → IsPermutation ds es → ArePairsJoined from to pairs ds kept → ArePairsJoined from to pairs es kept
joined_in_order from to pairs ds es kept order are = record {
  many = are.many;
  within = are.within;
  these = λ k pair one above below here got. pair_in_order pair ds es one order (are.these k pair one above below here got);
  each = are.each;
}

-- a sum of participants is their sum in any order
pub sums_in_order : SumsInAnyOrder
sums_in_order sum platform ps qs order sums =
    let offered = IsPermutation-map offer_demand ps qs order in record {
      counts = counts_in_order sum.counts ps qs order sums.counts;
      places = places_in_order sum.places platform ps qs order sums.places;
      place = place_in_order platform ps qs order sum.place sums.place;
      no_image = kept_in_order NoImage (offer_demands ps) (offer_demands qs) sum.no_image offered sums.no_image;
      pairs = joined_in_order sum.passed sum.joined platform.pairs (offer_demands ps) (offer_demands qs) sum.pairs offered sums.pairs;
      passed = none_more sum.passed platform ps qs (some_in_order ps qs order) sums.passed;
      sizes = sizes_in_order (offer_demands ps) (offer_demands qs) sum.least_size sum.greatest_size offered sums.sizes;
      many = sums.many ∙ sym (length_permutation ps qs order);
    }
