-- Of participants a reason why no settings meet them is true, or some settings meet them.
use Rattle.std.proofs.Common.{◌≡◌, ◌⊎◌, inl, inr, arith, ℕ, ◌<◌, ◌≤◌, max, Bool, true, false, List, [], ◌∷◌, All, Any, Contains, Option, Some, None, refl}
use Rattle.std.proofs.lemmas.Bool.{cases_lt}
use Rattle.std.proofs.lemmas.List.Elements.{All-nil, All-cons, All-weaker, All-contains}
use Rattle.list_lemmas.proofs.CallerLemmas.{All-unmap, find_passes, of_some}
use Rattle.sysmem_counts.specs.Counts.{greatest, needed, IsCounted, IsCountLine, IsFixedCountLine}
use Rattle.sysmem_counts.specs.declared.constraints.CountConstraints.{CountConstraints}
use Rattle.sysmem_counts.specs.declared.field.Field.{Field}
use Rattle.sysmem_counts.specs.declared.field.Field.TheVariants.{MinBufferCount, MaxBufferCount, BufferCountLimit}
use Rattle.sysmem_counts.specs.declared.usage.Usage.{Usage}
use Rattle.sysmem_formats.specs.declared.offer.Offer.{Offer}
use Rattle.sysmem_memory.proofs.CallerLemmas.{listed_is_place}
use Rattle.sysmem_memory.specs.declared.domain.CoherencyDomain.{CoherencyDomain}
use Rattle.sysmem_memory.specs.declared.place.Place.{Place}
use Rattle.sysmem_memory.specs.Heap.{HeapFacts}
use Rattle.sysmem_memory.specs.Listed.{HeapPlace, places_of}
use Rattle.sysmem_memory.specs.Place.{IsPlace, IsRefused, HasNoPlace}
use Rattle.sysmem_memory.specs.PlaceTable.{PlaceDemand, AllowsPlace, refuses_by, first_refusing, place_fields}
use Rattle.sysmem_memory.specs.Wishes.{MemoryWishes}
use Rattle.sysmem_merge.specs.declared.reason.Reason.{Reason}
use Rattle.sysmem_merge.specs.declared.reason.Reason.TheVariants.{Count, NoPlace, NoOffer}
use Rattle.sysmem_merge.specs.declared.settings.Settings.{Settings}
use Rattle.offer_fits.specs.Demands.{counts_asked, place_demand, place_demands, offer_demand, offer_demands}
use Rattle.offer_fits.specs.Fit.{CoversFit}
use Rattle.sysmem_merge.specs.Fit.{fit_of}
use Rattle.sysmem_merge.specs.Reasons.{IsOfferRefused, IsReason}
use Rattle.sysmem_merge.specs.Settings.{MeetsLoosely, MeetsAs}
use Rattle.negotiation_inputs.specs.Participant.{Participant}
use Rattle.negotiation_inputs.specs.Platform.{PlatformFacts, offers_of}
use Rattle.verdict_claims.proofs.Deciding.{any_or_all}
use Rattle.verdict_claims.proofs.OfferCases.{NamedFit, refused_or_fit}

-- some field refuses the place to who asks this, or none does
pub refuses_or_allows : (m : MemoryWishes) (u : Usage) (h : HeapFacts) (d : CoherencyDomain) → ((f : Field) × (refuses_by f m u h d ≡ true)) ⊎ AllowsPlace m u h d
refuses_or_allows m u h d = at (first_refusing m u h d) refl where
  at : (o : Option Field) → first_refusing m u h d ≡ o → ((f : Field) × (refuses_by f m u h d ≡ true)) ⊎ AllowsPlace m u h d
  at None is = inr is
  at (Some f) is = inl (f, of_some (λ x. refuses_by x m u h d ≡ true) (first_refusing m u h d) f is (find_passes (λ x. refuses_by x m u h d) place_fields))

pub refused_or_allowed : (h : HeapFacts) (d : CoherencyDomain) (ps : List PlaceDemand) → IsRefused h d ps ⊎ All (λ p. AllowsPlace p.memory p.usage h d) ps
refused_or_allowed h d ps = elim (any_or_all (λ p. (f : Field) × (refuses_by f p.memory p.usage h d ≡ true)) (λ p. AllowsPlace p.memory p.usage h d)
    (λ p. refuses_or_allows p.memory p.usage h d) ps) as (λ _. IsRefused h d ps ⊎ All (λ p. AllowsPlace p.memory p.usage h d) ps) [
      | inl any ↦ inl (any.4.0, (any.0, any.1, any.2, any.3, any.4.1))
      | inr all ↦ inr all
    ]

-- a place of the heaps that all allow
pub record AllowedPlace (heaps : List HeapFacts) (ps : List PlaceDemand) : Type 0 where
  pub at : HeapPlace
  pub is : IsPlace heaps at.place at.heap
  pub allowed : All (λ p. AllowsPlace p.memory p.usage at.heap at.place.coherency) ps

place_or_none : (heaps : List HeapFacts) (ps : List PlaceDemand) → AllowedPlace heaps ps ⊎ HasNoPlace heaps ps
place_or_none heaps ps = by (any_or_all (λ q. All (λ p. AllowsPlace p.memory p.usage q.heap q.place.coherency) ps) (λ q. IsRefused q.heap q.place.coherency ps) tell (places_of heaps)) where
  tell : (q : HeapPlace) → All (λ p. AllowsPlace p.memory p.usage q.heap q.place.coherency) ps ⊎ IsRefused q.heap q.place.coherency ps
  tell q = elim (refused_or_allowed q.heap q.place.coherency ps) as (λ _. All (λ p. AllowsPlace p.memory p.usage q.heap q.place.coherency) ps ⊎ IsRefused q.heap q.place.coherency ps) [
    | inl refused ↦ inr refused
    | inr allowed ↦ inl allowed
  ]

  by : Any (λ q. All (λ p. AllowsPlace p.memory p.usage q.heap q.place.coherency) ps) (places_of heaps) ⊎ All (λ q. IsRefused q.heap q.place.coherency ps) (places_of heaps)
      → AllowedPlace heaps ps ⊎ HasNoPlace heaps ps
  by (inl any) = inl (record { at = any.1; is = (listed_is_place heaps any.1.place any.1.heap).1 (any.0, any.2, any.3); allowed = any.4 })
  by (inr all) = inr (λ q h at. All-contains (λ q. IsRefused q.heap q.place.coherency ps) (places_of heaps) (record { place = q; heap = h }) all ((listed_is_place heaps q h).0 at))

-- none of a list is above its greatest
all_greatest : {X : Type 0} (f : X → ℕ) (xs : List X) → All (λ x. f x ≤ greatest f xs) xs
all_greatest f [] = All-nil (λ x. f x ≤ 0)
all_greatest f (x ∷ xs) = All-cons (λ y. f y ≤ max (f x) (greatest f xs)) x xs (omega arith)
    (All-weaker (λ y. f y ≤ greatest f xs) (λ y. f y ≤ max (f x) (greatest f xs)) (λ y h. omega (arith, h)) xs (all_greatest f xs))

-- a number that is neither below what they need nor above a maximum
-- of theirs or the limit suits them
counted_by : (ps : List CountConstraints) (count : ℕ) → needed ps ≤ count → All (λ p. count ≤ p.max_buffer_count) ps → count ≤ 128 → IsCounted ps count
counted_by ps count enough within small = record {
  some = omega (arith, enough);
  together = omega (arith, enough);
  minimum = All-weaker (λ p. p.min_buffer_count ≤ greatest (λ q. q.min_buffer_count) ps) (λ p. p.min_buffer_count ≤ count) (λ p h. omega (arith, enough, h)) ps
      (all_greatest (λ q. q.min_buffer_count) ps);
  maximum = within;
  limit = small;
}

count_or_line : (ps : List CountConstraints) → IsCounted ps (needed ps) ⊎ ((field : Field) × IsCountLine field ps)
count_or_line ps = elim (any_or_all (λ p. p.max_buffer_count < needed ps) (λ p. needed ps ≤ p.max_buffer_count) (λ p. cases_lt p.max_buffer_count (needed ps)) ps)
    as (λ _. IsCounted ps (needed ps) ⊎ ((field : Field) × IsCountLine field ps)) [
      | inl above ↦ inr (MaxBufferCount, above)
      | inr within ↦ elim (cases_lt 128 (needed ps)) as (λ _. IsCounted ps (needed ps) ⊎ ((field : Field) × IsCountLine field ps)) [
        | inl above ↦ inr (BufferCountLimit, above)
        | inr small ↦ inl (counted_by ps (needed ps) (omega arith) within small)
      ]
    ]

-- of a count that is fixed, up to the limit
pub fixed_count_or_line : (count : ℕ) (ps : List CountConstraints) → count ≤ 128 → ((field : Field) × IsFixedCountLine count field ps) ⊎ IsCounted ps count
fixed_count_or_line count ps small = elim (cases_lt count (needed ps)) as (λ _. ((field : Field) × IsFixedCountLine count field ps) ⊎ IsCounted ps count) [
  | inl more ↦ inl (MinBufferCount, more)
  | inr enough ↦ elim (any_or_all (λ p. p.max_buffer_count < count) (λ p. count ≤ p.max_buffer_count) (λ p. cases_lt p.max_buffer_count count) ps)
      as (λ _. ((field : Field) × IsFixedCountLine count field ps) ⊎ IsCounted ps count) [
        | inl above ↦ inl (MaxBufferCount, above)
        | inr within ↦ inr (counted_by ps count enough within small)
      ]
]

-- settings of an offer with a fit of it, in a place, of a count
abbrev pub settings_with : (whole : Bool) (ps : List Participant) (o : Offer) → NamedFit whole (offer_demands ps) o → Place → ℕ → Settings
settings_with whole ps o fit place count = record { offer = o; place = place; count = count; size_bytes = fit.0.size; bounds = fit.0.bounds }

-- they meet participants who allow the place and whom the count suits
pub meets_with : (whole : Bool) (platform : PlatformFacts) (ps : List Participant) (o : Offer) (fit : NamedFit whole (offer_demands ps) o) (place : Place) (heap : HeapFacts) (count : ℕ)
    → Contains (offers_of platform) o → IsPlace platform.heaps place heap → All (λ d. AllowsPlace d.memory d.usage heap place.coherency) (place_demands ps)
    → IsCounted (counts_asked ps) count → MeetsAs whole platform ps (settings_with whole ps o fit place count)
meets_with whole platform ps o fit place heap count has at allowed counted = by whole refl where
  loosely : MeetsLoosely platform ps (settings_with whole ps o fit place count)
  loosely = record {
    heap = heap;
    sound = record { offer = has; place = at; fit = fit.0.meets.sound };
    covers = λ k d below. record {
      fit = All-unmap (CoversFit (fit_of (settings_with whole ps o fit place count))) offer_demand ps fit.0.meets.covers k d below;
      place = All-unmap (λ d. AllowsPlace d.memory d.usage heap place.coherency) place_demand ps allowed k d below;
    };
    counted = counted;
  }

  by : (w : Bool) → whole ≡ w → MeetsAs w platform ps (settings_with whole ps o fit place count)
  by false is = loosely
  by true is = record { loosely = loosely; named = fit.1 is }

pub reason_or_met : (whole : Bool) (platform : PlatformFacts) (ps : List Participant) → ((reason : Reason) × IsReason whole platform ps reason) ⊎ ((t : Settings) × MeetsAs whole platform ps t)
reason_or_met whole platform ps = elim (count_or_line (counts_asked ps)) as (λ _. Cases) [
  | inr line ↦ inl (Count line.0, line.1)
  | inl counted ↦ elim (place_or_none platform.heaps (place_demands ps)) as (λ _. Cases) [
    | inr none ↦ inl (NoPlace, none)
    | inl place ↦ elim (any_or_all (NamedFit whole (offer_demands ps)) (λ o. IsOfferRefused whole o (offer_demands ps)) (refused_or_fit whole (offer_demands ps)) (offers_of platform))
        as (λ _. Cases) [
          | inr all ↦ inl (NoOffer, λ o has. All-contains (λ o. IsOfferRefused whole o (offer_demands ps)) (offers_of platform) o all has)
          | inl fit ↦ inr (
            settings_with whole ps fit.1 fit.4 place.at.place (needed (counts_asked ps)),
            meets_with whole platform ps fit.1 fit.4 place.at.place place.at.heap (needed (counts_asked ps)) (fit.0, fit.2, fit.3) place.is place.allowed counted,
          )
        ]
  ]
] where
  Cases : Type 0
  Cases = ((reason : Reason) × IsReason whole platform ps reason) ⊎ ((t : Settings) × MeetsAs whole platform ps t)
