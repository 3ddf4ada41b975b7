-- Offers of which no settings meet participants.
use Rattle.std.proofs.Common.{arith, ℕ, ◌+◌, ◌≡◌, ◌≤◌, inl, inr, max, Bool, false, List, [], ◌∷◌, ◌++◌, Some, Contains, length, map, take, drop, slice_get, sym, ap, ◌∙◌, subst}
use Rattle.std.proofs.lemmas.Bool.{cases_lt}
use Rattle.std.proofs.lemmas.List.{take-take, take_all, take-append-drop}
use Rattle.std.proofs.lemmas.Grind.{flat_map-append}
use Rattle.std.proofs.lemmas.List.Elements.{Contains-append_left, Contains-append_right, Contains-append_cases}
use Rattle.list_lemmas.specs.Some.{AreSomeOf}
use Rattle.sysmem_counts.specs.Counts.{IsLeastCount}
use Rattle.sysmem_formats.specs.declared.offer.Offer.{Offer}
use Rattle.sysmem_formats.specs.declared.offer.Offer.TheVariants.{NoImage, Image}
use Rattle.sysmem_formats.specs.declared.offer.Pair.{Pair}
use Rattle.sysmem_formats.specs.Offers.{images}
use Rattle.sysmem_memory.specs.declared.place.Place.{Place}
use Rattle.sysmem_memory.specs.Place.{IsFirstPlace}
use Rattle.offer_fits.specs.declared.fit.Fit.{Fit}
use Rattle.sysmem_merge.specs.Asked.{settings_of}
use Rattle.sysmem_merge.specs.Best.{IsBest, IsEarlierOffer, IsUnmet}
use Rattle.sysmem_merge.specs.Demands.{counts_asked, place_demands, offer_demands}
use Rattle.sysmem_merge.specs.FirstFit.{IsFirstFit}
use Rattle.sysmem_merge.specs.Reasons.{AreOffersRefused}
use Rattle.sysmem_merge.specs.Sum.{HasNone, HasNoImage}
use Rattle.negotiation_inputs.specs.Participant.{Participant}
use Rattle.negotiation_inputs.specs.Platform.{PlatformFacts, offers_of}
use Rattle.sysmem_merge.proofs.FirstFits.{place_of}
use Rattle.sysmem_merge.proofs.PairFits.{earlier_after, earlier_before, images_more, offers_split}
use Rattle.sysmem_merge.proofs.SomeMet.{some_met}
use Rattle.sysmem_merge.proofs.Together.{best_of, loosely, refused_none}

-- more participants have none of what some have none of
pub none_more : (n : ℕ) (platform : PlatformFacts) (some all : List Participant) → AreSomeOf some all → HasNoImage n false platform some → HasNoImage n false platform all
none_more n platform some all among none t meets has = none t (some_met platform some all t among meets) has

-- the further of two places up to which there is none
pub none_further : (m n : ℕ) (platform : PlatformFacts) (ps : List Participant) → HasNoImage m false platform ps → HasNoImage n false platform ps → HasNoImage (max m n) false platform ps
none_further m n platform ps one two = elim (cases_lt m n) as (λ _. HasNoImage (max m n) false platform ps) [
  | inl less ↦ let is : n ≡ max m n = omega (arith, less) in subst (λ k. HasNoImage k false platform ps) is two
  | inr more ↦ let is : m ≡ max m n = omega (arith, more) in subst (λ k. HasNoImage k false platform ps) is one
]

module _ (whole : Bool) (platform : PlatformFacts) (ps : List Participant) where
  -- of no pair there is no image
  pub none_first : HasNoImage 0 whole platform ps
  none_first t meets has = let at = place_of [] t.offer has in absurd (omega (arith, at.1))

  -- none that are refused
  pub none_of_refused : (os : List Offer) → AreOffersRefused whole os (offer_demands ps) → HasNone os whole platform ps
  none_of_refused os refused t meets has = refused_none whole platform ps t meets (refused t.offer has)

  -- none with the names where there are none without
  pub none_as : (n : ℕ) → HasNoImage n false platform ps → HasNoImage n whole platform ps
  none_as n none t meets has = none t (loosely whole platform ps t meets) has

  -- none of fewer pairs
  pub none_fewer : (m n : ℕ) → m ≤ n → HasNoImage n whole platform ps → HasNoImage m whole platform ps
  none_fewer m n less none t meets has =
      let front = take m (take n platform.pairs) in
      let back = drop m (take n platform.pairs) in
      let same : images front platform.colours ++ images back platform.colours ≡ images (take n platform.pairs) platform.colours =
      sym (flat_map-append (λ p. map (λ c. Image p c) platform.colours) front back) ∙ ap (λ xs. images xs platform.colours) (take-append-drop m (take n platform.pairs)) in
      none t meets (subst (λ os. Contains os t.offer) same (Contains-append_left (images front platform.colours) (images back platform.colours) t.offer
      (subst (λ xs. Contains (images xs platform.colours) t.offer) (sym (take-take m n platform.pairs less)) has)))

  -- none of one pair more
  pub none_next : (n : ℕ) (pair : Pair) → slice_get platform.pairs n ≡ Some pair → HasNoImage n whole platform ps → AreOffersRefused whole (map (Image pair) platform.colours) (offer_demands ps)
      → HasNoImage (n + 1) whole platform ps
  none_next n pair here none refused t meets has =
      elim (Contains-append_cases (images (take n platform.pairs) platform.colours) (map (Image pair) platform.colours) t.offer
      (subst (λ os. Contains os t.offer) (images_more n platform.pairs platform.colours pair here) has)) as (λ _. ⊥) [
        | inl before ↦ none t meets before
        | inr now ↦ refused_none whole platform ps t meets (refused t.offer now)
      ]

  -- the first of a pair's offers is best, where there is none before
  pub best_pair : (n : ℕ) (pair : Pair) (fit : Fit) (place : Place) (count : ℕ) → slice_get platform.pairs n ≡ Some pair → HasNone (NoImage ∷ []) whole platform ps → HasNoImage n whole platform ps
      → IsFirstFit whole (map (Image pair) platform.colours) (offer_demands ps) fit → IsFirstPlace platform.heaps (place_demands ps) place → IsLeastCount (counts_asked ps) count
      → IsBest whole platform ps (settings_of fit place count)
  best_pair n pair fit place count here no_image none found =
      let before = NoImage ∷ images (take n platform.pairs) platform.colours in
      let these = map (Image pair) platform.colours in
      let rest = images (drop (n + 1) platform.pairs) platform.colours in
      let split = offers_split n platform.pairs platform.colours pair here in
      best_of whole platform ps fit place count
      (subst (λ os. Contains os fit.offer) split (Contains-append_right before (these ++ rest) fit.offer (Contains-append_left these rest fit.offer found.offered)))
      found.best found.named
      (λ t meets earlier.
      elim (earlier_after before (these ++ rest) t.offer fit.offer (subst (λ os. IsEarlierOffer os t.offer fit.offer) (sym split) earlier)) as (λ _. ⊥) [
        | inl has ↦ elim (Contains-append_cases (NoImage ∷ []) (images (take n platform.pairs) platform.colours) t.offer has) as (λ _. ⊥) [
          | inl plain ↦ no_image t meets plain
          | inr image ↦ none t meets image
        ]
        | inr behind ↦ refused_none whole platform ps t meets (found.first t.offer (earlier_before these rest t.offer fit.offer found.offered behind))
      ])

  -- where there is none of any pair, none meet them
  pub none_left : (n : ℕ) → length platform.pairs ≤ n → HasNone (NoImage ∷ []) whole platform ps → HasNoImage n whole platform ps → IsUnmet whole platform ps
  none_left n all no_image none t meets =
      let has : Contains (offers_of platform) t.offer = (loosely whole platform ps t meets).sound.offer in
      elim (Contains-append_cases (NoImage ∷ []) (images platform.pairs platform.colours) t.offer has) as (λ _. ⊥) [
        | inl plain ↦ no_image t meets plain
        | inr image ↦ none t meets (subst (λ xs. Contains (images xs platform.colours) t.offer) (sym (take_all n platform.pairs all)) image)
      ]
